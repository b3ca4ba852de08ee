-- Two dialogues that read corresponding variables lead alike, each in its frame.
use Rattle.std.proofs.Common.{◌≡◌, subst, refl, List, [], ◌∷◌, ◌++◌, Option, Some, None, Result, Err, MatchResult}
use Rattle.just_host.specs.declared.entry.Entry.{Entry}
use Rattle.just_host.specs.declared.entry.Entry.TheVariants.{Asked}
use Rattle.meaning_dialogues.specs.Calls.{Frame, in_frame}
use Rattle.meaning_dialogues.specs.Dialogue.{Asks, Dialogue, DialogueGoes, Ends, Lookup, Reading, Reads, Variable, around, in_module}
use Rattle.meaning_dialogues.specs.Evaluation.{Value}
use Rattle.meaning_dialogues.specs.Faults.{Fault}
use Rattle.meaning_dialogues.proofs.Dialogues.{weaker}
use Rattle.meaning_evaluation.specs.Stages.Parameters.{or_around, under}
use Rattle.laws_evaluation.specs.Terms.Alike.{Alike}
use Rattle.laws_runs.proofs.ByName.Goes.{GoesAs}

module _ (first second : Reading) (frame other : Frame) (C : Lookup → Variable → Variable → Type 0)
    (here : (x y : Variable) → C around x y → (in_frame frame x.number ≡ in_frame other y.number) × (in_frame frame x.number ≡ None → first around x ≡ second around y))
    (there : (x y : Variable) → C in_module x y → first in_module x ≡ second in_module y) where
  read_alike : {A : Type 0} (x y : Variable) (place : Lookup) (next after : Value → Dialogue A) (old new : List Entry) (r : Result A Fault) → first place x ≡ second place y
      → ((v : Value) → DialogueGoes first (next v) old new r → DialogueGoes second (after v) old new r) → DialogueGoes first (Reads place x next) old new r → DialogueGoes second (Reads place y after) old new r
  read_alike x y place next after old new r same go h =
      weaker (second place y) go (λ f g. g) (subst (λ seen. MatchResult seen (λ v. DialogueGoes first (next v) old new r) (λ f. (new ≡ old) × (r ≡ Err f))) same h)

  at_frame : {A : Type 0} (seen found : Option Value) (x y : Variable) (next after : Value → Dialogue A) (old new : List Entry) (r : Result A Fault) → seen ≡ found → (seen ≡ None → first around x ≡ second around y)
      → ((v : Value) → DialogueGoes first (next v) old new r → DialogueGoes second (after v) old new r) → DialogueGoes first (or_around seen next x) old new r → DialogueGoes second (or_around found after y) old new r
  at_frame (Some v) found x y next after old new r same reads go h = subst (λ o. DialogueGoes second (or_around o after y) old new r) same (go v h)
  at_frame None found x y next after old new r same reads go h = subst (λ o. DialogueGoes second (or_around o after y) old new r) same (read_alike x y around next after old new r (reads refl) go h)

  -- each in its frame
  pub under_goes : {A : Type 0} (t u : Dialogue A) → Alike C t u → GoesAs first second (under frame t) (under other u)
  under_goes (Ends a) (Ends b) alike old new r h = subst (λ e. (new ≡ old) × (r ≡ e)) alike h
  under_goes (Asks q next) (Asks p after) alike old new r h =
      (h.0, under_goes (next h.0) (after h.0) (alike.1 h.0) (old ++ Asked p h.0 ∷ []) new r (subst (λ it. DialogueGoes first (under frame (next h.0)) (old ++ Asked it h.0 ∷ []) new r) alike.0 h.1))
  under_goes (Reads around x next) (Reads around y after) alike old new r h =
      let both = here x y alike.1 in
      at_frame (in_frame frame x.number) (in_frame other y.number) x y _ _ old new r both.0 both.1 (λ v g. under_goes (next v) (after v) (alike.2 v) old new r g) h
  under_goes (Reads in_module x next) (Reads in_module y after) alike old new r h =
      read_alike x y in_module _ _ old new r (there x y alike.1) (λ v g. under_goes (next v) (after v) (alike.2 v) old new r g) h
  under_goes (Reads around x next) (Reads in_module y after) alike old new r h = absurd (other_place alike.0)
    where
      other_place : around ≡ in_module → ⊥
      other_place e = cc
  under_goes (Reads in_module x next) (Reads around y after) alike old new r h = absurd (other_place alike.0)
    where
      other_place : in_module ≡ around → ⊥
      other_place e = cc
  under_goes (Ends a) (Asks p after) alike old new r h = absurd alike
  under_goes (Ends a) (Reads place y after) alike old new r h = absurd alike
  under_goes (Asks q next) (Ends b) alike old new r h = absurd alike
  under_goes (Asks q next) (Reads place y after) alike old new r h = absurd alike
  under_goes (Reads place x next) (Ends b) alike old new r h = absurd alike
  under_goes (Reads place x next) (Asks p after) alike old new r h = absurd alike
