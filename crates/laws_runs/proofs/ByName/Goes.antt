-- Where one dialogue leads another one leads: by other readings, one after the other, and in a row.
use Rattle.std.proofs.Common.{◌≡◌, List, [], ◌∷◌, ◌++◌, Option, Some, None, Result, Ok, Err, refl, sym, subst, MatchResult}
use Rattle.just_host.specs.declared.entry.Entry.{Entry}
use Rattle.meaning_dialogues.specs.Faults.{Fault}
use Rattle.meaning_dialogues.specs.Dialogue.{Dialogue, Ends, Asks, Reads, ◌>>=◌, DialogueGoes, Evaluates, Reading, Lookup, around, in_module, Variable}
use Rattle.meaning_dialogues.specs.Evaluation.{Value, row}
use Rattle.meaning_dialogues.specs.Calls.{Frame, in_frame}
use Rattle.meaning_dialogues.proofs.Dialogues.{goes_on, stops, weaker}
use Rattle.meaning_evaluation.specs.Stages.Parameters.{or_around, under}
use Rattle.laws_evaluation.specs.Soundness.Endings.{ReadsAndEnds}
use Rattle.laws_evaluation.specs.Terms.Alike.{Alike}
use Rattle.laws_runs.specs.ByName.Evaluators.{or_else, reading_under}

-- what the first reads may be kept beside what corresponds
pub alike_reading : {A : Type 0} (C : Lookup → Variable → Variable → Type 0) (W : Lookup → Variable → Type 0) (P : Result A Fault → Type 0) (t u : Dialogue A) → Alike C t u → ReadsAndEnds W P t → Alike (λ place x y. C place x y × W place x) t u
alike_reading C W P (Ends a) (Ends b) h g = h
alike_reading C W P (Asks q next) (Asks p after) h g = (h.0, λ answer. alike_reading C W P (next answer) (after answer) (h.1 answer) (g answer))
alike_reading C W P (Reads place x next) (Reads there y after) h g = (h.0, (h.1, g.0), λ value. alike_reading C W P (next value) (after value) (h.2 value) (g.1 value))
alike_reading C W P (Ends a) (Asks p after) h g = absurd h
alike_reading C W P (Ends a) (Reads there y after) h g = absurd h
alike_reading C W P (Asks q next) (Ends b) h g = absurd h
alike_reading C W P (Asks q next) (Reads there y after) h g = absurd h
alike_reading C W P (Reads place x next) (Ends b) h g = absurd h
alike_reading C W P (Reads place x next) (Asks p after) h g = absurd h

-- a frame that readings look into first may be put into the dialogue
module _ (frame : Frame) (reading : Reading) where
  at_read : {A : Type 0} (o : Option Value) (x : Variable) (next : Value → Dialogue A) (old new : List Entry) (r : Result A Fault)
      → ((v : Value) → DialogueGoes (reading_under frame reading) (next v) old new r → DialogueGoes reading (under frame (next v)) old new r)
      → MatchResult (or_else o (reading around x)) (λ v. DialogueGoes (reading_under frame reading) (next v) old new r) (λ fault. (new ≡ old) × (r ≡ Err fault))
      → DialogueGoes reading (or_around o (λ v. under frame (next v)) x) old new r
  at_read (Some v) x next old new r go h = go v h
  at_read None x next old new r go h = weaker (reading around x) go (λ fault e. e) h

  pub goes_under : {A : Type 0} (t : Dialogue A) (old new : List Entry) (r : Result A Fault) → DialogueGoes (reading_under frame reading) t old new r → DialogueGoes reading (under frame t) old new r
  goes_under (Ends end) old new r h = h
  goes_under (Asks q next) old new r h = (h.0, goes_under (next h.0) _ new r h.1)
  goes_under (Reads around x next) old new r h = at_read (in_frame frame x.number) x next old new r (λ v g. goes_under (next v) old new r g) h
  goes_under (Reads in_module x next) old new r h = weaker (reading in_module x) (λ v g. goes_under (next v) old new r g) (λ fault e. e) h

module _ (first second : Reading) where
  -- the second leads by its reading wherever the first does by its own
  abbrev pub GoesAs : {A : Type 0} → Dialogue A → Dialogue A → Type 0
  GoesAs {A = A} t u = (old new : List Entry) (r : Result A Fault) → DialogueGoes first t old new r → DialogueGoes second u old new r

  at_value : {A B : Type 0} (G : Type 0) (next : Value → Dialogue A) (k : A → Dialogue B) (old new : List Entry) (r : Result B Fault) (seen : Result Value Fault)
      → ((v : Value) → ((a : A) (mid : List Entry) → DialogueGoes first (next v) old mid (Ok a) → DialogueGoes first (k a) mid new r → G) → ((fault : Fault) → DialogueGoes first (next v) old new (Err fault) → r ≡ Err fault → G)
      → DialogueGoes first (next v >>= k) old new r → G)
      → ((a : A) (mid : List Entry) → MatchResult seen (λ v. DialogueGoes first (next v) old mid (Ok a)) (λ fault. (mid ≡ old) × (Ok a ≡ Err fault)) → DialogueGoes first (k a) mid new r → G)
      → ((fault : Fault) → MatchResult seen (λ v. DialogueGoes first (next v) old new (Err fault)) (λ other. (new ≡ old) × (◌≡◌ {A = Result A Fault} (Err fault) (Err other))) → r ≡ Err fault → G)
      → MatchResult seen (λ v. DialogueGoes first (next v >>= k) old new r) (λ fault. (new ≡ old) × (r ≡ Err fault)) → G
  at_value G next k old new r (Ok v) go on stop h = go v on stop h
  at_value G next k old new r (Err fault) go on stop h = stop fault (h.0, refl) h.1

  -- where one after another leads, the first leads to a value from which the other goes on, or to a fault
  pub parted : {A B : Type 0} (G : Type 0) (t : Dialogue A) (k : A → Dialogue B) (old new : List Entry) (r : Result B Fault)
      → ((a : A) (mid : List Entry) → DialogueGoes first t old mid (Ok a) → DialogueGoes first (k a) mid new r → G) → ((fault : Fault) → DialogueGoes first t old new (Err fault) → r ≡ Err fault → G)
      → DialogueGoes first (t >>= k) old new r → G
  parted G (Ends (Ok a)) k old new r on stop h = on a old (refl, refl) h
  parted G (Ends (Err fault)) k old new r on stop h = stop fault (h.0, refl) h.1
  parted G (Asks q next) k old new r on stop h = parted G (next h.0) k _ new r (λ a mid g. on a mid (h.0, g)) (λ fault g. stop fault (h.0, g)) h.1
  parted G (Reads place x next) k old new r on stop h = at_value G next k old new r (first place x) (λ v on_value stop_value g. parted G (next v) k old new r on_value stop_value g) on stop h

  pub then_goes_as : {A B : Type 0} (t u : Dialogue A) (k l : A → Dialogue B) → GoesAs t u → ((a : A) → GoesAs (k a) (l a)) → GoesAs (t >>= k) (u >>= l)
  then_goes_as t u k l h g old new r d =
      parted (DialogueGoes second (u >>= l) old new r) t k old new r (λ a mid e f. goes_on second u l old mid new a r (h old mid (Ok a) e) (g a mid new r f))
      (λ fault e is. subst (λ s. DialogueGoes second (u >>= l) old new s) (sym is) (stops second u l old new fault (h old new (Err fault) e))) d

  -- two rows, one by one
  abbrev pub EachGoesAs : List (Dialogue Value) → List (Dialogue Value) → Type 0
  EachGoesAs [] [] = Unit {0}
  EachGoesAs (d ∷ ds) (e ∷ es) = GoesAs d e × EachGoesAs ds es
  EachGoesAs [] (e ∷ es) = ⊥
  EachGoesAs (d ∷ ds) [] = ⊥

  pub row_goes_as : (ds es : List (Dialogue Value)) → EachGoesAs ds es → GoesAs (row ds) (row es)
  row_goes_as [] [] h = λ old new r d. d
  row_goes_as (d ∷ ds) (e ∷ es) h = then_goes_as d e _ _ h.0 (λ v. then_goes_as (row ds) (row es) _ _ (row_goes_as ds es h.1) (λ vs old new r g. g))
  row_goes_as [] (e ∷ es) h = absurd h
  row_goes_as (d ∷ ds) [] h = absurd h

  -- where the first is evaluated, so is the second
  pub evaluates_as : {A : Type 0} (t u : Dialogue A) (old new : List Entry) (r : Result A Fault) → GoesAs t u → Evaluates first t old new r → Evaluates second u old new r
  evaluates_as t u old new r as' h = record {
    goes = λ enough. as' old new r (h.goes enough);
    begins = record { rest = h.begins.rest; result = h.begins.result; goes = as' old (new ++ h.begins.rest) h.begins.result h.begins.goes };
  }
