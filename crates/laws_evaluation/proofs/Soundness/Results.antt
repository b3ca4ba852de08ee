-- What a dialogue comes to whose ends are so: in a run, as a constant, and by the naive meaning.
use Rattle.std.proofs.Common.{◌≡◌, ℕ, zero, suc, List, Option, Some, None, option_and_then, Result, Ok, Err, refl, subst, MatchResult}
use Rattle.just_host.specs.declared.entry.Entry.{Entry}
use Rattle.just_host.specs.declared.host.Answer.{Answer}
use Rattle.meaning_dialogues.specs.Faults.{Fault}
use Rattle.meaning_dialogues.specs.Dialogue.{Dialogue, Ends, Asks, Reads, DialogueGoes, Reading, Lookup, Variable}
use Rattle.meaning_dialogues.specs.Constants.{settled, settled_read}
use Rattle.meaning_dialogues.specs.Evaluation.{Value}
use Rattle.meaning_dialogues.specs.Meaning.{QuestionAnswers, Meaning, with_meaning, meaning, variable_meaning}
use Rattle.laws_evaluation.specs.Soundness.Endings.{NotInternal, ReadsAndEnds, AnyVariable, NeverInternal}

at_read : {A : Type 0} (P : Result A Fault → Type 0) (go : Value → List Entry → List Entry → Result A Fault → Type 0) (seen : Result Value Fault) (old new : List Entry) (r : Result A Fault)
    → ((fault : Fault) → seen ≡ Err fault → P (Err fault)) → ((value : Value) → go value old new r → P r) → MatchResult seen (λ value. go value old new r) (λ fault. (new ≡ old) × (r ≡ Err fault)) → P r
at_read P go (Ok value) old new r faults then_ h = then_ value h
at_read P go (Err fault) old new r faults then_ h = rw h.1 (faults fault refl)

-- what a dialogue comes to is as each of its ends is, where the reading of each variable that it may read gives a value or a fault that is so
pub comes_to : {A : Type 0} (W : Lookup → Variable → Type 0) (P : Result A Fault → Type 0) (reading : Reading) → ((place : Lookup) (x : Variable) → W place x → (fault : Fault) → reading place x ≡ Err fault → P (Err fault))
    → (t : Dialogue A) (old new : List Entry) (r : Result A Fault) → ReadsAndEnds W P t → DialogueGoes reading t old new r → P r
comes_to W P reading faults (Ends end) old new r e h = rw h.1 e
comes_to W P reading faults (Asks q next) old new r e h = comes_to W P reading faults (next h.0) _ new r (e h.0) h.1
comes_to W P reading faults (Reads p x next) old new r e h =
    at_read P (λ value old new r. DialogueGoes reading (next value) old new r) (reading p x) old new r (faults p x e.0) (λ value g. comes_to W P reading faults (next value) old new r (e.1 value) g) h

at_settled : {A : Type 0} (P : Result A Fault → Type 0) (seen : Result Value Fault) (next : Value → Option (Result A Fault)) (r : Result A Fault) → ((fault : Fault) → seen ≡ Err fault → P (Err fault)) → ((value : Value) → next value ≡ Some r → P r) → settled_read seen next ≡ Some r → P r
at_settled P (Ok value) next r faults go e = go value e
at_settled P (Err fault) next r faults go e = let f : Err fault ≡ r = cc in subst P f (faults fault refl)

-- what a dialogue settles to is as each of its ends is, where the reading of each variable that it may read gives a value or a fault that is so
pub settles_so : {A : Type 0} (W : Lookup → Variable → Type 0) (P : Result A Fault → Type 0) (reading : Reading) → ((place : Lookup) (x : Variable) → W place x → (fault : Fault) → reading place x ≡ Err fault → P (Err fault))
    → (t : Dialogue A) (r : Result A Fault) → ReadsAndEnds W P t → settled reading t ≡ Some r → P r
settles_so W P reading faults (Ends end) r e h = let f : end ≡ r = cc in subst P f e
settles_so W P reading faults (Asks q next) r e h = absurd (cc)
settles_so W P reading faults (Reads p x next) r e h = at_settled P (reading p x) (λ value. settled reading (next value)) r (faults p x e.0) (λ value g. settles_so W P reading faults (next value) r (e.1 value) g) h

at_meant : {A : Type 0} (P : Result A Fault → Type 0) (seen : Meaning Value) (next : Value → Meaning A) (r : Result A Fault) → ((fault : Fault) → seen ≡ Some (Err fault) → P (Err fault)) → ((value : Value) → next value ≡ Some r → P r) → with_meaning seen next ≡ Some r → P r
at_meant P None next r faults go e = absurd (cc)
at_meant P (Some (Err fault)) next r faults go e = let f : Err fault ≡ r = cc in subst P f (faults fault refl)
at_meant P (Some (Ok value)) next r faults go e = go value e

at_answer : {A : Type 0} (P : Result A Fault → Type 0) (o : Option Answer) (next : Answer → Meaning A) (r : Result A Fault) → ((answer : Answer) → next answer ≡ Some r → P r) → option_and_then next o ≡ Some r → P r
at_answer P None next r go e = absurd (cc)
at_answer P (Some answer) next r go e = go answer e

-- what a dialogue means is as each of its ends is, where the meaning of each variable that it may read is a value or a fault that is so
pub means_so : {A : Type 0} (W : Lookup → Variable → Type 0) (P : Result A Fault → Type 0) (answers : QuestionAnswers) (variables : Lookup → Variable → Meaning Value)
    → ((place : Lookup) (x : Variable) → W place x → (fault : Fault) → variables place x ≡ Some (Err fault) → P (Err fault)) → (t : Dialogue A) (r : Result A Fault) → ReadsAndEnds W P t → meaning answers variables t ≡ Some r → P r
means_so W P answers variables faults (Ends end) r e h = let f : end ≡ r = cc in subst P f e
means_so W P answers variables faults (Asks q next) r e h = at_answer P (answers q) (λ answer. meaning answers variables (next answer)) r (λ answer g. means_so W P answers variables faults (next answer) r (e answer) g) h
means_so W P answers variables faults (Reads p x next) r e h = at_meant P (variables p x) (λ value. meaning answers variables (next value)) r (faults p x e.0) (λ value g. means_so W P answers variables faults (next value) r (e.1 value) g) h

at_side : (P : Result Value Fault → Type 0) (o : Option (Dialogue Value)) (means : Dialogue Value → Meaning Value) (r : Result Value Fault) → ((side : Dialogue Value) → o ≡ Some side → means side ≡ Some r → P r) → option_and_then means o ≡ Some r → P r
at_side P None means r go e = absurd (cc)
at_side P (Some side) means r go e = go side refl e

module _ (right_side : Variable → Option (Dialogue Value)) (answers : QuestionAnswers) (sides : (x : Variable) (side : Dialogue Value) → right_side x ≡ Some side → NeverInternal side) where
  -- no variable means `internal` by the naive meaning, whatever is answered, where no right side ends with it
  pub variable_means : (deep : ℕ) (place : Lookup) (x : Variable) (r : Result Value Fault) → variable_meaning right_side answers deep place x ≡ Some r → NotInternal r
  variable_means zero place x r e = absurd (cc)
  variable_means (suc deep) place x r e =
      at_side NotInternal (right_side x) (λ side. meaning answers (variable_meaning right_side answers deep) side) r
      (λ side s g. means_so AnyVariable NotInternal answers (variable_meaning right_side answers deep) (λ p y w fault q. variable_means deep p y (Err fault) q) side r (sides x side s) g) e
