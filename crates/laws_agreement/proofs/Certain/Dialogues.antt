-- How dialogues end whose parts end so.
use Rattle.std.proofs.Common.{◌≡◌, List, [], ◌∷◌, Result, Ok, sym, subst, MatchResult}
use Rattle.std.specs.List.{AllByRecursion}
use Rattle.just_host.specs.declared.entry.Entry.{Entry}
use Rattle.meaning_dialogues.specs.Faults.{Fault}
use Rattle.meaning_dialogues.specs.Dialogue.{Dialogue, Ends, Asks, Reads, DialogueGoes, Lookup, Variable, Reading, ◌>>=◌}
use Rattle.meaning_dialogues.specs.Evaluation.{Value}
use Rattle.meaning_evaluation.specs.Groups.{each}
use Rattle.laws_evaluation.specs.Soundness.Endings.{GivesProperly, ReadsAndEnds}
use Rattle.laws_evaluation.proofs.Soundness.Endings.{then_ends}

-- it reads only such variables, and ends in a value of this kind or in a fault other than `internal`
abbrev pub EndsWell : {A : Type 0} → (Lookup → Variable → Type 0) → (A → Type 0) → Dialogue A → Type 0
EndsWell W Q d = ReadsAndEnds W (GivesProperly Q) d

-- one after the other
pub then_well : {A B : Type 0} (W : Lookup → Variable → Type 0) (Q : A → Type 0) (R : B → Type 0) (t : Dialogue A) (k : A → Dialogue B) → EndsWell W Q t → ((a : A) → Q a → EndsWell W R (k a)) → EndsWell W R (t >>= k)
then_well W Q R t k h g = then_ends W (GivesProperly Q) (GivesProperly R) t k (λ fault e. e) h g

-- all in order
pub each_well : {A : Type 0} (W : Lookup → Variable → Type 0) (Q : A → Type 0) (ds : List (Dialogue A)) → AllByRecursion (EndsWell W Q) ds → EndsWell W (AllByRecursion Q) (each ds)
each_well W Q [] h = tt
each_well W Q (d ∷ ds) h = then_well W Q (AllByRecursion Q) d _ h.0 (λ a q. then_well W (AllByRecursion Q) (AllByRecursion Q) (each ds) _ (each_well W Q ds h.1) (λ as' r. (q, r)))

-- it is read with a value
abbrev pub IsRead : Reading → Lookup → Variable → Type 0
IsRead reading place x = (value : Value) × (reading place x ≡ Ok value)

-- what is read with a value leads on
pub at_read : (seen : Result Value Fault) (P : Value → Type 0) (R : Fault → Type 0) → (r : (value : Value) × (seen ≡ Ok value)) → MatchResult seen P R → P r.0
at_read seen P R r h = subst (λ s. MatchResult s P R) r.1 h

module _ {A : Type 0} (W : Lookup → Variable → Type 0) (Q : A → Type 0) (reading : Reading) (is_read : (place : Lookup) (x : Variable) → W place x → IsRead reading place x) where
  -- a dialogue ends so for every host, where what it reads has values
  pub dialogue_ends : (d : Dialogue A) (old new : List Entry) (r : Result A Fault) → EndsWell W Q d → DialogueGoes reading d old new r → GivesProperly Q r
  dialogue_ends (Ends end) old new r h g = subst (GivesProperly Q) (sym g.1) h
  dialogue_ends (Asks question next) old new r h g = dialogue_ends (next g.0) _ new r (h g.0) g.1
  dialogue_ends (Reads place x next) old new r h g = let seen = is_read place x h.0 in dialogue_ends (next seen.0) old new r (h.1 seen.0) (at_read (reading place x) _ _ seen g)
