-- Constants ask nothing.
use Rattle.std.proofs.Common.{◌≡◌, ℕ, List, [], ◌∷◌, ◌++◌, Bool, true, false, if◌then◌else◌, Option, Some, Result, Ok, Err, sym, ap, MatchResult}
use Rattle.just_host.specs.declared.entry.Entry.{Entry}
use Rattle.just_value.specs.Values.{joined}
use Rattle.meaning_dialogues.specs.Faults.{Fault}
use Rattle.meaning_dialogues.specs.Dialogue.{Dialogue, Ends, Asks, Reads, ◌>>=◌, DialogueGoes, Reading}
use Rattle.meaning_dialogues.specs.Constants.{settled, settled_read}
use Rattle.meaning_dialogues.specs.Evaluation.{Value, row, sides, comparing, holding, failing, dialogue, dialogues, filled, is_truthy}
use Rattle.meaning_dialogues.specs.Calls.{const_stage}
use Rattle.meaning_dialogues.specs.Terms.{Term, Terms, Holes, literal, command, format, variable, call, assertion, assertion_alone, both, either, negation, comparison, paired, rooted, appended, choice, choice_alone, listing, group, end, more, closed, hole}

-- it asks nothing
abbrev pub Quiet : {A : Type 0} → Dialogue A → Type 0
Quiet (Ends result) = Unit {0}
Quiet (Asks question next) = ⊥
Quiet (Reads place x next) = (value : Value) → Quiet (next value)

then_quiet : {A B : Type 0} (t : Dialogue A) (k : A → Dialogue B) → Quiet t → ((a : A) → Quiet (k a)) → Quiet (t >>= k)
then_quiet (Ends (Ok a)) k h g = g a
then_quiet (Ends (Err e)) k h g = tt
then_quiet (Asks q next) k h g = absurd h
then_quiet (Reads p x next) k h g = λ value. then_quiet (next value) k (h value) g

choice_quiet : {A : Type 0} (b : Bool) (s t : Dialogue A) → Quiet s → Quiet t → Quiet (if b then s else t)
choice_quiet true s t h g = h
choice_quiet false s t h g = g

sides_quiet : (l r : Dialogue Value) → Quiet l → Quiet r → Quiet (sides l r)
sides_quiet l r h g = then_quiet l _ h (λ a. then_quiet r _ g (λ b. tt))

-- each of a row asks nothing
abbrev AllQuiet : List (Dialogue Value) → Type 0
AllQuiet [] = Unit {0}
AllQuiet (d ∷ ds) = Quiet d × AllQuiet ds

row_quiet : (ds : List (Dialogue Value)) → AllQuiet ds → Quiet (row ds)
row_quiet [] h = tt
row_quiet (d ∷ ds) h = then_quiet d _ h.0 (λ v. then_quiet (row ds) _ (row_quiet ds h.1) (λ vs. tt))

module _ (lists : Bool) where
  mutual
    pub const_quiet : (t : Term) → Quiet (dialogue (const_stage lists) t)
    const_quiet (literal cooked text) = tt
    const_quiet (command contents text) = tt
    const_quiet (format cooked text tripled holes) = then_quiet (filled (const_stage lists) cooked holes) _ (filled_quiet cooked holes) (λ whole. tt)
    const_quiet (variable name number) = λ value. tt
    const_quiet (call name file arguments) = tt
    const_quiet (assertion c m) = then_quiet (dialogue (const_stage lists) c) _ (const_quiet c) (λ v. choice_quiet (is_truthy v) _ (failing (dialogue (const_stage lists) m)) tt (then_quiet (dialogue (const_stage lists) m) _ (const_quiet m) (λ w. tt)))
    const_quiet (assertion_alone c) = then_quiet (dialogue (const_stage lists) c) _ (const_quiet c) (λ v. tt)
    const_quiet (both l r) = then_quiet (dialogue (const_stage lists) l) _ (const_quiet l) (λ v. choice_quiet (is_truthy v) (dialogue (const_stage lists) r) _ (const_quiet r) tt)
    const_quiet (either l r) = then_quiet (dialogue (const_stage lists) l) _ (const_quiet l) (λ v. choice_quiet (is_truthy v) _ (dialogue (const_stage lists) r) tt (const_quiet r))
    const_quiet (negation e) = then_quiet (dialogue (const_stage lists) e) _ (const_quiet e) (λ v. tt)
    const_quiet (comparison operator l r) =
        then_quiet (comparing operator (dialogue (const_stage lists) l) (dialogue (const_stage lists) r)) _
        (then_quiet (sides (dialogue (const_stage lists) l) (dialogue (const_stage lists) r)) _ (sides_quiet (dialogue (const_stage lists) l) (dialogue (const_stage lists) r) (const_quiet l) (const_quiet r)) (λ values. tt))
        (λ holds. tt)
    const_quiet (paired operator l r) = then_quiet (sides (dialogue (const_stage lists) l) (dialogue (const_stage lists) r)) _ (sides_quiet (dialogue (const_stage lists) l) (dialogue (const_stage lists) r) (const_quiet l) (const_quiet r)) (λ values. tt)
    const_quiet (rooted r) = then_quiet (dialogue (const_stage lists) r) _ (const_quiet r) (λ v. tt)
    const_quiet (appended l r) = then_quiet (sides (dialogue (const_stage lists) l) (dialogue (const_stage lists) r)) _ (sides_quiet (dialogue (const_stage lists) l) (dialogue (const_stage lists) r) (const_quiet l) (const_quiet r)) (λ values. tt)
    const_quiet (choice c t o) = then_quiet (holding (dialogue (const_stage lists) c)) _ (then_quiet (dialogue (const_stage lists) c) _ (const_quiet c) (λ v. tt)) (λ holds. choice_quiet holds (dialogue (const_stage lists) t) (dialogue (const_stage lists) o) (const_quiet t) (const_quiet o))
    const_quiet (choice_alone c t) = then_quiet (holding (dialogue (const_stage lists) c)) _ (then_quiet (dialogue (const_stage lists) c) _ (const_quiet c) (λ v. tt)) (λ holds. choice_quiet holds (dialogue (const_stage lists) t) _ (const_quiet t) tt)
    const_quiet (listing es) = then_quiet (row (dialogues (const_stage lists) es)) _ (row_quiet (dialogues (const_stage lists) es) (all_quiet es)) (λ values. tt)
    const_quiet (group e) = const_quiet e

    all_quiet : (es : Terms) → AllQuiet (dialogues (const_stage lists) es)
    all_quiet end = tt
    all_quiet (more e es) = (const_quiet e, all_quiet es)

    filled_quiet : (so_far : List ℕ) (hs : Holes) → Quiet (filled (const_stage lists) so_far hs)
    filled_quiet so_far closed = tt
    filled_quiet so_far (hole e cooked text es) = then_quiet (dialogue (const_stage lists) e) _ (const_quiet e) (λ v. filled_quiet (so_far ++ (joined v ++ cooked)) es)

at_read : {A : Type 0} (seen : Result Value Fault) (next : Value → Option (Result A Fault)) (P : Value → Type 0) (old new : List Entry) (r : Result A Fault)
    → ((v : Value) → P v → (new ≡ old) × (next v ≡ Some r))
    → MatchResult seen P (λ fault. (new ≡ old) × (r ≡ Err fault)) → (new ≡ old) × (settled_read seen next ≡ Some r)
at_read (Ok v) next P old new r go h = go v h
at_read (Err f) next P old new r go h = (h.0, ap Some (sym h.1))

-- what asks nothing leaves the record as it was, and ends in what it settles to
pub settles : {A : Type 0} (reading : Reading) (t : Dialogue A) (old new : List Entry) (r : Result A Fault) → Quiet t → DialogueGoes reading t old new r → (new ≡ old) × (settled reading t ≡ Some r)
settles reading (Ends result) old new r q h = (h.0, ap Some (sym h.1))
settles reading (Asks question next) old new r q h = absurd q
settles reading (Reads p x next) old new r q h =
    at_read (reading p x) (λ value. settled reading (next value)) (λ value. DialogueGoes reading (next value) old new r) old new r (λ v g. settles reading (next v) old new r (q v) g) h
