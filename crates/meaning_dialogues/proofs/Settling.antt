-- What the constant stage settles is what a run means.
use Rattle.std.proofs.Common.{◌≡◌, ◌≢◌, ℕ, List, [], ◌∷◌, ◌++◌, Bool, true, false, if◌then◌else◌, Option, Some, Result, Ok, Err, refl, ap, ◌∙◌}
use Rattle.just_host.specs.declared.host.Question.{Question}
use Rattle.just_host.specs.declared.host.Answer.{Answer}
use Rattle.just_value.specs.Values.{joined}
use Rattle.meaning_dialogues.specs.Faults.{Fault, Inconstant, not_constant}
use Rattle.meaning_dialogues.specs.Dialogue.{Dialogue, Ends, Asks, Reads, ◌>>=◌, Reading, Lookup, Variable}
use Rattle.meaning_dialogues.specs.Constants.{settled, settled_read}
use Rattle.meaning_dialogues.specs.Evaluation.{Value, Stage, row, sides, dialogue, dialogues, filled, is_truthy}
use Rattle.meaning_dialogues.specs.Meaning.{QuestionAnswers, Meaning, with_meaning, meaning}
use Rattle.meaning_dialogues.specs.Calls.{const_stage}
use Rattle.meaning_dialogues.specs.Terms.{Term, Terms, Holes, literal, command, format, variable, call, assertion, assertion_alone, both, either, negation, comparison, paired, rooted, appended, choice, choice_alone, listing, group, end, more, closed, hole}

-- the second does what the first does, until the first stops at what is not constant
pub data Below {A : Type 0} : Dialogue A → Dialogue A → Type 0 where
  stopped : {what : Inconstant} {s : Dialogue A} → Below (Ends (Err (not_constant what))) s
  ends : {r : Result A Fault} → Below (Ends r) (Ends r)
  asks : {q : Question} {k m : Answer → Dialogue A} → ((a : Answer) → Below (k a) (m a)) → Below (Asks q k) (Asks q m)
  reads : {p : Lookup} {x : Variable} {k m : Value → Dialogue A} → ((v : Value) → Below (k v) (m v)) → Below (Reads p x k) (Reads p x m)

then_below : {A B : Type 0} {t s : Dialogue A} (k m : A → Dialogue B) → Below t s → ((a : A) → Below (k a) (m a)) → Below (t >>= k) (s >>= m)
then_below k m stopped g = stopped
then_below k m (ends {r = Ok a}) g = g a
then_below k m (ends {r = Err e}) g = ends
then_below k m (asks h) g = asks (λ a. then_below k m (h a) g)
then_below k m (reads h) g = reads (λ v. then_below k m (h v) g)

choice_below : {A : Type 0} (b : Bool) {s t u v : Dialogue A} → Below s u → Below t v → Below (if b then s else t) (if b then u else v)
choice_below true h g = h
choice_below false h g = g

pub data RowBelow : List (Dialogue Value) → List (Dialogue Value) → Type 0 where
  none : RowBelow [] []
  one : {d e : Dialogue Value} {ds es : List (Dialogue Value)} → Below d e → RowBelow ds es → RowBelow (d ∷ ds) (e ∷ es)

row_below : {ds es : List (Dialogue Value)} → RowBelow ds es → Below (row ds) (row es)
row_below none = ends
row_below (one h t) = then_below _ _ h (λ v. then_below _ _ (row_below t) (λ vs. ends))

sides_below : {l r m s : Dialogue Value} → Below l m → Below r s → Below (sides l r) (sides m s)
sides_below h g = then_below _ _ h (λ a. then_below _ _ g (λ b. ends))

module _ (stage : Stage) where
  mutual
    -- where lists are on in both or in neither
    pub const_below : (t : Term) → Below (dialogue (const_stage stage.lists) t) (dialogue stage t)
    const_below (literal cooked text) = ends
    const_below (command contents text) = stopped
    const_below (format cooked text tripled holes) = then_below _ _ (holes_below cooked holes) (λ whole. ends)
    const_below (variable name number) = reads (λ value. ends)
    const_below (call name file arguments) = stopped
    const_below (assertion c m) = then_below _ _ (const_below c) (λ v. choice_below (is_truthy v) ends (then_below _ _ (const_below m) (λ w. ends)))
    const_below (assertion_alone c) = then_below _ _ (const_below c) (λ v. ends)
    const_below (both l r) = then_below _ _ (const_below l) (λ v. choice_below (is_truthy v) (const_below r) ends)
    const_below (either l r) = then_below _ _ (const_below l) (λ v. choice_below (is_truthy v) ends (const_below r))
    const_below (negation e) = then_below _ _ (const_below e) (λ v. ends)
    const_below (comparison operator l r) = then_below _ _ (then_below _ _ (sides_below (const_below l) (const_below r)) (λ vs. ends)) (λ holds. ends)
    const_below (paired operator l r) = then_below _ _ (sides_below (const_below l) (const_below r)) (λ vs. ends)
    const_below (rooted r) = then_below _ _ (const_below r) (λ v. ends)
    const_below (appended l r) = then_below _ _ (sides_below (const_below l) (const_below r)) (λ vs. ends)
    const_below (choice c t o) = then_below _ _ (then_below _ _ (const_below c) (λ v. ends)) (λ holds. choice_below holds (const_below t) (const_below o))
    const_below (choice_alone c t) = then_below _ _ (then_below _ _ (const_below c) (λ v. ends)) (λ holds. choice_below holds (const_below t) ends)
    const_below (listing es) = then_below _ _ (row_below (rows_below es)) (λ vs. ends)
    const_below (group e) = const_below e

    rows_below : (es : Terms) → RowBelow (dialogues (const_stage stage.lists) es) (dialogues stage es)
    rows_below end = none
    rows_below (more e es) = one (const_below e) (rows_below es)

    holes_below : (so_far : List ℕ) (hs : Holes) → Below (filled (const_stage stage.lists) so_far hs) (filled stage so_far hs)
    holes_below so_far closed = ends
    holes_below so_far (hole e cooked text hs) = then_below _ _ (const_below e) (λ v. holes_below (so_far ++ (joined v ++ cooked)) hs)

at_constant : {A : Type 0} (k : Value → Option (Result A Fault)) (m : Value → Meaning A) (r : Result A Fault) (o : Result Value Fault) (x : Meaning Value)
    → ((v : Value) → o ≡ Ok v → x ≡ Some (Ok v)) → ((f : Fault) → o ≡ Err f → r ≢ Err f) → ((v : Value) → k v ≡ Some r → m v ≡ Some r)
    → settled_read o k ≡ Some r → with_meaning x m ≡ Some r
at_constant k m r (Ok v) x up faults g h = ap (λ y. with_meaning y m) (up v refl) ∙ g v h
at_constant k m r (Err f) x up faults g h = absurd (faults f refl (cc))

-- what is settled, and is not that something is no constant, is what the expression means under all answers
pub settled_means : {A : Type 0} (reading : Reading) (answers : QuestionAnswers) (variables : Lookup → Variable → Meaning Value) (t s : Dialogue A) (r : Result A Fault)
    → ((p : Lookup) (x : Variable) (v : Value) → reading p x ≡ Ok v → variables p x ≡ Some (Ok v)) → ((p : Lookup) (x : Variable) (f : Fault) → reading p x ≡ Err f → r ≢ Err f)
    → ((what : Inconstant) → r ≢ Err (not_constant what)) → Below t s → settled reading t ≡ Some r → meaning answers variables s ≡ Some r
settled_means reading answers variables t s r holds faults constant (stopped {what = w}) h = absurd (constant w (cc))
settled_means reading answers variables t s r holds faults constant ends h = h
settled_means reading answers variables t s r holds faults constant (asks g) h = absurd (cc)
settled_means reading answers variables t s r holds faults constant (reads {p = p} {x = x} {k = k} {m = m} g) h =
    at_constant _ _ r (reading p x) (variables p x) (holds p x) (faults p x) (λ v e. settled_means reading answers variables (k v) (m v) r holds faults constant (g v) e) h
