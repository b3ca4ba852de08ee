-- A call that joins those done is among them, and no other comes or goes.
use Rattle.std.proofs.Common.{◌≡◌, refl, sym, ap, ◌∙◌, ◌∷◌, [], true, false, Bool, List, ◌||◌}
use Rattle.std.specs.Prelude.{◌&&◌, ◌==◌, not}
use Rattle.std.specs.Bool.{Decides, MatchBool, one_answer}
use Rattle.std.specs.Cmp.{unsigned_Decides}
use Rattle.std.specs.Cmp.Lexicographic.{pointwise, pointwise_decides, bytes_decides}
use Rattle.std.specs.List.{list_any}
use Rattle.std.specs.List.Sorted.{IsPermutation}
use Rattle.std.proofs.lemmas.List.Sorted.{list_any-IsPermutation}
use Rattle.just_value.specs.Order.{values_eq}
use Rattle.meaning_runs.specs.Parts.{is_met, Joins}
use Rattle.analyze_calls.specs.Calls.{CallRow, row_of, rows, same_call}
use Rattle.analyze_calls.specs.declared.call.Call.{Call}

-- ---- the same call is an equal one

both_so : (a b : Bool) → (a && b) ≡ true → (a ≡ true) × (b ≡ true)
both_so true b e = (refl, e)
both_so false b e = absurd (let f : false ≡ true = e in cc)

both_are : (a b : Bool) → a ≡ true → b ≡ true → (a && b) ≡ true
both_are true b e f = f
both_are false b e f = e

equal_rows : (a b : CallRow) → a.recipe ≡ b.recipe → a.groups ≡ b.groups → a ≡ b
equal_rows a b e f = λ i. record { recipe = e i; groups = f i }

pub same_decides : (a b : CallRow) → Decides (same_call a b) (a ≡ b)
same_decides a b =
    let places = unsigned_Decides a.recipe b.recipe in
    let groups = pointwise_decides (pointwise_decides bytes_decides) a.groups b.groups in (
      (λ e. let s = both_so (a.recipe == b.recipe) (pointwise values_eq a.groups b.groups) e in equal_rows a b (places.0 s.0) (groups.0 s.1)),
      (λ e. both_are (a.recipe == b.recipe) (pointwise values_eq a.groups b.groups) (places.1 (ap (λ c. c.recipe) e)) (groups.1 (ap (λ c. c.groups) e))),
    )

pub symmetric : (a b : CallRow) → same_call a b ≡ same_call b a
symmetric a b =
    let d = same_decides b a in
    one_answer (same_call a b) (same_call b a) (same_decides a b) ((λ e. sym (d.0 e)), (λ e. d.1 (sym e)))

-- ---- a set of calls

-- a call is met among these where it is one of theirs
pub met_among : (q : CallRow) (calls : List Call) → list_any (λ k. same_call q (row_of k)) calls ≡ is_met same_call q (rows calls)
met_among q [] = refl
met_among q (k ∷ ks) = λ i. same_call q (row_of k) || met_among q ks i

-- a call that is met already stays met, and changes nothing of others
stays : (k q : CallRow) (done : List CallRow) → is_met same_call k done ≡ true → is_met same_call q done ≡ (same_call k q || is_met same_call q done)
stays k q done met = by (same_call k q) refl
  where
    by : (b : Bool) → same_call k q ≡ b → is_met same_call q done ≡ (b || is_met same_call q done)
    by true e = ap (λ c. is_met same_call c done) (sym ((same_decides k q).0 e)) ∙ met
    by false e = refl

denied : (b : Bool) → false ≡ not b → b ≡ true
denied true e = refl
denied false e = absurd (let f : false ≡ true = e in cc)

-- the calls after one was put among them: it was added, or was there
pub joined : (call : Call) (old new : List Call) (added : Bool) → added ≡ not (list_any (λ k. same_call (row_of call) (row_of k)) old)
    → MatchBool added (IsPermutation (call ∷ old) new) (new ≡ old) → Joins same_call (row_of call) (rows old) (rows new)
joined call old new true e put = λ q.
    sym (met_among q new) ∙ sym (list_any-IsPermutation (λ k. same_call q (row_of k)) (call ∷ old) new put)
    ∙ (λ i. symmetric q (row_of call) i || met_among q old i)
joined call old new false e same = λ q.
    ap (λ ks. is_met same_call q (rows ks)) same
    ∙ stays (row_of call) q (rows old) (sym (met_among (row_of call) old) ∙ denied (list_any (λ k. same_call (row_of call) (row_of k)) old) e)
