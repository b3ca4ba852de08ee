-- Each turn of the search leaves fewer turns.
use Rattle.std.proofs.Common.{◌≡◌, inl, inr, sym, ◌∙◌, ap, List, [], ◌∷◌, ◌++◌, ℕ, zero, suc, ◌+◌, ◌≤◌, Some, refl, arith, length, drop, get_or}
use Rattle.std.specs.Prelude.{slice_get}
use Rattle.std.proofs.lemmas.Option.{none-some, same_Some, get_or_from_slice_get}
use Rattle.resolve_order.specs.Marked.{IsSet}
use Rattle.resolve_order.specs.Search.{FrameShape, IsNearer, fresh, passed, work_at, work_of_new, work_on_stack}
use Rattle.resolve_order.specs.declared.marks.Mark.{Mark}
use Rattle.resolve_order.specs.declared.marks.Mark.TheVariants.{New, Open, Done}
use Rattle.resolve_order.proofs.Marking.{set_cases}

-- nothing became new
abbrev AreFewer : List Mark → List Mark → Type 0
AreFewer marks marks' = (place : ℕ) → slice_get marks' place ≡ Some New → slice_get marks place ≡ Some New

work_at_less : (m m' : Mark) (row : List ℕ) → (m' ≡ New → m ≡ New) → work_at m' row ≤ work_at m row
work_at_less m New row h = let e : work_at m row ≡ length row + 2 = ap (λ x. work_at x row) (h refl) in omega arith
work_at_less m (Open k) row h = omega arith
work_at_less m (Done i) row h = omega arith

work_less : (marks marks' : List Mark) → length marks' ≡ length marks → AreFewer marks marks' → (rs : List (List ℕ)) → work_of_new marks' rs ≤ work_of_new marks rs
work_less [] [] n h rs = omega arith
work_less (m ∷ marks) [] n h rs = omega arith
work_less [] (m' ∷ marks') n h rs = absurd (omega arith)
work_less (m ∷ marks) (m' ∷ marks') n h [] = omega arith
work_less (m ∷ marks) (m' ∷ marks') n h (row ∷ rs) =
    let here : work_at m' row ≤ work_at m row = work_at_less m m' row (λ e. same_Some m New (h 0 (ap (λ x. Some x) e))) in
    let there : work_of_new marks' rs ≤ work_of_new marks rs = work_less marks marks' (omega arith) (λ place e. h (suc place) e) rs in
    omega (arith, here, there)

one_less : (marks marks' : List Mark) → length marks' ≡ length marks → AreFewer marks marks'
    → (rs : List (List ℕ)) (i : ℕ) (row : List ℕ) (m : Mark) → slice_get rs i ≡ Some row → slice_get marks i ≡ Some New → slice_get marks' i ≡ Some m → ((x : List ℕ) → work_at m x ≡ 0)
    → work_of_new marks' rs + (length row + 2) ≤ work_of_new marks rs
one_less [] marks' n h rs i row m at was is none = absurd (none-some New was)
one_less (a ∷ marks) [] n h rs i row m at was is none = absurd (none-some m is)
one_less (a ∷ marks) (b ∷ marks') n h [] i row m at was is none = absurd (none-some row at)
one_less (a ∷ marks) (b ∷ marks') n h (r ∷ rs) zero row m at was is none =
    let before : work_at a r ≡ length row + 2 = ap (λ x. work_at x r) (same_Some a New was) ∙ ap (λ x. length x + 2) (same_Some r row at) in
    let after : work_at b r ≡ 0 = ap (λ x. work_at x r) (same_Some b m is) ∙ none r in
    let there : work_of_new marks' rs ≤ work_of_new marks rs = work_less marks marks' (omega arith) (λ place e. h (suc place) e) rs in
    omega (arith, before, after, there)
one_less (a ∷ marks) (b ∷ marks') n h (r ∷ rs) (suc i) row m at was is none =
    let here : work_at b r ≤ work_at a r = work_at_less a b r (λ e. same_Some a New (h 0 (ap (λ x. Some x) e))) in
    let there = one_less marks marks' (omega arith) (λ place e. h (suc place) e) rs i row m at was is none in
    omega (arith, here, there)

work_push : (stack : List FrameShape) (f : FrameShape) → work_on_stack (stack ++ f ∷ []) ≡ work_on_stack stack + (length f.rest + 1)
work_push [] f = omega arith
work_push (g ∷ stack) f = let h = work_push stack f in omega (arith, h)

-- a thing that is marked otherwise leaves no other new
open_fewer : {marks : List Mark} {place k : ℕ} {marks' : List Mark} → IsSet marks place (Open k) marks' → AreFewer marks marks'
open_fewer {marks} {place} {k} {marks'} set other e = elim (set_cases set other) [
  | inl p ↦ absurd (let x : Some (Open k) ≡ Some New = sym p.1 ∙ e in cc)
  | inr p ↦ sym p.1 ∙ e
]

done_fewer : {marks : List Mark} {place k : ℕ} {marks' : List Mark} → IsSet marks place (Done k) marks' → AreFewer marks marks'
done_fewer {marks} {place} {k} {marks'} set other e = elim (set_cases set other) [
  | inl p ↦ absurd (let x : Some (Done k) ≡ Some New = sym p.1 ∙ e in cc)
  | inr p ↦ sym p.1 ∙ e
]

pub opened_nearer : (rs : List (List ℕ)) {marks : List Mark} (stack : List FrameShape) (place k : ℕ) (row : List ℕ) → slice_get marks place ≡ Some New → slice_get rs place ≡ Some row
    → {marks' : List Mark} → IsSet marks place (Open k) marks' → IsNearer rs marks stack marks' (stack ++ fresh rs place ∷ [])
opened_nearer rs {marks} stack place k row was at {marks'} set =
    let less : work_of_new marks' rs + (length row + 2) ≤ work_of_new marks rs = one_less marks marks' set.many (open_fewer set) rs place row (Open k) at was set.here (λ x. refl) in
    let read : length (get_or rs place []) ≡ length row = ap length (get_or_from_slice_get rs place row [] at) in
    let more : work_on_stack (stack ++ fresh rs place ∷ []) ≡ work_on_stack stack + (length (get_or rs place []) + 1) = work_push stack (fresh rs place) in
    record { fewer = open_fewer set; smaller = omega (arith, less, more, read) }

pub closed_nearer : (rs : List (List ℕ)) {marks : List Mark} (stack : List FrameShape) (f : FrameShape) (place k : ℕ)
    → {marks' : List Mark} → IsSet marks place (Done k) marks' → IsNearer rs marks (stack ++ f ∷ []) marks' stack
closed_nearer rs {marks} stack f place k {marks'} set =
    let less : work_of_new marks' rs ≤ work_of_new marks rs = work_less marks marks' set.many (done_fewer set) rs in
    let more : work_on_stack (stack ++ f ∷ []) ≡ work_on_stack stack + (length f.rest + 1) = work_push stack f in
    record { fewer = done_fewer set; smaller = omega (arith, less, more) }

pub passed_nearer : (rs : List (List ℕ)) (marks : List Mark) (stack : List FrameShape) (f : FrameShape) (d : ℕ) (rest : List ℕ)
    → f.rest ≡ d ∷ rest → IsNearer rs marks (stack ++ f ∷ []) marks (stack ++ passed f ∷ [])
passed_nearer rs marks stack f d rest e =
    let before : work_on_stack (stack ++ f ∷ []) ≡ work_on_stack stack + (length f.rest + 1) = work_push stack f in
    let after : work_on_stack (stack ++ passed f ∷ []) ≡ work_on_stack stack + (length (drop 1 f.rest) + 1) = work_push stack (passed f) in
    let long : length f.rest ≡ length (drop 1 f.rest) + 1 = ap length e ∙ omega arith ∙ ap (λ xs. length (drop 1 xs) + 1) (sym e) in
    record { fewer = λ place h. h; smaller = omega (arith, before, after, long) }
