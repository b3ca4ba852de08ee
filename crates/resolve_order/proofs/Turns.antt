-- The turns of the search: what stands on top, and what its next need is.
use Rattle.std.proofs.Common.{◌≡◌, inl, sym, ◌∙◌, ap, subst, List, [], ◌∷◌, ◌++◌, ℕ, ◌+◌, ◌<◌, ◌≤◌, Option, Some, None, refl, arith, length, map, drop, get_or, append_assoc}
use Rattle.std.specs.Prelude.{slice_get, option_map, Contains}
use Rattle.std.proofs.lemmas.Option.{none-some, slice_get_within, slice_get-map, slice_get-get_or}
use Rattle.std.proofs.lemmas.List.{map_push, drop-map, drop-append-le, length-map, length_push}
use Rattle.resolve_order.specs.Needs.{Needs, Walks, IsCycle}
use Rattle.resolve_order.specs.Marked.{IsSet}
use Rattle.resolve_order.specs.Order.{IsBefore}
use Rattle.resolve_order.specs.Search.{FrameShape, IsFrame, IsSearch, IsNearer, frame_place, fresh, passed}
use Rattle.resolve_order.specs.Turns.{turn_of}
use Rattle.resolve_order.specs.declared.marks.Mark.{Mark}
use Rattle.resolve_order.specs.declared.marks.Mark.TheVariants.{New, Open, Done}
use Rattle.resolve_order.specs.declared.marks.Turn.TheVariants.{Pass, Descend, Back}
use Rattle.resolve_order.proofs.Places.{push_here, contains_first}
use Rattle.resolve_order.proofs.Walking.{walk_more, cycle_behind}
use Rattle.resolve_order.proofs.Steps.{passed_frame, passed_search, opened_search}
use Rattle.resolve_order.proofs.Work.{opened_nearer}

pub none_first : (xs : List ℕ) → None ≡ slice_get xs 0 → xs ≡ []
none_first [] e = refl
none_first (x ∷ xs) e = absurd (none-some x e)

pub some_first : (xs : List ℕ) (x : ℕ) → Some x ≡ slice_get xs 0 → xs ≡ x ∷ drop 1 xs
some_first [] x e = absurd (none-some x (sym e))
some_first (y ∷ ys) x e = let s : Some x ≡ Some y = e in let t : x ≡ y = cc in ap (λ z. z ∷ ys) (sym t)

-- ---- along equations

pub search_along : {rs : List (List ℕ)} {marks marks' : List Mark} {stack stack' : List FrameShape} {order order' : List ℕ}
    → IsSearch rs marks stack order → marks' ≡ marks → stack' ≡ stack → order' ≡ order → IsSearch rs marks' stack' order'
search_along {rs} {marks} {marks'} {stack} {stack'} {order} {order'} s m t o =
    subst (λ x. IsSearch rs marks' stack' x) (sym o) (subst (λ x. IsSearch rs marks' x order) (sym t) (subst (λ x. IsSearch rs x stack order) (sym m) s))

pub nearer_along : {rs : List (List ℕ)} {marks marks1 marks2 : List Mark} {stack stack1 stack2 : List FrameShape}
    → IsNearer rs marks stack marks1 stack1 → marks2 ≡ marks1 → stack2 ≡ stack1 → IsNearer rs marks stack marks2 stack2
nearer_along {rs} {marks} {marks1} {marks2} {stack} {stack1} {stack2} n m t =
    subst (λ x. IsNearer rs marks stack marks2 x) (sym t) (subst (λ x. IsNearer rs marks stack x stack1) (sym m) n)

-- ---- the turns

top : {rs : List (List ℕ)} {marks : List Mark} (stack : List FrameShape) (f : FrameShape) {order : List ℕ} → IsSearch rs marks (stack ++ f ∷ []) order → IsFrame rs order f
top stack f s = s.frames (length stack) f (push_here stack f [])

-- the thing on top is one of those that are marked
pub top_within : {rs : List (List ℕ)} {marks : List Mark} (stack : List FrameShape) (f : FrameShape) {order : List ℕ} → IsSearch rs marks (stack ++ f ∷ []) order → f.place < length marks
top_within {rs} {marks} stack f s = slice_get_within marks f.place (Open (length stack)) (s.opened (length stack) f (push_here stack f []))

needs_top : {rs : List (List ℕ)} {marks : List Mark} (stack : List FrameShape) (f : FrameShape) {order : List ℕ} → IsSearch rs marks (stack ++ f ∷ []) order
    → (d : ℕ) (rest : List ℕ) → f.rest ≡ d ∷ rest → d < length rs → Needs rs f.place d
needs_top {rs} stack f {order} s d rest e lt =
    let h = top stack f s in
    record { row = h.row; here = h.known; listed = h.listed d (subst (λ xs. Contains xs d) (sym e) (contains_first d rest)); there = lt }

pub marked_within : {rs : List (List ℕ)} {marks : List Mark} {stack : List FrameShape} {order : List ℕ} → IsSearch rs marks stack order → (d : ℕ) (m : Mark) → slice_get marks d ≡ Some m → d < length rs
marked_within {rs} {marks} s d m e =
    let lt : d < length marks = slice_get_within marks d m e in
    let n = s.many in
    omega arith

fresh_frame : (rs : List (List ℕ)) (order : List ℕ) (place : ℕ) → place < length rs → IsFrame rs order (fresh rs place)
fresh_frame rs order place lt = record {
  row = get_or rs place [];
  known = slice_get-get_or rs place [] lt;
  listed = λ need c. c;
  settled = λ need c. inl c;
}

pub new_turn : {rs : List (List ℕ)} {marks : List Mark} (stack : List FrameShape) (f : FrameShape) {order : List ℕ} → IsSearch rs marks (stack ++ f ∷ []) order
    → (d : ℕ) (rest : List ℕ) → f.rest ≡ d ∷ rest → slice_get marks d ≡ Some New
    → {marks' : List Mark} → IsSet marks d (Open (length stack + 1)) marks'
    → IsSearch rs marks' ((stack ++ f ∷ []) ++ fresh rs d ∷ []) order × IsNearer rs marks (stack ++ f ∷ []) marks' ((stack ++ f ∷ []) ++ fresh rs d ∷ [])
new_turn {rs} {marks} stack f {order} s d rest e is {marks'} set =
    let lt : d < length rs = marked_within s d New is in
    let walk : Walks rs ((map frame_place stack ++ f.place ∷ []) ++ d ∷ []) =
    walk_more rs (map frame_place stack) f.place d (subst (Walks rs) (map_push frame_place stack f) s.walk) (needs_top stack f s d rest e lt) in
    let set' : IsSet marks d (Open (length (stack ++ f ∷ []))) marks' = subst (λ n. IsSet marks d (Open n) marks') (sym (length_push stack f)) set in (
      opened_search s (fresh rs d) is (fresh_frame rs order d lt) (subst (λ ns. Walks rs (ns ++ d ∷ [])) (sym (map_push frame_place stack f)) walk) set',
      opened_nearer rs (stack ++ f ∷ []) d (length stack + 1) (get_or rs d []) is (slice_get-get_or rs d [] lt) set,
    )

-- the search begins anew
pub new_start : {rs : List (List ℕ)} {marks : List Mark} {stack : List FrameShape} {order : List ℕ} → IsSearch rs marks stack order → stack ≡ []
    → (d : ℕ) → slice_get marks d ≡ Some New → {marks' : List Mark} → IsSet marks d (Open (length stack)) marks'
    → IsSearch rs marks' (stack ++ fresh rs d ∷ []) order
new_start {rs} {marks} {stack} {order} s empty d is set =
    opened_search s (fresh rs d) is (fresh_frame rs order d (marked_within s d New is)) (subst (λ fs. Walks rs (map frame_place fs ++ d ∷ [])) (sym empty) tt) set

pub open_turn : {rs : List (List ℕ)} {marks : List Mark} (stack : List FrameShape) (f : FrameShape) {order : List ℕ} → IsSearch rs marks (stack ++ f ∷ []) order
    → (d : ℕ) (rest : List ℕ) → f.rest ≡ d ∷ rest → (k : ℕ) → slice_get marks d ≡ Some (Open k) → (k ≤ length stack) × IsCycle rs (map frame_place (drop k stack) ++ f.place ∷ d ∷ [])
open_turn {rs} {marks} stack f {order} s d rest e k is =
    let x = s.stacked d k is in
    let lt : d < length rs = marked_within s d (Open k) is in
    let within : k < length (stack ++ f ∷ []) = slice_get_within (stack ++ f ∷ []) k x.0 x.1 in
    let n : length (stack ++ f ∷ []) ≡ length stack + 1 = length_push stack f in
    let le : k ≤ length stack = omega arith in
    let m : length (map frame_place stack) ≡ length stack = length-map stack frame_place in
    let le' : k ≤ length (map frame_place stack) = omega arith in
    let push : map frame_place (stack ++ f ∷ []) ≡ map frame_place stack ++ f.place ∷ [] = map_push frame_place stack f in
    let at : slice_get (map frame_place stack ++ f.place ∷ []) k ≡ Some d =
    ap (λ ns. slice_get ns k) (sym push) ∙ slice_get-map frame_place (stack ++ f ∷ []) k ∙ ap (option_map frame_place) x.1 ∙ ap (λ y. Some y) x.2 in
    let cycle : IsCycle rs (drop k (map frame_place stack ++ f.place ∷ []) ++ d ∷ []) =
    cycle_behind rs (map frame_place stack ++ f.place ∷ []) k d at (walk_more rs (map frame_place stack) f.place d (subst (Walks rs) push s.walk) (needs_top stack f s d rest e lt)) in
    let places : drop k (map frame_place stack ++ f.place ∷ []) ++ d ∷ [] ≡ map frame_place (drop k stack) ++ f.place ∷ d ∷ [] =
    ap (λ ns. ns ++ d ∷ []) (drop-append-le k (map frame_place stack) (f.place ∷ []) le' ∙ ap (λ ns. ns ++ f.place ∷ []) (drop-map frame_place k stack)) ∙ append_assoc (map frame_place (drop k stack)) (f.place ∷ []) (d ∷ []) in
    (le, subst (IsCycle rs) places cycle)

-- a need that is in the order
done_before : {rs : List (List ℕ)} {marks : List Mark} {stack : List FrameShape} {order : List ℕ} → IsSearch rs marks stack order → (d i : ℕ) → slice_get marks d ≡ Some (Done i) → IsBefore order (length order) d
done_before {rs} {marks} {stack} {order} s d i e =
    let at = s.there d i e in
    record { at = i; earlier = slice_get_within order i d at; found = at }

pub done_turn : {rs : List (List ℕ)} {marks : List Mark} (stack : List FrameShape) (f : FrameShape) {order : List ℕ} → IsSearch rs marks (stack ++ f ∷ []) order
    → (d : ℕ) (rest : List ℕ) → f.rest ≡ d ∷ rest → (i : ℕ) → slice_get marks d ≡ Some (Done i) → IsSearch rs marks (stack ++ passed f ∷ []) order
done_turn {rs} stack f {order} s d rest e i is =
    passed_search stack f s (passed f) refl (passed_frame rs order f d rest (top stack f s) e (λ lt. done_before s d i is))

-- a need that is not there
pub absent_turn : {rs : List (List ℕ)} {marks : List Mark} (stack : List FrameShape) (f : FrameShape) {order : List ℕ} → IsSearch rs marks (stack ++ f ∷ []) order
    → (d : ℕ) (rest : List ℕ) → f.rest ≡ d ∷ rest → slice_get marks d ≡ None → IsSearch rs marks (stack ++ passed f ∷ []) order
absent_turn {rs} {marks} stack f {order} s d rest e is =
    passed_search stack f s (passed f) refl (passed_frame rs order f d rest (top stack f s) e (λ lt.
    let n = s.many in
    let within : d < length marks = omega arith in
    absurd (none-some (get_or marks d New) (sym is ∙ slice_get-get_or marks d New within))))

-- ---- what is done with a need

pub descend_is : (m : Option Mark) → turn_of m ≡ Descend → m ≡ Some New
descend_is None t = absurd (let x : Pass ≡ Descend = t in cc)
descend_is (Some New) t = refl
descend_is (Some (Open k)) t = absurd (let x : Back k ≡ Descend = t in cc)
descend_is (Some (Done i)) t = absurd (let x : Pass ≡ Descend = t in cc)

pub back_is : (m : Option Mark) (k : ℕ) → turn_of m ≡ Back k → m ≡ Some (Open k)
back_is None k t = absurd (let x : Pass ≡ Back k = t in cc)
back_is (Some New) k t = absurd (let x : Descend ≡ Back k = t in cc)
back_is (Some (Open j)) k t = let x : Back j ≡ Back k = t in let n : j ≡ k = cc in ap (λ y. Some (Open y)) n
back_is (Some (Done i)) k t = absurd (let x : Pass ≡ Back k = t in cc)

pub pass_turn : {rs : List (List ℕ)} {marks : List Mark} (stack : List FrameShape) (f : FrameShape) {order : List ℕ} → IsSearch rs marks (stack ++ f ∷ []) order
    → (d : ℕ) (rest : List ℕ) → f.rest ≡ d ∷ rest → (m : Option Mark) → slice_get marks d ≡ m → turn_of m ≡ Pass → IsSearch rs marks (stack ++ passed f ∷ []) order
pass_turn stack f s d rest e None is t = absent_turn stack f s d rest e is
pass_turn stack f s d rest e (Some New) is t = absurd (let x : Descend ≡ Pass = t in cc)
pass_turn stack f s d rest e (Some (Open k)) is t = absurd (let x : Back k ≡ Pass = t in cc)
pass_turn stack f s d rest e (Some (Done i)) is t = done_turn stack f s d rest e i is
