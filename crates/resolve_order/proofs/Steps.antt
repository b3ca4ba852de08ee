-- What each turn of the search keeps.
use Rattle.std.proofs.Common.{◌≡◌, inl, inr, sym, ◌∙◌, ap, subst, List, [], ◌∷◌, ◌++◌, ℕ, ◌+◌, ◌<◌, Some, arith, length, map, drop}
use Rattle.std.specs.Prelude.{slice_get, Contains}
use Rattle.std.proofs.lemmas.Option.{slice_get_within, same_Some}
use Rattle.std.proofs.lemmas.List.{map_push, length_push}
use Rattle.resolve_order.specs.Needs.{Needs, Walks}
use Rattle.resolve_order.specs.Marked.{IsSet}
use Rattle.resolve_order.specs.Order.{IsBefore}
use Rattle.resolve_order.specs.Search.{FrameShape, IsFrame, IsSearch, frame_place, passed}
use Rattle.resolve_order.specs.declared.marks.Mark.{Mark}
use Rattle.resolve_order.specs.declared.marks.Mark.TheVariants.{New, Open, Done}
use Rattle.resolve_order.proofs.Marking.{set_cases}
use Rattle.resolve_order.proofs.Places.{push_cases, push_left, push_here, contains_cases, contains_later, contains_none}
use Rattle.resolve_order.proofs.Walking.{walk_front}

-- ---- a longer order

before_more : {order : List ℕ} {end need : ℕ} → IsBefore order end need → (p : ℕ) → IsBefore (order ++ p ∷ []) end need
before_more {order} {end} {need} b p = record { at = b.at; earlier = b.earlier; found = push_left order (p ∷ []) b.at need b.found }

before_all : {order : List ℕ} {need : ℕ} → IsBefore order (length order) need → (p : ℕ) → IsBefore (order ++ p ∷ []) (length (order ++ p ∷ [])) need
before_all {order} {need} b p =
    let n : length (order ++ p ∷ []) ≡ length order + 1 = length_push order p in
    let lt = b.earlier in
    record { at = b.at; earlier = omega arith; found = push_left order (p ∷ []) b.at need b.found }

frame_kept : (rs : List (List ℕ)) (order : List ℕ) (p : ℕ) (f : FrameShape) → IsFrame rs order f → IsFrame rs (order ++ p ∷ []) f
frame_kept rs order p f h = record {
  row = h.row;
  known = h.known;
  listed = h.listed;
  settled = λ need c. elim (h.settled need c) [
    | inl x ↦ inl x
    | inr x ↦ inr (λ lt. before_all (x lt) p)
  ];
}

-- ---- a need that is settled

pub passed_frame : (rs : List (List ℕ)) (order : List ℕ) (f : FrameShape) (d : ℕ) (rest : List ℕ)
    → IsFrame rs order f → f.rest ≡ d ∷ rest → (d < length rs → IsBefore order (length order) d) → IsFrame rs order (passed f)
passed_frame rs order f d rest h e settled =
    let left : drop 1 f.rest ≡ rest = ap (λ xs. drop 1 xs) e in
    record {
      row = h.row;
      known = h.known;
      listed = λ need c. h.listed need (subst (λ xs. Contains xs need) (sym e) (contains_later d rest need (subst (λ xs. Contains xs need) left c)));
      settled = λ need c. elim (h.settled need c) [
        | inl x ↦ elim (contains_cases d rest need (subst (λ xs. Contains xs need) e x)) [
          | inl same ↦ inr (subst (λ n. n < length rs → IsBefore order (length order) n) same settled)
          | inr later ↦ inl (subst (λ xs. Contains xs need) (sym left) later)
        ]
        | inr x ↦ inr x
      ];
    }

pub passed_search : {rs : List (List ℕ)} {marks : List Mark} (stack : List FrameShape) (f : FrameShape) {order : List ℕ} → IsSearch rs marks (stack ++ f ∷ []) order
    → (g : FrameShape) → g.place ≡ f.place → IsFrame rs order g → IsSearch rs marks (stack ++ g ∷ []) order
passed_search {rs} {marks} stack f {order} s g same h = record {
  many = s.many;
  placed = s.placed;
  there = s.there;
  opened = λ k x e. elim (push_cases stack g k x e) [
    | inl p ↦ s.opened k x (push_left stack (f ∷ []) k x p.1)
    | inr p ↦ ap (λ y. slice_get marks y.place) (sym p.1) ∙ ap (slice_get marks) same ∙ s.opened (length stack) f (push_here stack f []) ∙ ap (λ n. Some (Open n)) (sym p.0)
  ];
  stacked = λ place k e. let x = s.stacked place k e in elim (push_cases stack f k x.0 x.1) [
    | inl p ↦ (x.0, push_left stack (g ∷ []) k x.0 p.1, x.2)
    | inr p ↦ (g, ap (slice_get (stack ++ g ∷ [])) p.0 ∙ push_here stack g [], same ∙ ap (λ y. y.place) p.1 ∙ x.2)
  ];
  walk = subst (Walks rs) (map_push frame_place stack f ∙ ap (λ y. map frame_place stack ++ y ∷ []) (sym same) ∙ sym (map_push frame_place stack g)) s.walk;
  frames = λ k x e. elim (push_cases stack g k x e) [
    | inl p ↦ s.frames k x (push_left stack (f ∷ []) k x p.1)
    | inr p ↦ subst (IsFrame rs order) p.1 h
  ];
  ranked = s.ranked;
}

-- ---- a new thing

pub opened_search : {rs : List (List ℕ)} {marks : List Mark} {stack : List FrameShape} {order : List ℕ} → IsSearch rs marks stack order
    → (g : FrameShape) → slice_get marks g.place ≡ Some New → IsFrame rs order g → Walks rs (map frame_place stack ++ g.place ∷ [])
    → {marks' : List Mark} → IsSet marks g.place (Open (length stack)) marks' → IsSearch rs marks' (stack ++ g ∷ []) order
opened_search {rs} {marks} {stack} {order} s g was frame walk {marks'} set = record {
  many = set.many ∙ s.many;
  placed = λ at place e. elim (set_cases set place) [
    | inl q ↦ absurd (let x : Some (Done at) ≡ Some New = sym (s.placed at place e) ∙ ap (slice_get marks) q.0 ∙ was in cc)
    | inr q ↦ q.1 ∙ s.placed at place e
  ];
  there = λ place at e. elim (set_cases set place) [
    | inl q ↦ absurd (let x : Some (Open (length stack)) ≡ Some (Done at) = sym q.1 ∙ e in cc)
    | inr q ↦ s.there place at (sym q.1 ∙ e)
  ];
  opened = λ k x e. elim (push_cases stack g k x e) [
    | inl p ↦ elim (set_cases set x.place) [
      | inl q ↦ absurd (let y : Some (Open k) ≡ Some New = sym (s.opened k x p.1) ∙ ap (slice_get marks) q.0 ∙ was in cc)
      | inr q ↦ q.1 ∙ s.opened k x p.1
    ]
    | inr p ↦ ap (λ y. slice_get marks' y.place) (sym p.1) ∙ set.here ∙ ap (λ n. Some (Open n)) (sym p.0)
  ];
  stacked = λ place k e. elim (set_cases set place) [
    | inl q ↦ let y : Some (Open (length stack)) ≡ Some (Open k) = sym q.1 ∙ e in let n : length stack ≡ k = cc in (g, ap (slice_get (stack ++ g ∷ [])) (sym n) ∙ push_here stack g [], sym q.0)
    | inr q ↦ let x = s.stacked place k (sym q.1 ∙ e) in (x.0, push_left stack (g ∷ []) k x.0 x.1, x.2)
  ];
  walk = subst (Walks rs) (sym (map_push frame_place stack g)) walk;
  frames = λ k x e. elim (push_cases stack g k x e) [
    | inl p ↦ s.frames k x p.1
    | inr p ↦ subst (IsFrame rs order) p.1 frame
  ];
  ranked = s.ranked;
}

-- ---- a thing with no need left

closed_ranked : {rs : List (List ℕ)} {order : List ℕ} (f : FrameShape) → IsFrame rs order f → f.rest ≡ [] → (need : ℕ) → Needs rs f.place need → IsBefore order (length order) need
closed_ranked {rs} {order} f h over need n =
    let same : n.row ≡ h.row = same_Some n.row h.row (sym n.here ∙ h.known) in
    elim (h.settled need (subst (λ row. Contains row need) same n.listed)) [
      | inl x ↦ absurd (contains_none f.rest need over x)
      | inr x ↦ x n.there
    ]

pub closed_search : {rs : List (List ℕ)} {marks : List Mark} (stack : List FrameShape) (f : FrameShape) {order : List ℕ} → IsSearch rs marks (stack ++ f ∷ []) order
    → f.rest ≡ [] → {marks' : List Mark} → IsSet marks f.place (Done (length order)) marks' → IsSearch rs marks' stack (order ++ f.place ∷ [])
closed_search {rs} {marks} stack f {order} s over {marks'} set =
    let was : slice_get marks f.place ≡ Some (Open (length stack)) = s.opened (length stack) f (push_here stack f []) in
    let frame : IsFrame rs order f = s.frames (length stack) f (push_here stack f []) in
    record {
      many = set.many ∙ s.many;
      placed = λ at place e. elim (push_cases order f.place at place e) [
        | inl x ↦ elim (set_cases set place) [
          | inl q ↦ absurd (let y : Some (Done at) ≡ Some (Open (length stack)) = sym (s.placed at place x.1) ∙ ap (slice_get marks) q.0 ∙ was in cc)
          | inr q ↦ q.1 ∙ s.placed at place x.1
        ]
        | inr x ↦ ap (slice_get marks') (sym x.1) ∙ set.here ∙ ap (λ n. Some (Done n)) (sym x.0)
      ];
      there = λ place at e. elim (set_cases set place) [
        | inl q ↦ let y : Some (Done (length order)) ≡ Some (Done at) = sym q.1 ∙ e in let n : length order ≡ at = cc in ap (slice_get (order ++ f.place ∷ [])) (sym n) ∙ push_here order f.place [] ∙ ap (λ p. Some p) (sym q.0)
        | inr q ↦ push_left order (f.place ∷ []) at place (s.there place at (sym q.1 ∙ e))
      ];
      opened = λ k x e. elim (set_cases set x.place) [
        | inl q ↦
            let y : Some (Open k) ≡ Some (Open (length stack)) = sym (s.opened k x (push_left stack (f ∷ []) k x e)) ∙ ap (slice_get marks) q.0 ∙ was in
            let n : k ≡ length stack = cc in
            let within : k < length stack = slice_get_within stack k x e in
            absurd (omega arith)
        | inr q ↦ q.1 ∙ s.opened k x (push_left stack (f ∷ []) k x e)
      ];
      stacked = λ place k e. elim (set_cases set place) [
        | inl q ↦ absurd (let y : Some (Done (length order)) ≡ Some (Open k) = sym q.1 ∙ e in cc)
        | inr q ↦ let x = s.stacked place k (sym q.1 ∙ e) in elim (push_cases stack f k x.0 x.1) [
          | inl p ↦ (x.0, p.1, x.2)
          | inr p ↦ absurd (q.0 (sym x.2 ∙ ap (λ y. y.place) (sym p.1)))
        ]
      ];
      walk = walk_front rs (map frame_place stack) f.place (subst (Walks rs) (map_push frame_place stack f) s.walk);
      frames = λ k x e. frame_kept rs order f.place x (s.frames k x (push_left stack (f ∷ []) k x e));
      ranked = λ at place need e n. elim (push_cases order f.place at place e) [
        | inl x ↦ before_more (s.ranked at place need x.1 n) f.place
        | inr x ↦
            let b : IsBefore order (length order) need = closed_ranked f frame over need (subst (λ p. Needs rs p need) (sym x.1) n) in
            subst (λ end. IsBefore (order ++ f.place ∷ []) end need) (sym x.0) (before_more b f.place)
      ];
    }
