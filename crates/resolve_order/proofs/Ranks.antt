-- What an order rules out, and when a search has found one.
use Rattle.std.proofs.Common.{◌≡◌, sym, ◌∙◌, ap, List, [], ◌∷◌, ℕ, ◌+◌, ◌-◌, ◌<◌, ◌≤◌, Some, arith, length, get_or}
use Rattle.std.specs.Prelude.{slice_get}
use Rattle.std.proofs.lemmas.Option.{none-some, slice_get_within, slice_get-get_or}
use Rattle.resolve_order.specs.Needs.{Walks, IsCycle}
use Rattle.resolve_order.specs.Marked.{AreNew}
use Rattle.resolve_order.specs.Order.{IsOrder, IsBefore}
use Rattle.resolve_order.specs.Search.{IsSearch, AreLookedAt}
use Rattle.resolve_order.specs.declared.marks.Mark.{Mark}
use Rattle.resolve_order.specs.declared.marks.Mark.TheVariants.{New, Open, Done}

-- ---- the beginning

pub new_search : {rs : List (List ℕ)} {marks : List Mark} → AreNew (length rs) marks → IsSearch rs marks [] []
new_search {rs} {marks} h = record {
  many = h.many;
  placed = λ at place e. absurd (none-some place e);
  there = λ place at e. absurd (let x : Done at ≡ New = h.new place (Done at) e in cc);
  opened = λ k f e. absurd (none-some f e);
  stacked = λ place k e. absurd (let x : Open k ≡ New = h.new place (Open k) e in cc);
  walk = tt;
  frames = λ k f e. absurd (none-some f e);
  ranked = λ at place need e n. absurd (none-some place e);
}

-- ---- when each thing was looked at and none waits

placed_by : {rs : List (List ℕ)} {marks : List Mark} {order : List ℕ} → IsSearch rs marks [] order → AreLookedAt marks (length rs)
    → (place : ℕ) → place < length rs → (m : Mark) → slice_get marks place ≡ Some m → IsBefore order (length order) place
placed_by s looked place lt New e = absurd (looked place lt e)
placed_by s looked place lt (Open k) e = let x = s.stacked place k e in absurd (none-some x.0 x.1)
placed_by {rs} {marks} {order} s looked place lt (Done i) e =
    let at = s.there place i e in
    record { at = i; earlier = slice_get_within order i place at; found = at }

pub search_orders : {rs : List (List ℕ)} {marks : List Mark} {order : List ℕ} → IsSearch rs marks [] order → AreLookedAt marks (length rs) → IsOrder rs order
search_orders {rs} {marks} {order} s looked = record {
  within = λ at place e.
      let lt : place < length marks = slice_get_within marks place (Done at) (s.placed at place e) in
      let n = s.many in
      omega arith;
  complete = λ place lt.
      let n = s.many in
      let within : place < length marks = omega arith in
      placed_by s looked place lt (get_or marks place New) (slice_get-get_or marks place New within);
  distinct = λ at at' place e f. let x : Some (Done at) ≡ Some (Done at') = sym (s.placed at place e) ∙ s.placed at' place f in cc;
  ranked = s.ranked;
}

-- ---- places in the order fall along a walk

falls : {rs : List (List ℕ)} {order : List ℕ} → IsOrder rs order → (places : List ℕ) (a : ℕ) (i : ℕ) → slice_get order i ≡ Some a
    → Walks rs (a ∷ places) → (z : ℕ) → slice_get (a ∷ places) (length places) ≡ Some z → (j : ℕ) × (slice_get order j ≡ Some z) × (j + length places ≤ i)
falls {rs} {order} o [] a i e w z last = (i, e ∙ last, omega arith)
falls {rs} {order} o (b ∷ places) a i e w z last =
    let x = o.ranked i a b e w.0 in
    let lt = x.earlier in
    let y = falls o places b x.at x.found w.1 z last in
    let le : y.0 + length places ≤ x.at = y.2 in
    (y.0, y.1, omega arith)

-- the last of a walk stands at an earlier place
not_back : {rs : List (List ℕ)} {order : List ℕ} → IsOrder rs order → (a b : ℕ) (places : List ℕ) (i : ℕ) → slice_get order i ≡ Some a
    → Walks rs (a ∷ b ∷ places) → slice_get (a ∷ b ∷ places) (length (b ∷ places)) ≡ Some a → ⊥
not_back o a b places i e w last =
    let y = falls o (b ∷ places) a i e w a last in
    let same : y.0 ≡ i = o.distinct y.0 i a y.1 e in
    let le : y.0 + length (b ∷ places) ≤ i = y.2 in
    omega arith

cycle_falls : {rs : List (List ℕ)} {order : List ℕ} → IsOrder rs order → (places : List ℕ) → 1 < length places → slice_get places 0 ≡ slice_get places (length places - 1) → Walks rs places → ⊥
cycle_falls o [] long closed w = omega arith
cycle_falls o (a ∷ []) long closed w = omega arith
cycle_falls {rs} o (a ∷ b ∷ places) long closed w =
    let x = o.complete a (slice_get_within rs a w.0.row w.0.here) in
    let n : length (b ∷ places) ≡ length (a ∷ b ∷ places) - 1 = omega arith in
    let last : slice_get (a ∷ b ∷ places) (length (b ∷ places)) ≡ Some a = ap (slice_get (a ∷ b ∷ places)) n ∙ sym closed in
    not_back o a b places x.at x.found w last

pub no_cycle : {rs : List (List ℕ)} {order : List ℕ} → IsOrder rs order → (places : List ℕ) → IsCycle rs places → ⊥
no_cycle o places c = cycle_falls o places c.long c.closed c.walk
