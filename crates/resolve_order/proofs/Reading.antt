-- Rows of what variables read, and orders of these.
use Rattle.std.proofs.Common.{◌≡◌, inl, inr, sym, ◌∙◌, ap, subst, Bool, true, false, if◌then◌else◌, List, [], ◌∷◌, ◌++◌, ℕ, ◌+◌, ◌<◌, ◌≤◌, Option, Some, None, refl, arith, length, get_or, replicate, min}
use Rattle.std.specs.Prelude.{Contains, Result, Ok, Err, IfErr}
use Rattle.std.proofs.Math.ListN.{get_or-eq_default}
use Rattle.std.proofs.lemmas.Bool.{cases_lt}
use Rattle.std.proofs.lemmas.List.{get_or-replicate, length-replicate, length_push}
use Rattle.std.proofs.lemmas.List.Elements.{Contains-append_left, Contains-push, Contains-push_cases}
use Rattle.std.proofs.lemmas.Option.{none-some, slice_get_within, slice_get-get_or, get_or_from_slice_get}
use Rattle.resolve_order.specs.Needs.{Needs}
use Rattle.resolve_order.specs.Needs as places
use Rattle.resolve_order.specs.Order.{IsOrder, IsReason}
use Rattle.resolve_order.specs.Reads.{ReadsThrough, directly, through, IsVariableOrder}
use Rattle.resolve_order.specs.Flooded.{Reaches, root, further, AreReached, IsMarked, leads_of, is_stop}
use Rattle.resolve_order.specs.Cycles.{AreReadRows, AreStops, IsAdded, added, skipped, IsMarkedRow, IsReadReason, IsReadRow, Walks}
use Rattle.resolve_order.specs.declared.fault.OrderFault.{OrderFault}
use Rattle.resolve_order.specs.declared.fault.OrderFault.TheVariants.{OutOfMemory, Cycle}
use Rattle.resolve_order.proofs.Places.{contains_cases, contains_none, push_cases}
use Rattle.resolve_order.proofs.Flooding.{row_within}

-- ---- reading and reaching

needs_in : (graph : List (List ℕ)) (place other : ℕ) → Contains (leads_of graph place) other → other < length graph → Needs graph place other
needs_in graph place other c lt = record { row = leads_of graph place; here = slice_get-get_or graph place [] (row_within graph place other c); listed = c; there = lt }

leads_in : (graph : List (List ℕ)) (place other : ℕ) → Needs graph place other → Contains (leads_of graph place) other
leads_in graph place other n = subst (λ row. Contains row other) (sym (get_or_from_slice_get graph place n.row [] n.here)) n.listed

one_more : (graph : List (List ℕ)) (variables : ℕ) {place between other : ℕ} → ReadsThrough graph variables place between → variables ≤ between → Needs graph between other → ReadsThrough graph variables place other
one_more graph variables (directly n) le m = through n le (directly m)
one_more graph variables (through n fle r) le m = through n fle (one_more graph variables r le m)

followed_some : (graph : List (List ℕ)) (place other : ℕ) (stop : Bool) → Contains (if stop then [] else leads_of graph place) other → (stop ≡ false) × Contains (leads_of graph place) other
followed_some graph place other true c = absurd (contains_none [] other refl c)
followed_some graph place other false c = (refl, c)

followed_all : (graph : List (List ℕ)) (place other : ℕ) (stop : Bool) → stop ≡ false → Contains (leads_of graph place) other → Contains (if stop then [] else leads_of graph place) other
followed_all graph place other true e c = absurd (let f : true ≡ false = e in cc)
followed_all graph place other false e c = c

no_stop : {variables : ℕ} {stops : List Bool} → AreStops variables stops → (place : ℕ) → is_stop stops place ≡ false → variables ≤ place
no_stop {variables} {stops} s place e = elim (cases_lt place variables) [
  | inl p ↦ absurd (let f : true ≡ false = sym (s.first place p) ∙ e in cc)
  | inr p ↦ p
]

read_within : {graph : List (List ℕ)} {variables place x : ℕ} → ReadsThrough graph variables place x → x < length graph
read_within (directly n) = n.there
read_within (through n gle q) = read_within q

module _ (graph : List (List ℕ)) (variables : ℕ) (stops : List Bool) (s : AreStops variables stops) (place : ℕ) where
  pub reads_it : (x : ℕ) → x < length graph → Reaches graph stops (leads_of graph place) x → ReadsThrough graph variables place x
  reads_it x lt (root c) = directly (needs_in graph place x c lt)
  reads_it x lt (further {place = before} r c) =
      let p = followed_some graph before x (is_stop stops before) c in
      one_more graph variables (reads_it before (row_within graph before x p.1) r) (no_stop s before p.0) (needs_in graph before x p.1 lt)

  goes_on : (roots : List ℕ) {f x : ℕ} → ReadsThrough graph variables f x → variables ≤ f → Reaches graph stops roots f → Reaches graph stops roots x
  goes_on roots {f} {x} (directly n) le r = further r (followed_all graph f x (is_stop stops f) (s.others f le) (leads_in graph f x n))
  goes_on roots {f} {x} (through {function = g} n gle q) le r = goes_on roots q gle (further r (followed_all graph f g (is_stop stops f) (s.others f le) (leads_in graph f g n)))

  reaches_it : {x : ℕ} → ReadsThrough graph variables place x → Reaches graph stops (leads_of graph place) x
  reaches_it {x} (directly n) = root (leads_in graph place x n)
  reaches_it {x} (through {function = g} n gle q) = goes_on (leads_of graph place) q gle (root (leads_in graph place g n))

  pub read_row_of : (marks : List (Option ℕ)) (row : List ℕ) → AreReached graph stops (leads_of graph place) marks → IsMarkedRow marks variables row → IsReadRow graph variables place row
  read_row_of marks row a m = record {
    sound = λ read c.
        let p = m.sound read c in
        let n = a.many in
        let lt : read < length marks = slice_get_within marks read (Some p.1.0) p.1.1 in
        (p.0, reads_it read (omega arith) (a.sound read p.1));
    complete = λ read lt r. m.complete read lt (a.complete read (read_within r) (reaches_it r));
  }

-- ---- marked places

pub marked_none : (marks : List (Option ℕ)) → IsMarkedRow marks 0 []
marked_none marks = record { sound = λ place c. absurd (contains_none [] place refl c); complete = λ place lt m. absurd (omega arith) }

pub marked_more : {marks : List (Option ℕ)} {row row' : List ℕ} (place : ℕ) → IsMarkedRow marks place row → IsAdded marks place row row' → IsMarkedRow marks (place + 1) row'
marked_more {marks} {row} place h (added m) = record {
  sound = λ x c. elim (Contains-push_cases row place x c) [
    | inl old ↦ let p = h.sound x old in let lt = p.0 in (omega arith, p.1)
    | inr same ↦ (omega arith, subst (IsMarked marks) same m)
  ];
  complete = λ x lt n. elim (cases_lt x place) [
    | inl p ↦ Contains-append_left row (place ∷ []) x (h.complete x p n)
    | inr le ↦ let same : place ≡ x = omega arith in subst (Contains (row ++ place ∷ [])) same (Contains-push row place)
  ];
}
marked_more {marks} {row} place h (skipped no_mark) = record {
  sound = λ x c. let p = h.sound x c in let lt = p.0 in (omega arith, p.1);
  complete = λ x lt n. elim (cases_lt x place) [
    | inl p ↦ h.complete x p n
    | inr le ↦ let same : x ≡ place = omega arith in absurd (no_mark (subst (IsMarked marks) same n))
  ];
}

pub marked_all : {marks : List (Option ℕ)} {row : List ℕ} (variables count : ℕ) → min variables (length marks) ≤ count → count ≤ variables → IsMarkedRow marks count row → IsMarkedRow marks variables row
marked_all {marks} {row} variables count le up h = record {
  sound = λ x c. let p = h.sound x c in let lt = p.0 in (omega arith, p.1);
  complete = λ x lt n. let w : x < length marks = slice_get_within marks x (Some n.0) n.1 in h.complete x (omega arith) n;
}

-- ---- rows of variables

pub read_none : (graph : List (List ℕ)) (variables : ℕ) → AreReadRows graph variables 0 []
read_none graph variables = record { many = refl; each = λ place row e. absurd (none-some row e) }

pub read_more : {graph : List (List ℕ)} {variables count : ℕ} {rs : List (List ℕ)} (row : List ℕ) → AreReadRows graph variables count rs → IsReadRow graph variables count row → AreReadRows graph variables (count + 1) (rs ++ row ∷ [])
read_more {graph} {variables} {count} {rs} row h r = record {
  many = length_push rs row ∙ ap (λ n. n + 1) h.many;
  each = λ place x e. elim (push_cases rs row place x e) [
    | inl p ↦ h.each place x p.1
    | inr p ↦ subst (IsReadRow graph variables place) p.1 (subst (λ k. IsReadRow graph variables k row) (sym h.many ∙ sym p.0) r)
  ];
}

pub stops_of : (variables : ℕ) → AreStops variables (replicate variables true)
stops_of variables = record {
  first = λ place lt. get_or-replicate variables place true false lt;
  others = λ place le. let n : length (replicate variables true) ≡ variables = length-replicate variables true in get_or-eq_default (replicate variables true) false (omega arith);
}

-- ---- an order of the rows is one of variables

module _ (graph : List (List ℕ)) (variables : ℕ) (rs : List (List ℕ)) (h : AreReadRows graph variables (min variables (length graph)) rs) where
  pub order_of_rows : (order : List ℕ) → IsOrder rs order → IsVariableOrder graph variables order
  order_of_rows order o = record {
    within = λ at place e. let lt = o.within at place e in let n = h.many in (omega arith, omega arith);
    complete = λ place lt there. let n = h.many in o.complete place (omega arith);
    distinct = o.distinct;
    ranked = λ at place read e r lt.
        let n = h.many in
        let w : place < length rs = o.within at place e in
        let row = slice_get-get_or rs place [] w in
        let there : read < length graph = read_within r in
        o.ranked at place read e (record { row = get_or rs place []; here = row; listed = (h.each place (get_or rs place []) row).complete read lt r; there = omega arith });
  }

  walk_of_rows : (walk : List ℕ) → places.Walks rs walk → Walks graph variables walk
  walk_of_rows [] w = tt
  walk_of_rows (a ∷ []) w = tt
  walk_of_rows (a ∷ b ∷ walk) w = (((h.each a w.0.row w.0.here).sound b w.0.listed).1, walk_of_rows (b ∷ walk) w.1)

  -- all places of a walk are there
  walk_within : (a b : ℕ) (walk : List ℕ) → places.Walks rs (a ∷ b ∷ walk) → (x : ℕ) → Contains (a ∷ b ∷ walk) x → x < length rs
  walk_within a b [] w x c = elim (contains_cases a (b ∷ []) x c) [
    | inl same ↦ subst (λ p. p < length rs) same (slice_get_within rs a w.0.row w.0.here)
    | inr d ↦ elim (contains_cases b [] x d) [ inl same ↦ subst (λ p. p < length rs) same w.0.there | inr none ↦ absurd (contains_none [] x refl none) ]
  ]
  walk_within a b (z ∷ walk) w x c = elim (contains_cases a (b ∷ z ∷ walk) x c) [
    | inl same ↦ subst (λ p. p < length rs) same (slice_get_within rs a w.0.row w.0.here)
    | inr d ↦ walk_within b z walk w.1 x d
  ]

  long_within : (walk : List ℕ) → 1 < length walk → places.Walks rs walk → (x : ℕ) → Contains walk x → x < variables
  long_within [] long w x c = absurd (omega arith)
  long_within (a ∷ []) long w x c = absurd (omega arith)
  long_within (a ∷ b ∷ walk) long w x c = let lt = walk_within a b walk w x c in let n = h.many in omega arith

  pub reason_of_rows : (fault : OrderFault) → IsReason rs fault → IsReadReason graph variables fault
  reason_of_rows OutOfMemory r = tt
  reason_of_rows (Cycle walk) r = record { long = r.long; closed = r.closed; each = long_within walk.items r.long r.walk; walk = walk_of_rows walk.items r.walk }

-- ---- marks of one place

pub marked_at : (marks : List (Option ℕ)) (place : ℕ) (d : Option ℕ) (m : ℕ) → place < length marks → get_or marks place d ≡ Some m → IsMarked marks place
marked_at marks place d m lt e = (m, slice_get-get_or marks place d lt ∙ ap (λ x. Some x) e)

pub unmarked_at : (marks : List (Option ℕ)) (place : ℕ) (d : Option ℕ) → get_or marks place d ≡ None → IsMarked marks place → ⊥
unmarked_at marks place d e m = none-some m.0 (sym e ∙ get_or_from_slice_get marks place (Some m.0) d m.1)

pub if_err : {T E : Type 0} {P Q : E → Type 0} (r : Result T E) → IfErr r P → ((e : E) → P e → Q e) → IfErr r Q
if_err (Ok x) p f = tt
if_err (Err e) p f = f e p
