-- Rows that grow, and where an order of the rows puts variables.
use Rattle.std.proofs.Common.{◌≡◌, inl, inr, sym, ◌∙◌, ap, subst, List, [], ◌∷◌, ◌++◌, ℕ, zero, suc, ◌+◌, ◌<◌, ◌≤◌, Bool, true, false, cond, Some, refl, arith, length, get_or, take}
use Rattle.std.specs.Prelude.{◌≢◌, slice_get, Contains, nat_lt, option_map, OnOk, IfOk, Result, Ok, Err}
use Rattle.std.specs.Global.{Vec}
use Rattle.std.specs.List.{filter}
use Rattle.std.proofs.Math.ListN.{set}
use Rattle.std.proofs.lemmas.Bool.{ltb-true, lt-ltb}
use Rattle.std.proofs.lemmas.Bool.Decides.{eqb_tells}
use Rattle.std.proofs.lemmas.List.{get_or-set_same, get_or-set_other, length-set, map-set, length-map, length-take}
use Rattle.std.proofs.lemmas.List.Elements.{Contains-append_left, Contains-push, Contains-push_cases, All-contains, filter_passes}
use Rattle.std.proofs.lemmas.Option.{none-some, same_Some, slice_get_within, slice_get-get_or, get_or_from_slice_get, slice_get-map}
use Rattle.resolve_order.specs.Needs.{Needs, rows}
use Rattle.resolve_order.specs.Order.{IsOrder, IsBefore}
use Rattle.resolve_order.specs.Reads.{ReadsThrough, directly, through, IsVariableOrder}
use Rattle.resolve_order.specs.Contracted.{AreRepresentatives, Grows, Leads, IsContracted, IsContraction}
use Rattle.resolve_order.proofs.Places.{contains_at, contains_first, contains_later, place_of}

pub get_set_same : {X : Type 0} (l : List X) (i : ℕ) (a : X) → i < length l → slice_get (set l i a) i ≡ Some a
get_set_same l i a lt =
    let n : length (set l i a) ≡ length l = length-set l i a in
    let within : i < length (set l i a) = omega arith in
    slice_get-get_or (set l i a) i a within ∙ ap (λ x. Some x) (get_or-set_same l i a a lt)

pub get_set_other : {X : Type 0} (l : List X) (i j : ℕ) (a x : X) → (j ≡ i → ⊥) → slice_get l j ≡ Some x → slice_get (set l i a) j ≡ Some x
get_set_other l i j a x ne e =
    let n : length (set l i a) ≡ length l = length-set l i a in
    let lt : j < length l = slice_get_within l j x e in
    let within : j < length (set l i a) = omega arith in
    slice_get-get_or (set l i a) j x within ∙ ap (λ y. Some y) (get_or-set_other l i j a x ne ∙ get_or_from_slice_get l j x x e)

-- ---- a row with one more

pub grows_same : (rs : List (List ℕ)) → Grows rs rs
grows_same rs = record { many = refl; kept = λ place read n. n }

pub grows_more : {rs ss ts : List (List ℕ)} → Grows rs ss → Grows ss ts → Grows rs ts
grows_more g h = record { many = h.many ∙ g.many; kept = λ place read n. h.kept place read (g.kept place read n) }

pushed : (rs : List (List ℕ)) (own : ℕ) (row : List ℕ) (x : ℕ) → slice_get rs own ≡ Some row → Grows rs (set rs own (row ++ x ∷ []))
pushed rs own row x at =
    let n : length (set rs own (row ++ x ∷ [])) ≡ length rs = length-set rs own (row ++ x ∷ []) in
    record {
      many = n;
      kept = λ place read h. elim (eqb_tells place own) [
        | inl p ↦
            let same : h.row ≡ row = same_Some h.row row (sym h.here ∙ ap (slice_get rs) p.1 ∙ at) in
            let there = h.there in
            record {
              row = row ++ x ∷ [];
              here = ap (slice_get (set rs own (row ++ x ∷ []))) p.1 ∙ get_set_same rs own (row ++ x ∷ []) (slice_get_within rs own row at);
              listed = Contains-append_left row (x ∷ []) read (subst (λ r. Contains r read) same h.listed);
              there = omega arith;
            }
        | inr p ↦
            let there = h.there in
            record { row = h.row; here = get_set_other rs own place (row ++ x ∷ []) h.row p.1 h.here; listed = h.listed; there = omega arith }
      ];
    }

pushed_there : (rs : List (List ℕ)) (own : ℕ) (row : List ℕ) (x : ℕ) → slice_get rs own ≡ Some row → x < length rs → Needs (set rs own (row ++ x ∷ [])) own x
pushed_there rs own row x at lt =
    let n : length (set rs own (row ++ x ∷ [])) ≡ length rs = length-set rs own (row ++ x ∷ []) in
    record { row = row ++ x ∷ []; here = get_set_same rs own (row ++ x ∷ []) (slice_get_within rs own row at); listed = Contains-push row x; there = omega arith }

pub get_row : (needs : List (Vec ℕ)) (place : ℕ) (d : Vec ℕ) → place < length needs → slice_get (rows needs) place ≡ Some (get_or needs place d).items
get_row needs place d lt = slice_get-map (λ r. r.items) needs place ∙ ap (option_map (λ r. r.items)) (slice_get-get_or needs place d lt)

-- a row of a `Vec` of rows has one more
pub added : (needs : List (Vec ℕ)) (own : ℕ) (d new : Vec ℕ) (x : ℕ) → own < length needs → new.items ≡ (get_or needs own d).items ++ x ∷ [] → Grows (rows needs) (rows (set needs own new))
added needs own d new x lt e =
    subst (Grows (rows needs)) (sym (map-set (λ r. r.items) needs own new ∙ ap (set (rows needs) own) e)) (pushed (rows needs) own (get_or needs own d).items x (get_row needs own d lt))

pub added_there : (needs : List (Vec ℕ)) (own : ℕ) (d new : Vec ℕ) (x : ℕ) → own < length needs → x < length needs → new.items ≡ (get_or needs own d).items ++ x ∷ [] → Needs (rows (set needs own new)) own x
added_there needs own d new x lt there e =
    let n : length (rows needs) ≡ length needs = length-map needs (λ r. r.items) in
    let within : x < length (rows needs) = omega arith in
    subst (λ rs. Needs rs own x) (sym (map-set (λ r. r.items) needs own new ∙ ap (set (rows needs) own) e)) (pushed_there (rows needs) own (get_or needs own d).items x (get_row needs own d lt) within)

-- ---- what a row leads to

pub leads_more : {variables : ℕ} {old new : List (List ℕ)} → Grows old new → (place read : ℕ) → Leads variables old place read → Leads variables new place read
leads_more g place read (inl same) = inl same
leads_more g place read (inr needs) = inr (g.kept place read needs)

-- the first reads, as many as are counted, are led to
abbrev pub AreLed : ℕ → List ℕ → List (List ℕ) → ℕ → List ℕ → Type 0
AreLed variables representatives rows own reads = (read found : ℕ) → Contains reads read → slice_get representatives read ≡ Some found → Leads variables rows own found

pub led_more : (variables : ℕ) (representatives : List ℕ) (old new : List (List ℕ)) (own : ℕ) (reads : List ℕ) → AreLed variables representatives old own reads → Grows old new
    → (read : ℕ) → ((found : ℕ) → slice_get representatives read ≡ Some found → Leads variables new own found) → AreLed variables representatives new own (reads ++ read ∷ [])
led_more variables representatives old new own reads led g read here other found c e = elim (Contains-push_cases reads read other c) [
  | inl earlier ↦ leads_more g own found (led other found earlier e)
  | inr same ↦ here found (subst (λ r. slice_get representatives r ≡ Some found) (sym same) e)
]

pub led_here : (variables : ℕ) (representatives : List ℕ) (rs : List (List ℕ)) (own read : ℕ) → Leads variables rs own (get_or representatives read 0) → (found : ℕ) → slice_get representatives read ≡ Some found → Leads variables rs own found
led_here variables representatives rs own read h found e = subst (Leads variables rs own) (get_or_from_slice_get representatives read found 0 e) h

pub led_past : (variables : ℕ) (representatives : List ℕ) (rs : List (List ℕ)) (own read : ℕ) → length representatives ≤ read → (found : ℕ) → slice_get representatives read ≡ Some found → Leads variables rs own found
led_past variables representatives rs own read le found e = let lt : read < length representatives = slice_get_within representatives read found e in absurd (omega arith)

pub on_ok : {T E P R : Type 0} (r : Result T E) → OnOk r P → (P → R) → OnOk r R
on_ok (Ok x) p f = f p
on_ok (Err e) p f = tt

pub contracted_none : (graph : List (List ℕ)) (variables : ℕ) (representatives : List ℕ) (rs : List (List ℕ)) → length rs ≡ length graph → IsContracted graph variables representatives 0 rs
contracted_none graph variables representatives rs n = record { many = n; leads = λ place read lt h. absurd (omega arith) }

pub contracted_more : {graph : List (List ℕ)} {variables : ℕ} {representatives : List ℕ} {count : ℕ} {old new : List (List ℕ)} → IsContracted graph variables representatives count old → Grows old new
    → (own : ℕ) (row : List ℕ) → slice_get representatives count ≡ Some own → slice_get graph count ≡ Some row → AreLed variables representatives new own row → IsContracted graph variables representatives (count + 1) new
contracted_more {graph} {variables} {representatives} {count} {old} {new} h g own row at is led = record {
  many = g.many ∙ h.many;
  leads = λ place read lt n own' found e f. elim (eqb_tells place count) [
    | inl p ↦
        let o : own ≡ own' = same_Some own own' (sym at ∙ ap (slice_get representatives) (sym p.1) ∙ e) in
        let r : n.row ≡ row = same_Some n.row row (sym n.here ∙ ap (slice_get graph) p.1 ∙ is) in
        subst (λ x. Leads variables new x found) o (led read found (subst (λ x. Contains x read) r n.listed) f)
    | inr p ↦
        let ne : place ≢ count = p.1 in
        let earlier : place < count = omega arith in
        leads_more g own' found (h.leads place read earlier n own' found e f)
  ];
}

-- ---- an order of the rows puts variables after what they read

representative_of : {variables many count : ℕ} {representatives : List ℕ} → AreRepresentatives variables many count representatives → (place : ℕ) → place < count → (representative : ℕ) × (slice_get representatives place ≡ Some representative)
representative_of {representatives = representatives} a place lt =
    let n = a.each in
    let within : place < length representatives = omega arith in
    (get_or representatives place 0, slice_get-get_or representatives place 0 within)

module _ (graph : List (List ℕ)) (variables : ℕ) (rs : List (List ℕ)) (order : List ℕ) (c : IsContraction graph variables rs) (o : IsOrder rs order) where
  earlier : {a b x : ℕ} → a < b → IsBefore order a x → IsBefore order b x
  earlier lt h = let e = h.earlier in record { at = h.at; earlier = omega arith; found = h.found }

  stands_after : {place read : ℕ} → ReadsThrough graph variables place read → read < variables → (own at : ℕ) → slice_get c.table place ≡ Some own → slice_get order at ≡ Some own → IsBefore order at read
  stands_after {place} {read} (directly n) lt own at e f =
      let s = representative_of c.are read n.there in
      let same : s.0 ≡ read = c.are.variable read s.0 s.1 lt in
      elim (c.whole.leads place read (slice_get_within graph place n.row n.here) n own s.0 e s.1) [
        | inl p ↦ let q = p.0 in let le = p.1 in absurd (omega arith)
        | inr needs ↦ subst (IsBefore order at) same (o.ranked at own s.0 f needs)
      ]
  stands_after {place} {read} (through {function = function} n function_is r) lt own at e f =
      let s = representative_of c.are function n.there in
      elim (c.whole.leads place function (slice_get_within graph place n.row n.here) n own s.0 e s.1) [
        | inl p ↦ stands_after r lt s.0 at s.1 (f ∙ ap (λ x. Some x) p.0)
        | inr needs ↦ let x = o.ranked at own s.0 f needs in earlier x.earlier (stands_after r lt s.0 x.at s.1 x.found)
      ]

-- ---- the places that pass a test, in order

module _ (p : ℕ → Bool) where
  kept_from : (y : ℕ) (ys : List ℕ) (k x : ℕ) (passed : Bool) → p y ≡ passed → slice_get (cond passed (y ∷ filter p ys) (filter p ys)) k ≡ Some x
      → ((k : ℕ) → slice_get (filter p ys) k ≡ Some x → (j : ℕ) × (slice_get ys j ≡ Some x) × (filter p (take j ys) ≡ take k (filter p ys)))
      → (j : ℕ) × (slice_get (y ∷ ys) j ≡ Some x) × (filter p (take j (y ∷ ys)) ≡ take k (cond passed (y ∷ filter p ys) (filter p ys)))
  kept_from y ys zero x true is e rest = (0, e, refl)
  kept_from y ys (suc k) x true is e rest =
      let r = rest k e in
      (suc r.0, r.1, ap (λ b. cond b (y ∷ filter p (take r.0 ys)) (filter p (take r.0 ys))) is ∙ ap (λ zs. y ∷ zs) r.2)
  kept_from y ys k x false is e rest =
      let r = rest k e in
      (suc r.0, r.1, ap (λ b. cond b (y ∷ filter p (take r.0 ys)) (filter p (take r.0 ys))) is ∙ r.2)

  -- what is kept stands at a place, and what stands before it is kept before it
  kept_at : (xs : List ℕ) (k x : ℕ) → slice_get (filter p xs) k ≡ Some x → (j : ℕ) × (slice_get xs j ≡ Some x) × (filter p (take j xs) ≡ take k (filter p xs))
  kept_at [] k x e = absurd (none-some x e)
  kept_at (y ∷ ys) k x e = kept_from y ys k x (p y) refl e (λ k' e'. kept_at ys k' x e')

  first_kept : (y : ℕ) (ys : List ℕ) (passed : Bool) → p y ≡ passed → p y ≡ true → Contains (cond passed (y ∷ filter p ys) (filter p ys)) y
  first_kept y ys true is q = contains_first y (filter p ys)
  first_kept y ys false is q = absurd (let e : true ≡ false = sym q ∙ is in cc)

  later_kept : (y : ℕ) (ys : List ℕ) (x : ℕ) (passed : Bool) → Contains (filter p ys) x → Contains (cond passed (y ∷ filter p ys) (filter p ys)) x
  later_kept y ys x true h = contains_later y (filter p ys) x h
  later_kept y ys x false h = h

  kept : (xs : List ℕ) (j x : ℕ) → slice_get xs j ≡ Some x → p x ≡ true → Contains (filter p xs) x
  kept [] j x e q = absurd (none-some x e)
  kept (y ∷ ys) zero x e q = let same : y ≡ x = same_Some y x e in subst (Contains (filter p (y ∷ ys))) same (first_kept y ys (p y) refl (ap p same ∙ q))
  kept (y ∷ ys) (suc j) x e q = later_kept y ys x (p y) (kept ys j x e q)

  passes : (xs : List ℕ) (k x : ℕ) → slice_get (filter p xs) k ≡ Some x → p x ≡ true
  passes xs k x e = All-contains (λ y. p y ≡ true) (filter p xs) x (filter_passes p xs) (contains_at (filter p xs) k x e)

before_take : (xs : List ℕ) (j at x : ℕ) → at < j → slice_get xs at ≡ Some x → slice_get (take j xs) at ≡ Some x
before_take [] j at x lt e = absurd (none-some x e)
before_take (y ∷ ys) zero at x lt e = absurd (omega arith)
before_take (y ∷ ys) (suc j) zero x lt e = e
before_take (y ∷ ys) (suc j) (suc at) x lt e = before_take ys j at x (omega arith) e

from_take : (xs : List ℕ) (j at x : ℕ) → slice_get (take j xs) at ≡ Some x → (at < j) × (slice_get xs at ≡ Some x)
from_take [] zero at x e = absurd (none-some x e)
from_take [] (suc j) at x e = absurd (none-some x e)
from_take (y ∷ ys) zero at x e = absurd (none-some x e)
from_take (y ∷ ys) (suc j) zero x e = (omega arith, e)
from_take (y ∷ ys) (suc j) (suc at) x e = let r = from_take ys j at x e in let lt = r.0 in (omega arith, r.1)

module _ (graph : List (List ℕ)) (variables : ℕ) (rs : List (List ℕ)) (order : List ℕ) (c : IsContraction graph variables rs) (o : IsOrder rs order) where
  abbrev is_variable : ℕ → Bool
  is_variable place = nat_lt place variables

  read_kept : (k x j read : ℕ) → filter is_variable (take j order) ≡ take k (filter is_variable order) → IsBefore order j read → read < variables → IsBefore (filter is_variable order) k read
  read_kept k x j read same h lt =
      let there = kept is_variable (take j order) h.at read (before_take order j h.at read h.earlier h.found) (lt-ltb read variables lt) in
      let p = place_of (take k (filter is_variable order)) read (subst (λ xs. Contains xs read) same there) in
      let r = from_take (filter is_variable order) k p.0 read p.1 in
      record { at = p.0; earlier = r.0; found = r.1 }

  pub variables_in_order : IsVariableOrder graph variables (filter is_variable order)
  variables_in_order = record {
    within = λ at place e.
        let l = kept_at is_variable order at place e in
        let n = c.whole.many in
        let w : place < length rs = o.within l.0 place l.1 in
        (ltb-true place variables (passes is_variable order at place e), omega arith);
    complete = λ place lt there.
        let s = representative_of c.are place there in
        let n = c.whole.many in
        let w : place < length rs = omega arith in
        let b = o.complete place w in
        let p = place_of (filter is_variable order) place (kept is_variable order b.at place b.found (lt-ltb place variables lt)) in
        record { at = p.0; earlier = slice_get_within (filter is_variable order) p.0 place p.1; found = p.1 };
    distinct = λ at at' place e f.
        let l = kept_at is_variable order at place e in
        let r = kept_at is_variable order at' place f in
        let same : l.0 ≡ r.0 = o.distinct l.0 r.0 place l.1 r.1 in
        let takes : take at (filter is_variable order) ≡ take at' (filter is_variable order) = sym l.2 ∙ ap (λ j. filter is_variable (take j order)) same ∙ r.2 in
        let lengths : length (take at (filter is_variable order)) ≡ length (take at' (filter is_variable order)) = ap length takes in
        let a : at < length (filter is_variable order) = slice_get_within (filter is_variable order) at place e in
        let b : at' < length (filter is_variable order) = slice_get_within (filter is_variable order) at' place f in
        omega (arith, length-take at (filter is_variable order), length-take at' (filter is_variable order));
    ranked = λ at place read e r lt.
        let l = kept_at is_variable order at place e in
        let place_is : place < variables = ltb-true place variables (passes is_variable order at place e) in
        let w : place < length rs = o.within l.0 place l.1 in
        let n = c.whole.many in
        let s = representative_of c.are place (omega arith) in
        let own : s.0 ≡ place = c.are.variable place s.0 s.1 place_is in
        read_kept at place l.0 read l.2 (stands_after graph variables rs order c o r lt place l.0 (s.1 ∙ ap (λ x. Some x) own) l.1) lt;
  }

pub if_ok : {T E : Type 0} {P Q : T → Type 0} (r : Result T E) → IfOk r P → ((x : T) → P x → Q x) → IfOk r Q
if_ok (Ok x) p f = f x p
if_ok (Err e) p f = tt
