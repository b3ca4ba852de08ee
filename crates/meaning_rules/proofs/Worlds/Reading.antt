-- Reading orders of worlds.
use Rattle.std.proofs.Common.{◌≡◌, inl, inr, sym, ◌∙◌, ap, subst, List, ℕ, zero, suc, ◌≤◌, Some, arith}
use Rattle.std.specs.Prelude.{slice_get, Contains}
use Rattle.std.proofs.lemmas.Option.{same_Some}
use Rattle.meaning_rules.specs.Worlds.Given.{Text, World}
use Rattle.meaning_rules.specs.Worlds.Sources.{Leads, itself, further}
use Rattle.meaning_rules.specs.Worlds.Modules.{IsReadingOrder, imports_of, OrdersAreByDepth, OrdersAreByImports, OrdersAreUnique, OrdersHaveOnce, OrdersHaveReached}
use Rattle.meaning_rules.proofs.Worlds.Orders.{by_rows, is_there, led_within, orders_are_unique as same_orders, stands_once}
use Rattle.meaning_rules.proofs.Worlds.Places.{contains_at, place_of}
use Rattle.meaning_rules.proofs.Worlds.Rows.{rows_are_imports}

module _ (w : World) (own : Text) (files : List Text) (o : IsReadingOrder w own files) where
  led_to : (bound place : ℕ) (file : Text) → place ≤ bound → slice_get files place ≡ Some file → (count : ℕ) × Leads w own count file
  led_to bound zero file le e = let same : own ≡ file = same_Some own file (sym o.first ∙ e) in (0, subst (λ f. Leads w own 0 f) same itself)
  led_to zero (suc place) file le e = absurd (omega arith)
  led_to (suc bound) (suc place) file le e =
      let l = o.led place file e in
      let lt = l.earlier in
      let r = led_to bound l.at l.importer (omega arith) l.found in
      (suc r.0, further r.1 ((rows_are_imports w l.importer file).0 l.imported))

  all_there : (count : ℕ) (file : Text) → Leads w own count file → Contains files file
  all_there count file itself = contains_at files 0 own o.first
  all_there (suc count) file (further {between = between} l i) = is_there (imports_of w) own files o between file (all_there count between l) ((rows_are_imports w between file).1 i)

  -- what stands before a file is no deeper
  pub shallow : (n i j : ℕ) (f x : Text) → i ≤ j → slice_get files i ≡ Some x → slice_get files j ≡ Some f → Leads w own n f → (m : ℕ) × (m ≤ n) × Leads w own m x
  shallow n i j f x le is e itself =
      let zero_is : j ≡ 0 = stands_once (imports_of w) own files o j 0 own e o.first in
      let i_is : i ≡ 0 = omega arith in
      let same : own ≡ x = same_Some own x (sym o.first ∙ ap (slice_get files) (sym i_is) ∙ is) in
      (0, omega arith, subst (Leads w own 0) same itself)
  shallow (suc n) i j f x le is e (further {between = g} l c) =
      let p = place_of files g (all_there n g l) in
      elim (led_within (imports_of w) own files o p.0 j i f g x p.1 ((rows_are_imports w g f).1 c) e le is) [
        | inl same ↦ (0, omega arith, subst (Leads w own 0) same itself)
        | inr r ↦
            let s = shallow n r.0 p.0 g r.1 r.2 r.3 p.1 l in
            let m = s.1 in
            (suc s.0, omega arith, further s.2 ((rows_are_imports w r.1 x).0 r.4))
      ]

pub orders_have_reached : OrdersHaveReached
orders_have_reached w own files o file =
    (λ c. let p = place_of files file c in let r = led_to w own files o p.0 p.0 file (omega arith) p.1 in record { count = r.0; leads = r.1 }, λ f. all_there w own files o f.count file f.leads)

pub orders_have_once : OrdersHaveOnce
orders_have_once w own files o = stands_once (imports_of w) own files o

pub orders_are_by_depth : OrdersAreByDepth
orders_are_by_depth w own files o i j a b m n le e f da db =
    let s = shallow w own files o n i j b a le e f db.leads in
    let p = da.least s.0 s.2 in
    let q = s.1 in
    omega arith

pub orders_are_by_imports : OrdersAreByImports
orders_are_by_imports w own files o i j a b some lt e f =
    let r = by_rows (imports_of w) own files o i j a b some lt e f in
    record { place = r.0; importer = r.1; found = r.2; imported = (rows_are_imports w r.1 a).0 r.3; before = λ q other at c. r.4 q other at ((rows_are_imports w other b).1 c) }

pub orders_are_unique : OrdersAreUnique
orders_are_unique w own files others o o' = same_orders (imports_of w) own files others o o'
