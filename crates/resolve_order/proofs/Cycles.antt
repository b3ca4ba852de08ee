-- A walk of which each step is reached is a cycle of variables.
use Rattle.std.proofs.Common.{◌≡◌, inl, inr, sym, ◌∙◌, ap, subst, Bool, true, false, List, [], ◌∷◌, ℕ, zero, suc, ◌+◌, ◌-◌, ◌<◌, ◌≤◌, Some, refl, arith, length, get_or}
use Rattle.std.specs.Prelude.{slice_get, Contains, nat_eq}
use Rattle.std.specs.List.{list_any}
use Rattle.std.proofs.lemmas.Bool.{cases_lt, eqb-true}
use Rattle.std.proofs.lemmas.Map.Views.{Contains-from_any}
use Rattle.std.proofs.lemmas.Option.{same_Some, slice_get_within, slice_get-get_or}
use Rattle.resolve_order.specs.Flooded.{is_stop}
use Rattle.resolve_order.specs.Cycles.{AreStops, IsClosed, IsReadCycle, ReachesStop, ReachNext, Walks}
use Rattle.resolve_order.proofs.Places.{place_of}
use Rattle.resolve_order.proofs.Reading.{reads_it}

module _ (graph : List (List ℕ)) (stops : List Bool) where
  pub next_none : (places : List ℕ) → ReachNext graph stops places 1
  next_none places = λ at place stop lt e f. absurd (omega arith)

  pub next_more : (places : List ℕ) (at x y : ℕ) → 0 < at → ReachNext graph stops places at → slice_get places (at - 1) ≡ Some x → slice_get places at ≡ Some y → ReachesStop graph stops x y → ReachNext graph stops places (at + 1)
  next_more places at x y positive h e f r = λ k place stop lt a b. elim (cases_lt (suc k) at) [
    | inl earlier ↦ h k place stop earlier a b
    | inr le ↦
        let before : at - 1 ≡ k = omega arith in
        let here : at ≡ suc k = omega arith in
        let p : x ≡ place = same_Some x place (sym e ∙ ap (slice_get places) before ∙ a) in
        let q : y ≡ stop = same_Some y stop (sym f ∙ ap (slice_get places) here ∙ b) in
        subst (λ z. ReachesStop graph stops z stop) p (subst (ReachesStop graph stops x) q r)
  ]

  pub next_all : (places : List ℕ) (count : ℕ) → length places ≤ count → ReachNext graph stops places count → ReachNext graph stops places (length places)
  next_all places count le h = λ k place stop lt a b. h k place stop (omega arith) a b

stop_is : {variables : ℕ} {stops : List Bool} → AreStops variables stops → (x : ℕ) → is_stop stops x ≡ true → x < variables
stop_is {variables} s x e = elim (cases_lt x variables) [
  | inl lt ↦ lt
  | inr le ↦ absurd (let f : true ≡ false = sym e ∙ s.others x le in cc)
]

module _ (graph : List (List ℕ)) (variables : ℕ) (stops : List Bool) (s : AreStops variables stops) where
  walk_of : (places : List ℕ) → ReachNext graph stops places (length places) → Walks graph variables places
  walk_of [] h = tt
  walk_of (a ∷ []) h = tt
  walk_of (a ∷ b ∷ places) h =
      let r = h 0 a b (omega arith) refl refl in
      (reads_it graph variables stops s a b r.there r.reached, walk_of (b ∷ places) (λ at place stop lt e f. h (suc at) place stop (omega arith) e f))

  later_is : (places : List ℕ) → ReachNext graph stops places (length places) → (k x : ℕ) → 0 < k → slice_get places k ≡ Some x → x < variables
  later_is places h zero x lt e = absurd (omega arith)
  later_is places h (suc j) x lt e =
      let within : suc j < length places = slice_get_within places (suc j) x e in
      let before : j < length places = omega arith in
      stop_is s x (h j (get_or places j 0) x within (slice_get-get_or places j 0 before) e).stopped

  pub cycle_of : (places : List ℕ) → IsClosed places → ReachNext graph stops places (length places) → IsReadCycle graph variables places
  cycle_of places c h = record {
    long = c.long;
    closed = c.same;
    each = λ x d.
        let p = place_of places x d in
        elim (cases_lt 0 p.0) [
          | inl positive ↦ later_is places h p.0 x positive p.1
          | inr le ↦
              let first : p.0 ≡ 0 = omega arith in
              let long = c.long in
              later_is places h (length places - 1) x (omega arith) (sym c.same ∙ ap (slice_get places) (sym first) ∙ p.1)
        ];
    walk = walk_of places h;
  }

-- ---- a number that a test finds is there

pub found_there : (q : ℕ) (xs : List ℕ) → list_any (λ y. nat_eq y q) xs ≡ true → Contains xs q
found_there q xs e = Contains-from_any {eq = λ a y. nat_eq y a} (λ x y same. sym (eqb-true y x same)) q xs e
