-- A walk that ends where it began doesn't rise all the way.
use Rattle.std.proofs.Common.{◌≡◌, sym, ◌∙◌, ap, subst, ◌<◌, ◌≤◌, ◌+◌, ◌-◌, ◌∷◌, [], ℕ, zero, suc, List, Some, refl, arith, length, drop, get_or}
use Rattle.std.specs.Prelude.{slice_get}
use Rattle.std.proofs.lemmas.Option.{none-some, same_Some, slice_get-get_or}
use Rattle.modules_compilation.specs.declared.error.Error.{Error}
use Rattle.modules_compilation.specs.declared.module_node.File.{File as LoadedFile}
use Rattle.resolve_order.specs.Needs.{IsCycle}
use Rattle.modules_sources.specs.Items.{key_of}
use Rattle.modules_sources.specs.Reached.{IsStepBack}
use Rattle.modules_sources.specs.Submodules.{IsCircular}

-- what is left begins at a place, and all before it rose
pub record IsRest (places rest : List ℕ) : Type 0 where
  pub at : ℕ
  pub is : rest ≡ drop at places
  pub rising : get_or places 0 0 + at ≤ get_or places at 0
  pub some : 0 < length places → 0 < length rest

pub all_left : (places : List ℕ) → IsRest places places
all_left places = record { at = 0; is = refl; rising = omega arith; some = λ lt. lt }

first_left : (places : List ℕ) (at x : ℕ) (others : List ℕ) → drop at places ≡ x ∷ others → (slice_get places at ≡ Some x) × (drop (suc at) places ≡ others)
first_left [] zero x others e = absurd (cc e)
first_left [] (suc at) x others e = absurd (cc e)
first_left (y ∷ places) zero x others e =
    let first : y ≡ x = cc e in
    let rest : places ≡ others = cc e in
    (ap Some first, rest)
first_left (y ∷ places) (suc at) x others e = first_left places at x others e

value_at : (places : List ℕ) (at x : ℕ) → slice_get places at ≡ Some x → get_or places at 0 ≡ x
value_at [] at x e = absurd (none-some x e)
value_at (y ∷ places) zero x e = same_Some y x e
value_at (y ∷ places) (suc at) x e = value_at places at x e

-- the next rises too
pub rises : (places rest : List ℕ) (current other : ℕ) (others : List ℕ) → IsRest places rest → rest ≡ current ∷ other ∷ others → current < other → IsRest places (other ∷ others)
rises places rest current other others h e lt =
    let one = first_left places h.at current (other ∷ others) (sym h.is ∙ e) in
    let two = first_left places (suc h.at) other others one.1 in
    let a : get_or places h.at 0 ≡ current = value_at places h.at current one.0 in
    let b : get_or places (suc h.at) 0 ≡ other = value_at places (suc h.at) other two.0 in
    let r = h.rising in
    record { at = suc h.at; is = sym one.1; rising = omega (arith, a, b, r, lt); some = λ long. omega arith }

-- a step that doesn't rise leads back
pub leads_back : (files : List LoadedFile) (first : ℕ) (refusal : Error) (places rest : List ℕ) (current other : ℕ) (others : List ℕ) → IsRest places rest → rest ≡ current ∷ other ∷ others → other ≤ current
    → IsCircular refusal (key_of (slice_get files (first + current))) (key_of (slice_get files (first + other))) → (imports : List (List ℕ)) → IsCycle imports places → IsStepBack imports files first refusal
leads_back files first refusal places rest current other others h e le told imports cycle =
    let one = first_left places h.at current (other ∷ others) (sym h.is ∙ e) in
    let two = first_left places (suc h.at) other others one.1 in
    let next : suc h.at ≡ h.at + 1 = omega arith in
    record {
      places = places;
      cycle = cycle;
      at = h.at;
      importer = current;
      imported = other;
      from = one.0;
      to = subst (λ n. slice_get places n ≡ Some other) next two.0;
      back = le;
      circular = told;
    }

long_left : (places : List ℕ) (at : ℕ) → length (drop at places) ≤ 1 → 0 < length (drop at places) → at + 1 ≡ length places
long_left [] zero le lt = absurd (omega (arith, lt))
long_left [] (suc at) le lt = absurd (omega (arith, lt))
long_left (x ∷ places) zero le lt = omega (arith, le)
long_left (x ∷ places) (suc at) le lt = let h = long_left places at le lt in omega (arith, h)

-- it can't have risen to its end
pub no_end : (places rest : List ℕ) → IsRest places rest → length rest ≤ 1 → (imports : List (List ℕ)) → IsCycle imports places → ⊥
no_end places rest h le imports cycle =
    let long = cycle.long in
    let lt : 0 < length rest = h.some (omega (arith, long)) in
    let end : h.at + 1 ≡ length places = long_left places h.at (subst (λ r. length r ≤ 1) h.is le) (subst (λ r. 0 < length r) h.is lt) in
    let here : length places - 1 ≡ h.at = omega (arith, end) in
    let same : get_or places 0 0 ≡ get_or places h.at 0 = closed (cycle.closed ∙ ap (slice_get places) here) in
    let r = h.rising in
    omega (arith, same, r, end, long)
  where
    closed : slice_get places 0 ≡ slice_get places h.at → get_or places 0 0 ≡ get_or places h.at 0
    closed e =
        let within : 0 < length places = (let l = cycle.long in omega (arith, l)) in
        let first : slice_get places 0 ≡ Some (get_or places 0 0) = slice_get-get_or places 0 0 within in
        sym (value_at places h.at (get_or places 0 0) (sym e ∙ first))

-- ---- by the first two that are left

pub rises_on : (places rest : List ℕ) → IsRest places rest → 2 ≤ length rest → get_or rest 0 0 < get_or rest 1 0 → IsRest places (drop 1 rest)
rises_on places [] h long lt = absurd (omega (arith, long))
rises_on places (current ∷ []) h long lt = absurd (omega (arith, long))
rises_on places (current ∷ other ∷ others) h long lt = rises places (current ∷ other ∷ others) current other others h refl lt

pub leads_back_on : (files : List LoadedFile) (first : ℕ) (refusal : Error) (places rest : List ℕ) → IsRest places rest → 2 ≤ length rest → get_or rest 1 0 ≤ get_or rest 0 0
    → IsCircular refusal (key_of (slice_get files (first + get_or rest 0 0))) (key_of (slice_get files (first + get_or rest 1 0))) → (imports : List (List ℕ)) → IsCycle imports places → IsStepBack imports files first refusal
leads_back_on files first refusal places [] h long le told = absurd (omega (arith, long))
leads_back_on files first refusal places (current ∷ []) h long le told = absurd (omega (arith, long))
leads_back_on files first refusal places (current ∷ other ∷ others) h long le told = leads_back files first refusal places (current ∷ other ∷ others) current other others h refl le told
