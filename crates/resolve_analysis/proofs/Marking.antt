-- The numbers at the first places that are marked.
use Rattle.std.proofs.Common.{◌≡◌, ◌⊎◌, inl, inr, ℕ, ◌+◌, ◌<◌, ◌≤◌, min, Bool, true, false, cond, nat_eq, eqb-true, eq-eqb, List, [], length, refl, Option, Some, None, ap, sym, ◌∙◌, arith}
use Rattle.std.specs.Prelude.{slice_get, IsSome, is_some}
use Rattle.std.specs.BTreeMap.{is_at}
use Rattle.std.specs.BTreeSet.{BTreeSet, contains}
use Rattle.std.specs.List.{list_any}
use Rattle.std.specs.Ordering.{nat_cmp}
use Rattle.std.proofs.lemmas.Bool.{cases_lt}
use Rattle.std.proofs.lemmas.Option.{same_Some, slice_get_within}
use Rattle.resolve_order.specs.Flooded.{IsMarked}
use Rattle.resolve_analysis.specs.Unions.{Has, IsMarkedNumber, IsUnion}
use Rattle.resolve_analysis.proofs.Uniting.{union_none, union_same, union_then}

-- one of these numbers stands at one of so many first places that is marked
pub record MarkedBelow (count : ℕ) (numbers : List ℕ) (marks : List (Option ℕ)) (number : ℕ) : Type 0 where
  pub place : ℕ
  pub below : place < count
  pub here : slice_get numbers place ≡ Some number
  pub marked : IsMarked marks place

is_marked : (marks : List (Option ℕ)) (place : ℕ) (mark : Option ℕ) → slice_get marks place ≡ Some mark → IsSome mark → IsMarked marks place
is_marked marks place None e h = absurd (cc h)
is_marked marks place (Some m) e h = (m, e)

pub none_marked : (mark : Option ℕ) → mark ≡ None → IsSome mark → ⊥
none_marked mark e h = let f : true ≡ false = sym h ∙ ap (λ o. is_some o) e in cc

pub marked_none : {Old : ℕ → Type 0} (numbers : List ℕ) (marks : List (Option ℕ)) → IsUnion Old (MarkedBelow 0 numbers marks) Old
marked_none numbers marks = union_none (λ n m. let h = m.below in absurd (omega arith))

pub marked_more : {Old Between New : ℕ → Type 0} (i : ℕ) (numbers : List ℕ) (marks : List (Option ℕ)) (mark : Option ℕ) (number : ℕ) → slice_get numbers i ≡ Some number → slice_get marks i ≡ Some mark
    → IsUnion Old (MarkedBelow i numbers marks) Between → IsUnion Between (λ other. IsSome mark × (other ≡ number)) New → IsUnion Old (MarkedBelow (i + 1) numbers marks) New
marked_more i numbers marks mark number here at u v = union_then u v
    (λ n m. let h = m.below in record { place = m.place; below = omega arith; here = m.here; marked = m.marked })
    (λ n s. record { place = i; below = omega arith; here = here ∙ ap (λ x. Some x) (sym s.1); marked = is_marked marks i mark at s.0 })
    (λ n m. elim (cases_lt m.place i) [
      | inl lt ↦ inl (record { place = m.place; below = lt; here = m.here; marked = m.marked })
      | inr le ↦
          let h = m.below in
          let same : m.place ≡ i = omega arith in
          let one : mark ≡ Some m.marked.0 = same_Some mark (Some m.marked.0) (sym at ∙ ap (slice_get marks) (sym same) ∙ m.marked.1) in
          inr (ap (λ o. is_some o) one, same_Some n number (sym m.here ∙ ap (slice_get numbers) same ∙ here))
    ])

pub marked_all : {Old New : ℕ → Type 0} (i : ℕ) (numbers : List ℕ) (marks : List (Option ℕ)) → min (length numbers) (length marks) ≤ i → IsUnion Old (MarkedBelow i numbers marks) New → IsUnion Old (IsMarkedNumber numbers marks) New
marked_all i numbers marks past u = union_same
    (λ n m. record { place = m.place; here = m.here; marked = m.marked })
    (λ n m.
    let one : m.place < length numbers = slice_get_within numbers m.place n m.here in
    let two : m.place < length marks = slice_get_within marks m.place (Some m.marked.0) m.marked.1 in
    record { place = m.place; below = omega arith; here = m.here; marked = m.marked })
    u

-- ---- one number more

kept_case : (b o : Bool) → o ≡ true → cond b true o ≡ true
kept_case true o e = refl
kept_case false o e = e

sound_case : (b o : Bool) → cond b true o ≡ true → (o ≡ true) ⊎ (b ≡ true)
sound_case true o e = inr refl
sound_case false o e = inl e

pub number_added : (old new : BTreeSet ℕ) (number : ℕ) → ((n : ℕ) → contains nat_cmp new n ≡ cond (nat_eq number n) true (contains nat_cmp old n)) → IsUnion (Has old) (λ other. other ≡ number) (Has new)
number_added old new number so = record {
  kept = λ n o. so n ∙ kept_case (nat_eq number n) (contains nat_cmp old n) o;
  added = λ n e. so n ∙ ap (λ b. cond b true (contains nat_cmp old n)) (eq-eqb number n (sym e));
  sound = λ n h. elim (sound_case (nat_eq number n) (contains nat_cmp old n) (sym (so n) ∙ h)) [ inl o ↦ inl o | inr e ↦ inr (sym (eqb-true number n e)) ];
}

-- a set without keys has no number
pub none_has : (numbers : BTreeSet ℕ) (n : ℕ) → numbers.keys ≡ [] → Has numbers n → ⊥
none_has numbers n e h = let f : true ≡ false = sym h ∙ ap (list_any (is_at (nat_cmp n))) e in cc
