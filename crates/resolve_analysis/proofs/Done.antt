-- Rows of which the first elements are changed in place, one after another.
use Rattle.std.proofs.Common.{◌≡◌, ◌∙◌, ◌≢◌, ◌⊎◌, inl, inr, true, false, eqb, ℕ, ◌+◌, ◌<◌, ◌≤◌, List, length, get_or, set, Some, refl, subst, sym, ap, arith}
use Rattle.std.specs.Prelude.{slice_get}
use Rattle.std.specs.List.{All}
use Rattle.std.proofs.lemmas.List.{get_or-set_same, get_or-set_other, get_or_default, length-set}
use Rattle.std.proofs.lemmas.Option.{get_or_from_slice_get}
use Rattle.std.proofs.lemmas.Bool.{cases_lt}
use Rattle.std.proofs.lemmas.Bool.Decides.{eqb_tells}

module _ {A : Type 0} where
  -- P holds of the first elements
  abbrev pub HoldsBefore : (A → Type 0) → List A → ℕ → Type 0
  HoldsBefore P xs count = (k : ℕ) (d : A) → k < count → P (get_or xs k d)

  pub holds_more : (P : A → Type 0) (xs : List A) (i : ℕ) (y : A) → i < length xs → HoldsBefore P xs i → P y → HoldsBefore P (set xs i y) (i + 1)
  holds_more P xs i y within each one k d lt = by_place (eqb_tells k i)
    where
      by_place : ((eqb k i ≡ true) × (k ≡ i)) ⊎ ((eqb k i ≡ false) × (k ≢ i)) → P (get_or (set xs i y) k d)
      by_place (inl e) = subst P (sym (ap (λ n. get_or (set xs i y) n d) e.1 ∙ get_or-set_same xs i y d within)) one
      by_place (inr e) = let other = e.1 in subst P (sym (get_or-set_other xs i k y d other)) (each k d (omega (arith, lt, other)))

  pub holds_all : (P : A → Type 0) (xs : List A) (count : ℕ) → length xs ≤ count → HoldsBefore P xs count → All P xs
  holds_all P xs count past each k d lt = each k d (omega (arith, lt, past))

  module _ (R : A → A → Type 0) where
    -- the first elements are as R says, and the others as they were
    pub record IsDone (old new : List A) (count : ℕ) : Type 0 where
      pub many : length new ≡ length old
      pub each : (k : ℕ) (d : A) → k < count → R (get_or old k d) (get_or new k d)
      pub rest : (k : ℕ) (d : A) → count ≤ k → get_or new k d ≡ get_or old k d

    pub done_first : (xs : List A) → IsDone xs xs 0
    done_first xs = record { many = refl; each = λ k d lt. absurd (omega (arith, lt)); rest = λ k d le. refl }

    pub done_more : (old new : List A) (i : ℕ) (x y : A) → i < length new → IsDone old new i → x ≡ get_or new i x → R x y → IsDone old (set new i y) (i + 1)
    done_more old new i x y within done is one = record {
      many = length-set new i y ∙ done.many;
      each = λ k d lt. each k d lt (eqb_tells k i);
      rest = λ k d le. let other : k ≢ i = apart k le in get_or-set_other new i k y d other ∙ done.rest k d (omega (arith, le));
    }
      where
        apart : (k : ℕ) → i + 1 ≤ k → k ≢ i
        apart k le e = absurd (omega (arith, le, e))

        was : (d : A) → get_or old i d ≡ x
        was d = sym (done.rest i d (omega arith)) ∙ get_or_default new i d x within ∙ sym is

        each : (k : ℕ) (d : A) → k < i + 1 → ((eqb k i ≡ true) × (k ≡ i)) ⊎ ((eqb k i ≡ false) × (k ≢ i)) → R (get_or old k d) (get_or (set new i y) k d)
        each k d lt (inl e) =
            subst (λ z. R (get_or old k d) z) (sym (ap (λ n. get_or (set new i y) n d) e.1 ∙ get_or-set_same new i y d within))
            (subst (λ z. R z y) (sym (ap (λ n. get_or old n d) e.1 ∙ was d)) one)
        each k d lt (inr e) = let other = e.1 in subst (λ z. R (get_or old k d) z) (sym (get_or-set_other new i k y d other)) (done.each k d (omega (arith, lt, other)))

    -- where each element is to itself as R says, all are
    pub done_all : ((x : A) → R x x) → (old new : List A) (count : ℕ) → IsDone old new count → (k : ℕ) (x y : A) → slice_get old k ≡ Some x → slice_get new k ≡ Some y → R x y
    done_all itself old new count done k x y before after = by_place (cases_lt k count)
      where
        first : get_or old k x ≡ x
        first = get_or_from_slice_get old k x x before

        second : get_or new k x ≡ y
        second = get_or_from_slice_get new k y x after

        by_place : (k < count) ⊎ (count ≤ k) → R x y
        by_place (inl lt) = subst (λ z. R z y) first (subst (λ z. R (get_or old k x) z) second (done.each k x lt))
        by_place (inr le) = subst (λ z. R x z) (sym first ∙ sym (done.rest k x le) ∙ second) (itself x)
