-- Texts that rise are told by what is among them.
use Rattle.std.proofs.Common.{◌≡◌, refl, sym, ◌∙◌, ap, subst, ◌⊎◌, inl, inr, List, [], ◌∷◌}
use Rattle.std.specs.Prelude.{Contains}
use Rattle.std.specs.List.{AllByRecursion}
use Rattle.std.specs.List.Sorted.{IsStrictlySortedBy}
use Rattle.std.specs.Ordering.{ordering_reverse}
use Rattle.std.specs.declared.cmp.Ordering.TheVariants.{Less}
use Rattle.std.proofs.lemmas.Cmp.{nat_list_cmp_total}
use Rattle.std.proofs.lemmas.Map.Keys.{sorted_head, sorted_tail}
use Rattle.modules_compilation.specs.Tables.{text_cmp}
use Rattle.meaning_rules.specs.Worlds.Given.{Text}
use Rattle.meaning_rules.proofs.Worlds.Places.{contains_cases, contains_first, contains_later, contains_none}

-- what holds of all holds of each that is among them
all_of : {X : Type 0} (P : X → Type 0) (xs : List X) (x : X) → AllByRecursion P xs → Contains xs x → P x
all_of P [] x all c = absurd (contains_none [] x refl c)
all_of P (y ∷ ys) x all c = elim (contains_cases y ys x c) [
  | inl e ↦ subst P e all.0
  | inr d ↦ all_of P ys x all.1 d
]

-- no two texts are before each other
one_way : (x y : Text) → text_cmp x y ≡ Less → text_cmp y x ≡ Less → ⊥
one_way x y e f = absurd (cc (sym e ∙ nat_list_cmp_total.antisymm x y ∙ ap ordering_reverse f))

-- a text that stands after another is no other's than a later one's
later_only : (x : Text) (xs ys : List Text) → IsStrictlySortedBy text_cmp (x ∷ xs) → ((z : Text) → Contains (x ∷ xs) z → Contains (x ∷ ys) z) → (z : Text) → Contains xs z → Contains ys z
later_only x xs ys sorted to z c = elim (contains_cases x ys z (to z (contains_later x xs z c))) [
  | inl e ↦
      let before : text_cmp x z ≡ Less = all_of (λ y. text_cmp x y ≡ Less) xs z (sorted_head text_cmp x xs sorted) c in
      let itself : text_cmp x x ≡ Less = subst (λ y. text_cmp x y ≡ Less) (sym e) before in
      absurd (one_way x x itself itself)
  | inr d ↦ d
]

-- the first of both are the same
first_same : (x y : Text) (xs ys : List Text) → IsStrictlySortedBy text_cmp (x ∷ xs) → IsStrictlySortedBy text_cmp (y ∷ ys) → Contains (y ∷ ys) x → Contains (x ∷ xs) y → x ≡ y
first_same x y xs ys sorted sorted' c d = by_cases (contains_cases y ys x c) (contains_cases x xs y d)
  where
    by_cases : (y ≡ x) ⊎ Contains ys x → (x ≡ y) ⊎ Contains xs y → x ≡ y
    by_cases (inl e) other = sym e
    by_cases (inr c) (inl e) = e
    by_cases (inr c) (inr d) = absurd (one_way x y
        (all_of (λ z. text_cmp x z ≡ Less) xs y (sorted_head text_cmp x xs sorted) d)
        (all_of (λ z. text_cmp y z ≡ Less) ys x (sorted_head text_cmp y ys sorted') c))

-- lists of texts that rise are the same where the same texts are among them
pub sorted_same : (xs ys : List Text) → IsStrictlySortedBy text_cmp xs → IsStrictlySortedBy text_cmp ys → ((z : Text) → Contains xs z → Contains ys z) → ((z : Text) → Contains ys z → Contains xs z) → xs ≡ ys
sorted_same [] [] sorted sorted' to from = refl
sorted_same [] (y ∷ ys) sorted sorted' to from = absurd (contains_none [] y refl (from y (contains_first y ys)))
sorted_same (x ∷ xs) [] sorted sorted' to from = absurd (contains_none [] x refl (to x (contains_first x xs)))
sorted_same (x ∷ xs) (y ∷ ys) sorted sorted' to from =
    let same : x ≡ y = first_same x y xs ys sorted sorted' (to x (contains_first x xs)) (from y (contains_first y ys)) in
    let onward : (z : Text) → Contains (x ∷ xs) z → Contains (x ∷ ys) z = subst (λ t. (z : Text) → Contains (x ∷ xs) z → Contains (t ∷ ys) z) (sym same) to in
    let back : (z : Text) → Contains (y ∷ ys) z → Contains (y ∷ xs) z = subst (λ t. (z : Text) → Contains (y ∷ ys) z → Contains (t ∷ xs) z) same from in
    ap (λ t. t ∷ xs) same
    ∙ ap (λ ts. y ∷ ts) (sorted_same xs ys (sorted_tail text_cmp x xs sorted) (sorted_tail text_cmp y ys sorted') (later_only x xs ys sorted onward) (later_only y ys xs sorted' back))
