-- Lists that rise are told by what is among them, and options by what they hold.
use Rattle.std.proofs.Common.{◌≡◌, refl, sym, ◌∙◌, ap, subst, ◌⊎◌, inl, inr, Bool, true, false, List, [], ◌∷◌, map, Option, Some, None}
use Rattle.std.specs.Prelude.{Contains, bytes_eq}
use Rattle.std.specs.Cmp.Lexicographic.{pointwise}
use Rattle.std.specs.List.{AllByRecursion}
use Rattle.std.specs.List.Sorted.{IsStrictlySortedBy}
use Rattle.std.specs.Ordering.{ordering_reverse}
use Rattle.std.specs.declared.cmp.Ordering.TheVariants.{Less}
use Rattle.std.proofs.lemmas.Cmp.{nat_list_cmp_total}
use Rattle.std.proofs.lemmas.Map.Keys.{sorted_head, sorted_tail}
use Rattle.std.proofs.lemmas.Slice.Eq.{slice_eq-Decides, bytes_eq-Decides}
use Rattle.modules_compilation.specs.Tables.{text_cmp}
use Rattle.meaning_rules.specs.Worlds.Given.{Text}
use Rattle.meaning_rules.proofs.Worlds.Places.{contains_cases, contains_first, contains_later, contains_none}

-- ---- options

-- options that hold the same are the same
pub same_options : {X : Type 0} (o p : Option X) → ((x : X) → o ≡ Some x → p ≡ Some x) → ((x : X) → p ≡ Some x → o ≡ Some x) → o ≡ p
same_options None None to from = refl
same_options None (Some y) to from = from y refl
same_options (Some x) p to from = sym (to x refl)

-- ---- paths

-- a path is among others, or it is not
pub is_among : (paths : List (List Text)) (path : List Text) → Contains paths path ⊎ (Contains paths path → ⊥)
is_among [] path = inr (contains_none [] path refl)
is_among (other ∷ paths) path = by_test (pointwise bytes_eq other path) refl (is_among paths path)
  where
    by_test : (b : Bool) → pointwise bytes_eq other path ≡ b → Contains paths path ⊎ (Contains paths path → ⊥) → Contains (other ∷ paths) path ⊎ (Contains (other ∷ paths) path → ⊥)
    by_test true e rest = inl (subst (Contains (other ∷ paths)) ((slice_eq-Decides bytes_eq-Decides other path _ refl).0 e) (contains_first other paths))
    by_test false e (inl c) = inl (contains_later other paths path c)
    by_test false e (inr out) = inr (λ c. elim (contains_cases other paths path c) [
      | inl same ↦ absurd (cc (sym e ∙ (slice_eq-Decides bytes_eq-Decides other path _ refl).1 same))
      | inr later ↦ out later
    ])

-- ---- lists that rise

module _ {X : Type 0} (Before : X → X → Type 0) where
  -- each stands before those after it
  abbrev pub Rises : List X → Type 0
  Rises [] = Unit {0}
  Rises (x ∷ xs) = ((y : X) → Contains xs y → Before x y) × Rises xs

  module _ (one_way : (x y : X) → Before x y → Before y x → ⊥) where
    -- the first of both are the same
    pub first_same : (x y : X) (xs ys : List X) → Rises (x ∷ xs) → Rises (y ∷ ys) → Contains (y ∷ ys) x → Contains (x ∷ xs) y → x ≡ y
    first_same x y xs ys rises rises' c d = by_cases (contains_cases y ys x c) (contains_cases x xs y d)
      where
        by_cases : (y ≡ x) ⊎ Contains ys x → (x ≡ y) ⊎ Contains xs y → x ≡ y
        by_cases (inl e) later = sym e
        by_cases (inr c) (inl e) = e
        by_cases (inr c) (inr d) = absurd (one_way x y (rises.0 y d) (rises'.0 x c))

    -- what stands first stands there alone
    pub not_later : (x : X) (xs : List X) → Rises (x ∷ xs) → Contains xs x → ⊥
    not_later x xs rises c = one_way x x (rises.0 x c) (rises.0 x c)

    -- what stands later in one list stands later in the other
    later_only : (x : X) (xs ys : List X) → Rises (x ∷ xs) → ((z : X) → Contains (x ∷ xs) z → Contains (x ∷ ys) z) → (z : X) → Contains xs z → Contains ys z
    later_only x xs ys rises to z c = elim (contains_cases x ys z (to z (contains_later x xs z c))) [
      | inl e ↦ absurd (not_later x xs rises (subst (Contains xs) (sym e) c))
      | inr d ↦ d
    ]

    -- lists that rise are the same where the same are among them
    pub same_lists : (xs ys : List X) → Rises xs → Rises ys → ((z : X) → Contains xs z → Contains ys z) → ((z : X) → Contains ys z → Contains xs z) → xs ≡ ys
    same_lists [] [] rises rises' to from = refl
    same_lists [] (y ∷ ys) rises rises' to from = absurd (contains_none [] y refl (from y (contains_first y ys)))
    same_lists (x ∷ xs) [] rises rises' to from = absurd (contains_none [] x refl (to x (contains_first x xs)))
    same_lists (x ∷ xs) (y ∷ ys) rises rises' to from =
        let same : x ≡ y = first_same x y xs ys rises rises' (to x (contains_first x xs)) (from y (contains_first y ys)) in
        let onward : (z : X) → Contains (x ∷ xs) z → Contains (x ∷ ys) z = subst (λ t. (z : X) → Contains (x ∷ xs) z → Contains (t ∷ ys) z) (sym same) to in
        let back : (z : X) → Contains (y ∷ ys) z → Contains (y ∷ xs) z = subst (λ t. (z : X) → Contains (y ∷ ys) z → Contains (t ∷ xs) z) same from in
        ap (λ t. t ∷ xs) same ∙ ap (λ ts. y ∷ ts) (same_lists xs ys rises.1 rises'.1 (later_only x xs ys rises onward) (later_only y ys xs rises' back))

-- ---- lists in byte order of their names

-- no two texts are before each other
pub one_way : (x y : Text) → text_cmp x y ≡ Less → text_cmp y x ≡ Less → ⊥
one_way x y e f = absurd (cc (sym e ∙ nat_list_cmp_total.antisymm x y ∙ ap ordering_reverse f))

module _ {X : Type 0} (name : X → Text) where
  -- the name of the one is before that of the other
  abbrev pub IsBefore : X → X → Type 0
  IsBefore x y = text_cmp (name x) (name y) ≡ Less

  -- what holds of all names holds of the name of each that is among them
  all_of : (P : Text → Type 0) (xs : List X) (x : X) → AllByRecursion P (map name xs) → Contains xs x → P (name x)
  all_of P [] x all c = absurd (contains_none [] x refl c)
  all_of P (y ∷ ys) x all c = elim (contains_cases y ys x c) [
    | inl e ↦ subst (λ z. P (name z)) e all.0
    | inr d ↦ all_of P ys x all.1 d
  ]

  pub rising : (xs : List X) → IsStrictlySortedBy text_cmp (map name xs) → Rises IsBefore xs
  rising [] sorted = tt
  rising (x ∷ xs) sorted =
      (λ y c. all_of (λ n. text_cmp (name x) n ≡ Less) xs y (sorted_head text_cmp (name x) (map name xs) sorted) c, rising xs (sorted_tail text_cmp (name x) (map name xs) sorted))

  -- rows that stand in byte order of their names are the same where the same rows are among them
  pub same_rows : (xs ys : List X) → IsStrictlySortedBy text_cmp (map name xs) → IsStrictlySortedBy text_cmp (map name ys) → ((z : X) → Contains xs z → Contains ys z) → ((z : X) → Contains ys z → Contains xs z) → xs ≡ ys
  same_rows xs ys sorted sorted' to from = same_lists IsBefore (λ x y e f. one_way (name x) (name y) e f) xs ys (rising xs sorted) (rising ys sorted') to from

-- a text as its own name
abbrev pub itself : Text → Text
itself text = text

pub mapped_itself : (xs : List Text) → map itself xs ≡ xs
mapped_itself [] = refl
mapped_itself (x ∷ xs) = ap (λ ys. x ∷ ys) (mapped_itself xs)

-- texts in byte order rise
pub texts_rise : (xs : List Text) → IsStrictlySortedBy text_cmp xs → Rises (IsBefore itself) xs
texts_rise xs sorted = rising itself xs (subst (IsStrictlySortedBy text_cmp) (sym (mapped_itself xs)) sorted)

-- and are the same where the same texts are among them
pub same_texts : (xs ys : List Text) → IsStrictlySortedBy text_cmp xs → IsStrictlySortedBy text_cmp ys → ((z : Text) → Contains xs z → Contains ys z) → ((z : Text) → Contains ys z → Contains xs z) → xs ≡ ys
same_texts xs ys sorted sorted' to from = same_lists (IsBefore itself) one_way xs ys (texts_rise xs sorted) (texts_rise ys sorted') to from
