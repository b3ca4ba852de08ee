-- What is left of lists by maps, and the last place of an item.
use Rattle.std.proofs.Common.{◌≡◌, ◌⊎◌, inl, inr, sym, ◌∙◌, ap, ap₂, subst, Bool, true, false, cond, List, [], ◌∷◌, ◌+◌, ℕ, zero, suc, Option, Some, None, refl, arith, map, nat_eq}
use Rattle.std.specs.Prelude.{Contains, slice_get}
use Rattle.std.specs.List.{All, cons_option, filter_map}
use Rattle.std.specs.Option.{option_or}
use Rattle.std.proofs.lemmas.Bool.{and_from, and_parts, eq-eqb, eqb-true}
use Rattle.std.proofs.lemmas.Option.{get_or_from_slice_get, none-some, same_Some, slice_get_within}
use Rattle.modules_compilation.specs.declared.place.Place.{Place}
use Rattle.resolve_recipes.specs.Standing.{is_place, last_place}
use Rattle.meaning_rules.proofs.Worlds.Places.{contains_at, contains_cases, contains_first, contains_later, contains_none, place_of}
use Rattle.laws_modules.proofs.Names.Found.{mapped, mapped_at}

-- what holds of all holds of one
pub all_at : {X : Type 0} (P : X → Type 0) (xs : List X) (i : ℕ) (x : X) → All P xs → slice_get xs i ≡ Some x → P x
all_at P xs i x all e = subst P (get_or_from_slice_get xs i x x e) (all i x (slice_get_within xs i x e))

-- ---- maps

put_first : {Y : Type 0} (o : Option Y) (y : Y) (rest : List Y) → o ≡ Some y → Contains (cons_option o rest) y
put_first o y rest e = subst (λ p. Contains (cons_option p rest) y) (sym e) (contains_first y rest)

put_before : {Y : Type 0} (o : Option Y) (y : Y) (rest : List Y) → Contains rest y → Contains (cons_option o rest) y
put_before None y rest c = c
put_before (Some z) y rest c = contains_later z rest y c

put_cases : {Y : Type 0} (o : Option Y) (y : Y) (rest : List Y) → Contains (cons_option o rest) y → (o ≡ Some y) ⊎ Contains rest y
put_cases None y rest c = inr c
put_cases (Some z) y rest c = elim (contains_cases z rest y c) [
  | inl e ↦ inl (ap (λ x. Some x) e)
  | inr d ↦ inr d
]

module _ {X Y : Type 0} where
  pub mapped_contains : (f : X → Y) (xs : List X) (x : X) → Contains xs x → Contains (map f xs) (f x)
  mapped_contains f xs x c = let p = place_of xs x c in contains_at (map f xs) p.0 (f x) (mapped f xs p.0 x p.1)

  pub mapped_back : (f : X → Y) (xs : List X) (y : Y) → Contains (map f xs) y → (x : X) × Contains xs x × (f x ≡ y)
  mapped_back f xs y c =
      let p = place_of (map f xs) y c in
      let q = mapped_at f xs p.0 y p.1 in
      (q.0, contains_at xs p.0 q.0 q.1, q.2)

  -- what a function gives of an element is among what it gives of the list
  pub given_there : (h : X → Option Y) (xs : List X) (x : X) (y : Y) → Contains xs x → h x ≡ Some y → Contains (filter_map h xs) y
  given_there h [] x y c e = absurd (contains_none [] x refl c)
  given_there h (z ∷ zs) x y c e = elim (contains_cases z zs x c) [
    | inl is ↦ put_first (h z) y (filter_map h zs) (ap h is ∙ e)
    | inr d ↦ put_before (h z) y (filter_map h zs) (given_there h zs x y d e)
  ]

  pub given_back : (h : X → Option Y) (xs : List X) (y : Y) → Contains (filter_map h xs) y → (x : X) × Contains xs x × (h x ≡ Some y)
  given_back h [] y c = absurd (contains_none [] y refl c)
  given_back h (x ∷ xs) y c = elim (put_cases (h x) y (filter_map h xs) c) [
    | inl e ↦ (x, contains_first x xs, e)
    | inr d ↦ let r = given_back h xs y d in (r.0, contains_later x xs r.0 r.1, r.2)
  ]

  pub given_alike : (f g : X → Option Y) → ((x : X) → f x ≡ g x) → (xs : List X) → filter_map f xs ≡ filter_map g xs
  given_alike f g same [] = refl
  given_alike f g same (x ∷ xs) = ap (λ o. cons_option o (filter_map f xs)) (same x) ∙ ap (cons_option (g x)) (given_alike f g same xs)

-- ---- places of items

place_same : (a b : Place) → is_place a b ≡ true → a ≡ b
place_same a b e =
    let h = and_parts (nat_eq a.file b.file) (nat_eq a.item b.item) e in
    ap₂ (λ file item. record { file = file; item = item }) (eqb-true a.file b.file h.0) (eqb-true a.item b.item h.1)

is_itself : (a b : Place) → a ≡ b → is_place a b ≡ true
is_itself a b e = and_from (nat_eq a.file b.file) (nat_eq a.item b.item) (eq-eqb a.file b.file (ap (λ (p : Place). p.file) e)) (eq-eqb a.item b.item (ap (λ (p : Place). p.item) e))

-- the item stands in the list, which begins with the one at a first place
abbrev Stands : ℕ → List Place → Place → ℕ → Type 0
Stands first items item p = (i : ℕ) × (first + i ≡ p) × (slice_get items i ≡ Some item)

by_test : (first : ℕ) (other : Place) (others : List Place) (item : Place) (p : ℕ) (b : Bool) → is_place other item ≡ b → cond b (Some first) None ≡ Some p → Stands first (other ∷ others) item p
by_test first other others item p true is e = let s = same_Some first p e in (0, omega (arith, s), ap (λ x. Some x) (place_same other item is))
by_test first other others item p false is e = absurd (none-some p e)

by_later : (first : ℕ) (other : Place) (others : List Place) (item : Place) (p : ℕ) (later : Option ℕ) → ((q : ℕ) → later ≡ Some q → Stands (first + 1) others item q)
    → option_or later (cond (is_place other item) (Some first) None) ≡ Some p → Stands first (other ∷ others) item p
by_later first other others item p (Some q) behind e =
    let m = behind q refl in
    let n = m.1 in
    let s = same_Some q p e in
    (suc m.0, omega (arith, n, s), m.2)
by_later first other others item p None behind e = by_test first other others item p (is_place other item) refl e

-- the last place of an item is one of its places
pub last_there : (first : ℕ) (items : List Place) (item : Place) (p : ℕ) → last_place first items item ≡ Some p → Stands first items item p
last_there first [] item p e = absurd (none-some p e)
last_there first (other ∷ others) item p e = by_later first other others item p (last_place (first + 1) others item) (λ q is. last_there (first + 1) others item q is) e

or_here : (later : Option ℕ) (b : Bool) (first : ℕ) → b ≡ true → (p : ℕ) × (option_or later (cond b (Some first) None) ≡ Some p)
or_here (Some q) b first e = (q, refl)
or_here None b first e = (first, ap (λ c. cond c (Some first) None) e)

-- an item of the list has a last place
pub last_found : (first : ℕ) (items : List Place) (item : Place) (i : ℕ) → slice_get items i ≡ Some item → (p : ℕ) × (last_place first items item ≡ Some p)
last_found first [] item i e = absurd (none-some item e)
last_found first (other ∷ others) item zero e = or_here (last_place (first + 1) others item) (is_place other item) first (is_itself other item (same_Some other item e))
last_found first (other ∷ others) item (suc i) e =
    let r = last_found (first + 1) others item i e in
    (r.0, ap (λ o. option_or o (cond (is_place other item) (Some first) None)) r.1)
