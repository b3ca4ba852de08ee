-- Elements of lists that are made of others.
use Rattle.std.proofs.Common.{◌≡◌, ◌⊎◌, inl, inr, refl, sym, ◌∙◌, ap, subst, true, false, List, [], ◌∷◌, ◌++◌, map, Option, Some, None, ℕ, zero, suc, length, get_or, take, ◌+◌, ◌<◌, Bool, append-nil}
use Rattle.std.specs.Prelude.{slice_get, Contains, ◌||◌}
use Rattle.std.specs.List.{cons_option, filter_map, flat_map, list_any}
use Rattle.std.proofs.lemmas.List.{take_more}
use Rattle.std.proofs.lemmas.List.Elements.{Contains-append_left, Contains-append_right, Contains-append_cases, filter_map-append}
use Rattle.std.proofs.lemmas.Option.{get_or_from_slice_get, none-some, same_Some, slice_get-get_or, slice_get_within}

pub contains_at : {X : Type 0} (xs : List X) (k : ℕ) (x : X) → slice_get xs k ≡ Some x → Contains xs x
contains_at xs k x e = (k, slice_get_within xs k x e, get_or_from_slice_get xs k x x e)

pub place_of : {X : Type 0} (xs : List X) (x : X) → Contains xs x → (k : ℕ) × (slice_get xs k ≡ Some x)
place_of xs x h = (h.0, slice_get-get_or xs h.0 x h.1 ∙ ap (λ y. Some y) h.2)

first_or_later : {X : Type 0} (x : X) (xs : List X) (y : X) (k : ℕ) → slice_get (x ∷ xs) k ≡ Some y → (x ≡ y) ⊎ Contains xs y
first_or_later x xs y zero e = inl (same_Some x y e)
first_or_later x xs y (suc k) e = inr (contains_at xs k y e)

pub contains_cases : {X : Type 0} (x : X) (xs : List X) (y : X) → Contains (x ∷ xs) y → (x ≡ y) ⊎ Contains xs y
contains_cases x xs y h = let p = place_of (x ∷ xs) y h in first_or_later x xs y p.0 p.1

pub contains_first : {X : Type 0} (x : X) (xs : List X) → Contains (x ∷ xs) x
contains_first x xs = contains_at (x ∷ xs) 0 x refl

pub contains_later : {X : Type 0} (x : X) (xs : List X) (y : X) → Contains xs y → Contains (x ∷ xs) y
contains_later x xs y h = let p = place_of xs y h in contains_at (x ∷ xs) (suc p.0) y p.1

pub contains_none : {X : Type 0} (x : X) → Contains [] x → ⊥
contains_none x h = let p = place_of [] x h in none-some x p.1

-- ---- lists of what is at each element

pub map_at : {X Y : Type 0} (f : X → Y) (xs : List X) (k : ℕ) (x : X) → slice_get xs k ≡ Some x → slice_get (map f xs) k ≡ Some (f x)
map_at f [] k x e = absurd (none-some x e)
map_at f (z ∷ xs) zero x e = ap (λ v. Some (f v)) (same_Some z x e)
map_at f (z ∷ xs) (suc k) x e = map_at f xs k x e

pub mapped_at : {X Y : Type 0} (f : X → Y) (xs : List X) (k : ℕ) (y : Y) → slice_get (map f xs) k ≡ Some y → (x : X) × (slice_get xs k ≡ Some x) × (f x ≡ y)
mapped_at f [] k y e = absurd (none-some y e)
mapped_at f (z ∷ xs) zero y e = (z, refl, same_Some (f z) y e)
mapped_at f (z ∷ xs) (suc k) y e = mapped_at f xs k y e

module _ {X Y : Type 0} (f : X → List Y) where
  pub contains_flat : (xs : List X) (x : X) (y : Y) → Contains xs x → Contains (f x) y → Contains (flat_map f xs) y
  contains_flat [] x y c d = absurd (contains_none x c)
  contains_flat (z ∷ xs) x y c d = elim (contains_cases z xs x c) [
    | inl same ↦ Contains-append_left (f z) (flat_map f xs) y (subst (λ v. Contains (f v) y) (sym same) d)
    | inr later ↦ Contains-append_right (f z) (flat_map f xs) y (contains_flat xs x y later d)
  ]

  pub contained_flat : (xs : List X) (y : Y) → Contains (flat_map f xs) y → (x : X) × Contains xs x × Contains (f x) y
  contained_flat [] y c = absurd (contains_none y c)
  contained_flat (z ∷ xs) y c = elim (Contains-append_cases (f z) (flat_map f xs) y c) [
    | inl d ↦ (z, contains_first z xs, d)
    | inr d ↦ let r = contained_flat xs y d in (r.0, contains_later z xs r.0 r.1, r.2)
  ]

module _ {X Y : Type 0} (h : X → Option Y) where
  put_first : (o : Option Y) (y : Y) (ys : List Y) → o ≡ Some y → Contains (cons_option o ys) y
  put_first None y ys e = absurd (none-some y e)
  put_first (Some z) y ys e = subst (Contains (z ∷ ys)) (same_Some z y e) (contains_first z ys)

  put_before : (o : Option Y) (y : Y) (ys : List Y) → Contains ys y → Contains (cons_option o ys) y
  put_before None y ys c = c
  put_before (Some z) y ys c = contains_later z ys y c

  put_cases : (o : Option Y) (y : Y) (ys : List Y) → Contains (cons_option o ys) y → (o ≡ Some y) ⊎ Contains ys y
  put_cases None y ys c = inr c
  put_cases (Some z) y ys c = elim (contains_cases z ys y c) [
    | inl e ↦ inl (ap (λ v. Some v) e)
    | inr d ↦ inr d
  ]

  pub given_there : (xs : List X) (x : X) (y : Y) → Contains xs x → h x ≡ Some y → Contains (filter_map h xs) y
  given_there [] x y c e = absurd (contains_none x c)
  given_there (z ∷ zs) x y c e = elim (contains_cases z zs x c) [
    | inl is ↦ put_first (h z) y (filter_map h zs) (ap h is ∙ e)
    | inr d ↦ put_before (h z) y (filter_map h zs) (given_there zs x y d e)
  ]

  pub given_back : (xs : List X) (y : Y) → Contains (filter_map h xs) y → (x : X) × Contains xs x × (h x ≡ Some y)
  given_back [] y c = absurd (contains_none y c)
  given_back (x ∷ xs) y c = elim (put_cases (h x) y (filter_map h xs) c) [
    | inl e ↦ (x, contains_first x xs, e)
    | inr d ↦ let r = given_back xs y d in (r.0, contains_later x xs r.0 r.1, r.2)
  ]

  next : (xs : List X) (i : ℕ) (x : X) → i < length xs → x ≡ get_or xs i x → filter_map h (take (i + 1) xs) ≡ filter_map h (take i xs) ++ cons_option (h x) []
  next xs i x lt is = ap (filter_map h) (take_more xs i x lt ∙ ap (λ y. take i xs ++ y ∷ []) (sym is)) ∙ filter_map-append h (take i xs) (x ∷ [])

  -- one element more, which gives something or nothing
  pub given_more : (xs : List X) (i : ℕ) (x : X) (y : Y) (done : List Y) → i < length xs → x ≡ get_or xs i x → h x ≡ Some y → done ≡ filter_map h (take i xs) → done ++ y ∷ [] ≡ filter_map h (take (i + 1) xs)
  given_more xs i x y done lt is found so = ap (λ zs. zs ++ y ∷ []) so ∙ ap (λ o. filter_map h (take i xs) ++ cons_option o []) (sym found) ∙ sym (next xs i x lt is)

  pub given_none : (xs : List X) (i : ℕ) (x : X) (done : List Y) → i < length xs → x ≡ get_or xs i x → h x ≡ None → done ≡ filter_map h (take i xs) → done ≡ filter_map h (take (i + 1) xs)
  given_none xs i x done lt is none so = so ∙ sym (append-nil (filter_map h (take i xs))) ∙ ap (λ o. filter_map h (take i xs) ++ cons_option o []) (sym none) ∙ sym (next xs i x lt is)

-- ---- tests

by_or : (a b : Bool) → (a || b) ≡ true → (a ≡ true) ⊎ (b ≡ true)
by_or true b e = inl refl
by_or false b e = inr e

or_left : (a b : Bool) → a ≡ true → (a || b) ≡ true
or_left true b e = refl
or_left false b e = absurd (cc e)

or_right : (a b : Bool) → b ≡ true → (a || b) ≡ true
or_right true b e = refl
or_right false b e = e

module _ {X : Type 0} (test : X → Bool) where
  pub any_found : (xs : List X) → list_any test xs ≡ true → (x : X) × Contains xs x × (test x ≡ true)
  any_found [] e = absurd (cc e)
  any_found (x ∷ xs) e = elim (by_or (test x) (list_any test xs) e) [
    | inl here ↦ (x, contains_first x xs, here)
    | inr later ↦ let r = any_found xs later in (r.0, contains_later x xs r.0 r.1, r.2)
  ]

  pub any_there : (xs : List X) (x : X) → Contains xs x → test x ≡ true → list_any test xs ≡ true
  any_there [] x c e = absurd (contains_none x c)
  any_there (z ∷ xs) x c e = elim (contains_cases z xs x c) [
    | inl same ↦ or_left (test z) (list_any test xs) (ap test same ∙ e)
    | inr later ↦ or_right (test z) (list_any test xs) (any_there xs x later e)
  ]
