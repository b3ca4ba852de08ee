-- Elements of parts of lists by their places.
use Rattle.std.proofs.Common.{◌≡◌, ◌≢◌, ◌⊎◌, inl, inr, sym, ◌∙◌, ap, subst, Bool, true, false, cond, ◌||◌, List, [], ◌∷◌, ℕ, zero, suc, ◌+◌, ◌<◌, ◌≤◌, Option, Some, None, refl, arith, drop, take, length, map, is_some, true≢false, unwrap_or}
use Rattle.std.specs.Prelude.{Contains, slice_get}
use Rattle.std.specs.List.{AllByRecursion, cons_option, filter, filter_map, list_any}
use Rattle.std.specs.List.Sorted.{IsStrictlySortedBy}
use Rattle.std.specs.declared.cmp.Ordering.{Ordering}
use Rattle.std.specs.declared.cmp.Ordering.TheVariants.{Less}
use Rattle.std.proofs.lemmas.Option.{none-some, same_Some}
use Rattle.modules_definitions.specs.Keeping.{IsPart, none, keeps, leaves}
use Rattle.modules_definitions.proofs.Elements.{AnyTwo, before_take, contains_at, place_of}

any_or : (a b c : Bool) → b ≡ c → (a || b) ≡ (a || c)
any_or a b c e = ap (λ x. a || x) e

pub any_of_map : {X Y : Type 0} (p : Y → Bool) (f : X → Y) (xs : List X) → list_any p (map f xs) ≡ list_any (λ x. p (f x)) xs
any_of_map p f [] = refl
any_of_map p f (x ∷ xs) = any_or (p (f x)) (list_any p (map f xs)) (list_any (λ y. p (f y)) xs) (any_of_map p f xs)

-- ---- mapped lists

pub map_place : {X Y : Type 0} (f : X → Y) (xs : List X) (k : ℕ) (x : X) → slice_get xs k ≡ Some x → slice_get (map f xs) k ≡ Some (f x)
map_place f [] k x e = absurd (none-some x e)
map_place f (y ∷ ys) zero x e = ap (λ z. Some (f z)) (same_Some y x e)
map_place f (y ∷ ys) (suc k) x e = map_place f ys k x e

pub map_back : {X Y : Type 0} (f : X → Y) (xs : List X) (k : ℕ) (y : Y) → slice_get (map f xs) k ≡ Some y → (x : X) × (slice_get xs k ≡ Some x) × (f x ≡ y)
map_back f [] k y e = absurd (none-some y e)
map_back f (x ∷ xs) zero y e = (x, refl, same_Some (f x) y e)
map_back f (x ∷ xs) (suc k) y e = map_back f xs k y e

pub map_contains : {X Y : Type 0} (f : X → Y) (xs : List X) (x : X) → Contains xs x → Contains (map f xs) (f x)
map_contains f xs x c = let p = place_of xs x c in contains_at (map f xs) p.0 (f x) (map_place f xs p.0 x p.1)

pub contains_back : {X Y : Type 0} (f : X → Y) (xs : List X) (y : Y) → Contains (map f xs) y → (x : X) × Contains xs x × (f x ≡ y)
contains_back f xs y c =
    let p = place_of (map f xs) y c in
    let q = map_back f xs p.0 y p.1 in
    (q.0, contains_at xs p.0 q.0 q.1, q.2)

pub map_length : {X Y : Type 0} (f : X → Y) (xs : List X) → length (map f xs) ≡ length xs
map_length f [] = refl
map_length f (x ∷ xs) = ap suc (map_length f xs)

pub map_map : {X Y Z : Type 0} (g : Y → Z) (f : X → Y) (xs : List X) → map g (map f xs) ≡ map (λ x. g (f x)) xs
map_map g f [] = refl
map_map g f (x ∷ xs) = ap (λ ys. g (f x) ∷ ys) (map_map g f xs)

-- two functions that agree on what a list contains
pub map_alike : {X Y : Type 0} (f g : X → Y) (xs : List X) → ((x : X) → Contains xs x → f x ≡ g x) → map f xs ≡ map g xs
map_alike f g [] same = refl
map_alike f g (x ∷ xs) same = ap (λ y. y ∷ map f xs) (same x (contains_at (x ∷ xs) 0 x refl)) ∙ ap (λ ys. g x ∷ ys) (map_alike f g xs (λ y c. let p = place_of xs y c in same y (contains_at (x ∷ xs) (suc p.0) y p.1)))

-- ---- a range of a list

drop_place : {X : Type 0} (a : ℕ) (xs : List X) (p q : ℕ) → a + p ≡ q → slice_get (drop a xs) p ≡ slice_get xs q
drop_place zero xs p q e = ap (slice_get xs) (let s : p ≡ q = omega (arith, e) in s)
drop_place (suc a) [] p q e = refl
drop_place (suc a) (x ∷ xs) p zero e = absurd (omega (arith, e))
drop_place (suc a) (x ∷ xs) p (suc q) e = drop_place a xs p q (omega (arith, e))

take_place : {X : Type 0} (j : ℕ) (xs : List X) (k : ℕ) (x : X) → k < j → slice_get xs k ≡ Some x → slice_get (take j xs) k ≡ Some x
take_place zero xs k x lt e = absurd (omega (arith, lt))
take_place (suc j) [] k x lt e = absurd (none-some x e)
take_place (suc j) (y ∷ ys) zero x lt e = e
take_place (suc j) (y ∷ ys) (suc k) x lt e = take_place j ys k x (omega (arith, lt)) e

-- an element of the range stands there
pub range_place : {X : Type 0} (a b : ℕ) (xs : List X) (p q : ℕ) (x : X) → a + p ≡ q → q < b → slice_get xs q ≡ Some x → slice_get (drop a (take b xs)) p ≡ Some x
range_place a b xs p q x e lt f = drop_place a (take b xs) p q e ∙ take_place b xs q x lt f

pub range_back : {X : Type 0} (a b : ℕ) (xs : List X) (p q : ℕ) (x : X) → a + p ≡ q → slice_get (drop a (take b xs)) p ≡ Some x → (q < b) × (slice_get xs q ≡ Some x)
range_back a b xs p q x e f = before_take xs b q x (sym (drop_place a (take b xs) p q e) ∙ f)

-- ---- what passes a test, by its rank

module _ {X : Type 0} (test : X → Bool) where
  abbrev pub rank_of : ℕ → List X → ℕ
  rank_of i xs = length (filter test (take i xs))

  skip : (b : Bool) (y : X) (fs ts : List X) (x : X) → slice_get fs (length ts) ≡ Some x → slice_get (cond b (y ∷ fs) fs) (length (cond b (y ∷ ts) ts)) ≡ Some x
  skip true y fs ts x e = e
  skip false y fs ts x e = e

  pub to_rank : (xs : List X) (i : ℕ) (x : X) → slice_get xs i ≡ Some x → test x ≡ true → slice_get (filter test xs) (rank_of i xs) ≡ Some x
  to_rank [] i x e is = absurd (none-some x e)
  to_rank (y ∷ ys) zero x e is = ap (λ b. slice_get (cond b (y ∷ filter test ys) (filter test ys)) 0) (ap test (same_Some y x e) ∙ is) ∙ e
  to_rank (y ∷ ys) (suc i) x e is = skip (test y) y (filter test ys) (filter test (take i ys)) x (to_rank ys i x e is)

  -- the element of the list that has this rank
  abbrev pub IsOfRank : List X → ℕ → X → Type 0
  IsOfRank xs r x = (i : ℕ) × (slice_get xs i ≡ Some x) × (test x ≡ true) × (rank_of i xs ≡ r)

  by_first : (b : Bool) (y : X) (ys : List X) (r : ℕ) (x : X) → test y ≡ b → ((q : ℕ) → slice_get (filter test ys) q ≡ Some x → IsOfRank ys q x) → slice_get (cond b (y ∷ filter test ys) (filter test ys)) r ≡ Some x → IsOfRank (y ∷ ys) r x
  by_first true y ys zero x is rest e = (0, e, ap test (sym (same_Some y x e)) ∙ is, refl)
  by_first true y ys (suc r) x is rest e =
      let p = rest r e in
      (suc p.0, p.1, p.2, ap (λ b. length (cond b (y ∷ filter test (take p.0 ys)) (filter test (take p.0 ys)))) is ∙ ap suc p.3)
  by_first false y ys r x is rest e =
      let p = rest r e in
      (suc p.0, p.1, p.2, ap (λ b. length (cond b (y ∷ filter test (take p.0 ys)) (filter test (take p.0 ys)))) is ∙ p.3)

  pub from_rank : (xs : List X) (r : ℕ) (x : X) → slice_get (filter test xs) r ≡ Some x → IsOfRank xs r x
  from_rank [] r x e = absurd (none-some x e)
  from_rank (y ∷ ys) r x e = by_first (test y) y ys r x refl (λ q. from_rank ys q x) e

  both_more : (b : Bool) (y : X) (ts us : List X) → length ts < length us → length (cond b (y ∷ ts) ts) < length (cond b (y ∷ us) us)
  both_more true y ts us lt = omega (arith, lt)
  both_more false y ts us lt = lt

  one_more : (b : Bool) (y : X) (us : List X) → b ≡ true → 0 < length (cond b (y ∷ us) us)
  one_more true y us is = omega arith
  one_more false y us is = absurd (cc is)

  -- what passes has a lower rank than what stands behind it
  pub rank_less : (xs : List X) (i j : ℕ) (x : X) → i < j → slice_get xs i ≡ Some x → test x ≡ true → rank_of i xs < rank_of j xs
  rank_less [] i j x lt e is = absurd (none-some x e)
  rank_less (y ∷ ys) i zero x lt e is = absurd (omega (arith, lt))
  rank_less (y ∷ ys) zero (suc j) x lt e is = one_more (test y) y (filter test (take j ys)) (ap test (same_Some y x e) ∙ is)
  rank_less (y ∷ ys) (suc i) (suc j) x lt e is = both_more (test y) y (filter test (take i ys)) (filter test (take j ys)) (rank_less ys i j x (omega (arith, lt)) e is)

  part_if : (b : Bool) (y : X) (fs ys : List X) → IsPart fs ys → IsPart (cond b (y ∷ fs) fs) (y ∷ ys)
  part_if true y fs ys p = keeps p
  part_if false y fs ys p = leaves p

  pub filter_part : (xs : List X) → IsPart (filter test xs) xs
  filter_part [] = none
  filter_part (y ∷ ys) = part_if (test y) y (filter test ys) ys (filter_part ys)

  pub filter_contains : (xs : List X) (x : X) → Contains xs x → test x ≡ true → Contains (filter test xs) x
  filter_contains xs x c is = let p = place_of xs x c in contains_at (filter test xs) (rank_of p.0 xs) x (to_rank xs p.0 x p.1 is)

  pub filter_back : (xs : List X) (x : X) → Contains (filter test xs) x → Contains xs x × (test x ≡ true)
  filter_back xs x c =
      let p = place_of (filter test xs) x c in
      let q = from_rank xs p.0 x p.1 in
      (contains_at xs q.0 x q.1, q.2)

  -- ---- the last that passes

  -- no element from the place on passes
  abbrev NoneFrom : List X → ℕ → Type 0
  NoneFrom xs i = (j : ℕ) (y : X) → i ≤ j → slice_get xs j ≡ Some y → test y ≡ true → ⊥

  pub record IsLast (xs : List X) (i : ℕ) (x : X) : Type 0 where
    pub found : slice_get xs i ≡ Some x
    pub passes : test x ≡ true
    pub last : (j : ℕ) (y : X) → slice_get xs j ≡ Some y → test y ≡ true → j ≤ i

  abbrev LastOrNone : List X → Type 0
  LastOrNone xs = ((i : ℕ) × (x : X) × IsLast xs i x) ⊎ NoneFrom xs 0

  last_first : (b : Bool) (x : X) (xs : List X) → test x ≡ b → NoneFrom xs 0 → LastOrNone (x ∷ xs)
  last_first true x xs is all = inl (0, x, record { found = refl; passes = is; last = only })
    where
      only : (j : ℕ) (y : X) → slice_get (x ∷ xs) j ≡ Some y → test y ≡ true → j ≤ 0
      only zero y e f = omega arith
      only (suc j) y e f = absurd (all j y (omega arith) e f)
  last_first false x xs is all = inr no_one
    where
      no_one : (j : ℕ) (y : X) → 0 ≤ j → slice_get (x ∷ xs) j ≡ Some y → test y ≡ true → ⊥
      no_one zero y le e f = true≢false (sym f ∙ sym (ap test (same_Some x y e)) ∙ is)
      no_one (suc j) y le e f = all j y (omega arith) e f

  last_or_none : (xs : List X) → LastOrNone xs
  last_or_none [] = inr (λ j y le e f. none-some y e)
  last_or_none (x ∷ xs) = elim (last_or_none xs) [
    | inl p ↦ inl (suc p.0, p.1, record { found = p.2.found; passes = p.2.passes; last = behind p.0 p.1 p.2 })
    | inr all ↦ last_first (test x) x xs refl all
  ]
    where
      behind : (i : ℕ) (z : X) → IsLast xs i z → (j : ℕ) (y : X) → slice_get (x ∷ xs) j ≡ Some y → test y ≡ true → j ≤ suc i
      behind i z l zero y e f = omega arith
      behind i z l (suc j) y e f = let le = l.last j y e f in omega (arith, le)

  -- where one passes, there is a last one
  pub last_of : (xs : List X) (x : X) → Contains xs x → test x ≡ true → (i : ℕ) × (y : X) × IsLast xs i y
  last_of xs x c is = elim (last_or_none xs) [
    | inl p ↦ p
    | inr all ↦ let p = place_of xs x c in absurd (all p.0 x (omega arith) p.1 is)
  ]

-- ---- any two

part_place : {X : Type 0} (xs ys : List X) → IsPart xs ys → (k : ℕ) (x : X) → slice_get xs k ≡ Some x → (m : ℕ) × (slice_get ys m ≡ Some x)
part_place xs ys none k x e = absurd (none-some x e)
part_place xs ys (keeps p) zero x e = (0, e)
part_place xs ys (keeps {xs = us} {ys = vs} p) (suc k) x e = let r = part_place us vs p k x e in (suc r.0, r.1)
part_place xs ys (leaves {ys = vs} p) k x e = let r = part_place xs vs p k x e in (suc r.0, r.1)

pub part_contains : {X : Type 0} (xs ys : List X) → IsPart xs ys → (x : X) → Contains xs x → Contains ys x
part_contains xs ys p x c =
    let q = place_of xs x c in
    let r = part_place xs ys p q.0 x q.1 in
    contains_at ys r.0 x r.1

pub part_two : {X : Type 0} (R : X → X → Type 0) (xs ys : List X) → IsPart xs ys → AnyTwo R ys → AnyTwo R xs
part_two R xs ys none two i j a b lt e f = absurd (none-some a e)
part_two R xs ys (keeps p) two i zero a b lt e f = absurd (omega (arith, lt))
part_two R xs ys (keeps {xs = us} {ys = vs} p) two zero (suc j) a b lt e f =
    let r = part_place us vs p j b f in
    two 0 (suc r.0) a b (omega arith) e r.1
part_two R xs ys (keeps {xs = us} {ys = vs} p) two (suc i) (suc j) a b lt e f = part_two R us vs p (λ k l c d less g h. two (suc k) (suc l) c d (omega (arith, less)) g h) i j a b (omega (arith, lt)) e f
part_two R xs ys (leaves {ys = vs} p) two i j a b lt e f = part_two R xs vs p (λ k l c d less g h. two (suc k) (suc l) c d (omega (arith, less)) g h) i j a b lt e f

all_there : {X : Type 0} (P : X → Type 0) (xs : List X) → ((j : ℕ) (x : X) → slice_get xs j ≡ Some x → P x) → AllByRecursion P xs
all_there P [] all = tt
all_there P (x ∷ xs) all = (all 0 x refl, all_there P xs (λ j. all (suc j)))

pub sorted_of_two : {X : Type 0} (cmp : X → X → Ordering) (xs : List X) → AnyTwo (λ a b. cmp a b ≡ Less) xs → IsStrictlySortedBy cmp xs
unfolding IsStrictlySortedBy
sorted_of_two cmp [] two = tt
sorted_of_two cmp (x ∷ xs) two = (all_there (λ y. cmp x y ≡ Less) xs (λ j y e. two 0 (suc j) x y (omega arith) refl e), sorted_of_two cmp xs (λ i j a b lt e f. two (suc i) (suc j) a b (omega (arith, lt)) e f))

pub map_two : {X Y : Type 0} (R : Y → Y → Type 0) (f : X → Y) (xs : List X) → AnyTwo (λ a b. R (f a) (f b)) xs → AnyTwo R (map f xs)
map_two R f xs two i j a b lt e g =
    let p = map_back f xs i a e in
    let q = map_back f xs j b g in
    subst (λ z. R z b) p.2 (subst (R (f p.0)) q.2 (two i j p.0 q.0 lt p.1 q.1))

-- ---- what a function gives of elements

given_if : {X : Type 0} (h : X → Option ℕ) (x : X) (xs : List X) (o : Option ℕ) (fs : List ℕ) → h x ≡ o → fs ≡ map (λ y. unwrap_or (h y) 0) (filter (λ y. is_some (h y)) xs)
    → cons_option o fs ≡ map (λ y. unwrap_or (h y) 0) (cond (is_some o) (x ∷ filter (λ y. is_some (h y)) xs) (filter (λ y. is_some (h y)) xs))
given_if h x xs None fs is e = e
given_if h x xs (Some n) fs is e = ap (λ ns. n ∷ ns) e ∙ ap (λ o. unwrap_or o 0 ∷ map (λ y. unwrap_or (h y) 0) (filter (λ y. is_some (h y)) xs)) (sym is)

-- the numbers that it gives are those of the elements for which it gives one
pub given_numbers : {X : Type 0} (h : X → Option ℕ) (xs : List X) → filter_map h xs ≡ map (λ x. unwrap_or (h x) 0) (filter (λ x. is_some (h x)) xs)
given_numbers h [] = refl
given_numbers h (x ∷ xs) = given_if h x xs (h x) (filter_map h xs) refl (given_numbers h xs)
