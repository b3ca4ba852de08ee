-- Laws of files in order.
use Rattle.std.proofs.Common.{◌≡◌, ◌⊎◌, inl, inr, sym, ◌∙◌, ap, subst, Bool, true, false, cond, ◌||◌, Option, None, List, ◌∷◌, ◌++◌, ℕ, zero, suc, ◌+◌, ◌<◌, ◌≤◌, Some, refl, arith, length, take, drop, []}
use Rattle.std.specs.Prelude.{slice_get, Contains}
use Rattle.std.specs.List.{flat_map, IsDistinct, AllByRecursion}
use Rattle.std.specs.Str.{bytes_eq}
use Rattle.std.proofs.lemmas.Slice.Eq.{bytes_eq-Decides}
use Rattle.std.proofs.lemmas.Grind.{flat_map-append}
use Rattle.std.proofs.lemmas.List.{take-append-drop}
use Rattle.std.proofs.lemmas.List.Elements.{Contains-append_cases, Contains-append_left, Contains-append_right}
use Rattle.std.proofs.lemmas.Option.{none-some, same_Some, slice_get_within}
use Rattle.meaning_rules.specs.Worlds.Order.{first_texts, firsts_behind, is_among, IsInOrder, IsNamedBefore}
use Rattle.meaning_rules.proofs.Worlds.Places.{append_cases, contains_at, contains_cases, contains_first, contains_later, contains_none, place_of, push_left}
use Rattle.meaning_rules.proofs.Worlds.Firsts.{firsts_more, firsts_from, firsts_keep, firsts_new}

-- a key
abbrev Text : Type 0
Text = List ℕ

-- ---- plain lists

apart : (y : Text) (ys : List Text) (x : Text) → AllByRecursion (λ z. bytes_eq y z ≡ false) ys → (j : ℕ) → slice_get ys j ≡ Some x → y ≡ x → ⊥
apart y [] x a j f s = none-some x f
apart y (z ∷ zs) x a zero f s = let t : true ≡ false = sym ((bytes_eq-Decides y z).1 (s ∙ sym (same_Some z x f))) ∙ a.0 in cc
apart y (z ∷ zs) x a (suc j) f s = apart y zs x a.1 j f s

once : (xs : List Text) → IsDistinct bytes_eq xs → (i j : ℕ) (x : Text) → slice_get xs i ≡ Some x → slice_get xs j ≡ Some x → i ≡ j
unfolding IsDistinct
once [] d i j x e f = absurd (none-some x e)
once (y ∷ ys) d zero zero x e f = refl
once (y ∷ ys) d zero (suc j) x e f = absurd (apart y ys x d.0 j f (same_Some y x e))
once (y ∷ ys) d (suc i) zero x e f = absurd (apart y ys x d.0 i e (same_Some y x f))
once (y ∷ ys) d (suc i) (suc j) x e f = ap suc (once ys d.1 i j x e f)

before_take : {X : Type 0} (xs : List X) (j at : ℕ) (x : X) → at < j → slice_get xs at ≡ Some x → Contains (take j xs) x
before_take [] j at x lt e = absurd (none-some x e)
before_take (y ∷ ys) zero at x lt e = absurd (omega arith)
before_take (y ∷ ys) (suc j) zero x lt e = let s : y ≡ x = same_Some y x e in subst (Contains (y ∷ take j ys)) s (contains_first y (take j ys))
before_take (y ∷ ys) (suc j) (suc at) x lt e = contains_later y (take j ys) x (before_take ys j at x (omega arith) e)

from_take : {X : Type 0} (xs : List X) (j at : ℕ) (x : X) → slice_get (take j xs) at ≡ Some x → (at < j) × (slice_get xs at ≡ Some x)
from_take [] zero at x e = absurd (none-some x e)
from_take [] (suc j) at x e = absurd (none-some x e)
from_take (y ∷ ys) zero at x e = absurd (none-some x e)
from_take (y ∷ ys) (suc j) zero x e = (omega arith, e)
from_take (y ∷ ys) (suc j) (suc at) x e = let r = from_take ys j at x e in let lt = r.0 in (omega arith, r.1)

flat_from : (f : Text → List Text) (xs : List Text) (y : Text) → Contains (flat_map f xs) y → (x : Text) × Contains xs x × Contains (f x) y
flat_from f [] y c = absurd (contains_none [] y refl c)
flat_from f (x ∷ xs) y c = elim (Contains-append_cases (f x) (flat_map f xs) y c) [
  | inl p ↦ (x, contains_first x xs, p)
  | inr q ↦ let r = flat_from f xs y q in (r.0, contains_later x xs r.0 r.1, r.2)
]

flat_contains : (f : Text → List Text) (xs : List Text) (x y : Text) → Contains xs x → Contains (f x) y → Contains (flat_map f xs) y
flat_contains f [] x y c d = absurd (contains_none [] x refl c)
flat_contains f (z ∷ zs) x y c d = elim (contains_cases z zs x c) [
  | inl same ↦ Contains-append_left (f z) (flat_map f zs) y (subst (λ w. Contains (f w) y) (sym same) d)
  | inr later ↦ Contains-append_right (f z) (flat_map f zs) y (flat_contains f zs x y later d)
]

zero_more : (k : ℕ) → 0 + k ≡ k
zero_more k = omega arith

one_more : (n k : ℕ) → suc n + k ≡ suc (n + k)
one_more n k = omega arith

push_right : {X : Type 0} (xs ys : List X) (k : ℕ) (y : X) → slice_get ys k ≡ Some y → slice_get (xs ++ ys) (length xs + k) ≡ Some y
push_right [] ys k y e = ap (λ z. slice_get ys z) (zero_more k) ∙ e
push_right (x ∷ xs) ys k y e = ap (λ z. slice_get (x ∷ (xs ++ ys)) z) (one_more (length xs) k) ∙ push_right xs ys k y e

append_split : {X : Type 0} (xs ys : List X) (k : ℕ) (y : X) → slice_get (xs ++ ys) k ≡ Some y → (slice_get xs k ≡ Some y) ⊎ ((k' : ℕ) × (k ≡ length xs + k') × (slice_get ys k' ≡ Some y))
append_split [] ys k y e = inr (k, sym (zero_more k), e)
append_split (x ∷ xs) ys zero y e = inl e
append_split (x ∷ xs) ys (suc k) y e = elim (append_split xs ys k y e) [
  | inl p ↦ inl p
  | inr p ↦ inr (p.0, ap suc p.1 ∙ sym (one_more (length xs) p.0), p.2)
]

-- ---- what comes first among firsts, comes first

-- a has a place before all places of b
abbrev Before : List Text → Text → Text → Type 0
Before xs a b = IsNamedBefore xs a b

new_at : (earlier ys : List Text) → AllByRecursion (λ y. is_among earlier y ≡ false) ys → (j : ℕ) (b : Text) → slice_get ys j ≡ Some b → is_among earlier b ≡ false
new_at earlier [] h j b e = absurd (none-some b e)
new_at earlier (y ∷ ys) h zero b e = ap (is_among earlier) (sym (same_Some y b e)) ∙ h.0
new_at earlier (y ∷ ys) h (suc j) b e = new_at earlier ys h.1 j b e

or_right : (a : Bool) → (a || true) ≡ true
or_right true = refl
or_right false = refl

among_last : (earlier : List Text) (x : Text) → is_among (earlier ++ x ∷ []) x ≡ true
among_last [] x = ap (λ b. b || false) ((bytes_eq-Decides x x).1 refl)
among_last (y ∷ ys) x = ap (λ b. bytes_eq y x || b) (among_last ys x) ∙ or_right (bytes_eq y x)

later_place : (xs : List Text) (x b : Text) (u : ℕ) → ((v : ℕ) → slice_get xs v ≡ Some b → u < v) → (x ≡ b → ⊥) → (v : ℕ) → slice_get (x ∷ xs) v ≡ Some b → suc u < v
later_place xs x b u h n zero e = absurd (n (same_Some x b e))
later_place xs x b u h n (suc v) e = let lt = h v e in omega arith

later : (xs : List Text) (x a b : Text) → Before xs a b → (x ≡ b → ⊥) → Before (x ∷ xs) a b
later xs x a b p n = (suc p.0, p.1, later_place xs x b p.0 p.2 n)

head_place : (xs : List Text) (x b : Text) → (x ≡ b → ⊥) → (v : ℕ) → slice_get (x ∷ xs) v ≡ Some b → 0 < v
head_place xs x b n zero e = absurd (n (same_Some x b e))
head_place xs x b n (suc v) e = omega arith

abbrev FirstsBefore : List Text → List Text → Text → Text → Type 0
FirstsBefore ys xs a b = (i j : ℕ) → i < j → slice_get ys i ≡ Some a → slice_get ys j ≡ Some b → Before xs a b

not_new : (earlier ys : List Text) (x b : Text) (j : ℕ) → is_among earlier x ≡ true → AllByRecursion (λ y. is_among earlier y ≡ false) ys → slice_get ys j ≡ Some b → x ≡ b → ⊥
not_new earlier ys x b j is new e s = let t : true ≡ false = sym is ∙ ap (is_among earlier) s ∙ new_at earlier ys new j b e in cc

before_if : (earlier xs : List Text) (x a b : Text) (t : Bool) → is_among earlier x ≡ t → FirstsBefore (firsts_behind earlier xs) xs a b → FirstsBefore (firsts_behind (earlier ++ x ∷ []) xs) xs a b
    → FirstsBefore (cond t (firsts_behind earlier xs) (x ∷ firsts_behind (earlier ++ x ∷ []) xs)) (x ∷ xs) a b
before_if earlier xs x a b true is h k i j lt e f = later xs x a b (h i j lt e f) (not_new earlier (firsts_behind earlier xs) x b j is (firsts_new earlier xs).0 f)
before_if earlier xs x a b false is h k i zero lt e f = absurd (omega arith)
before_if earlier xs x a b false is h k zero (suc j) lt e f =
    (0, e, head_place xs x b (not_new (earlier ++ x ∷ []) (firsts_behind (earlier ++ x ∷ []) xs) x b j (among_last earlier x) (firsts_new (earlier ++ x ∷ []) xs).0 f))
before_if earlier xs x a b false is h k (suc i) (suc j) lt e f =
    later xs x a b (k i j (omega arith) e f) (not_new (earlier ++ x ∷ []) (firsts_behind (earlier ++ x ∷ []) xs) x b j (among_last earlier x) (firsts_new (earlier ++ x ∷ []) xs).0 f)

firsts_before : (earlier xs : List Text) (a b : Text) → FirstsBefore (firsts_behind earlier xs) xs a b
firsts_before earlier [] a b i j lt e f = absurd (none-some a e)
firsts_before earlier (x ∷ xs) a b i j lt e f = before_if earlier xs x a b (is_among earlier x) refl (firsts_before earlier xs a b) (firsts_before (earlier ++ x ∷ []) xs a b) i j lt e f

-- ---- by rows

-- a place with a row that has a stands before each with one that has b, or is that, and a before b
abbrev RowsBefore : (Text → List Text) → List Text → Text → Text → ℕ → Text → Type 0
RowsBefore f xs a b p g = (q : ℕ) (h : Text) → slice_get xs q ≡ Some h → Contains (f h) b → (p < q) ⊎ ((p ≡ q) × Before (f g) a b)

near_at : (row : List Text) (a b : Text) → Before row a b → (q : ℕ) → (0 < q) ⊎ ((0 ≡ q) × Before row a b)
near_at row a b p zero = inr (refl, p)
near_at row a b p (suc q) = inl (omega arith)

far_at : (f : Text → List Text) (x : Text) (xs : List Text) (a b : Text) (u : ℕ) → length (f x) ≤ u → ((v : ℕ) → slice_get (f x ++ flat_map f xs) v ≡ Some b → u < v)
    → (p : ℕ) (g : Text) → RowsBefore f xs a b p g → RowsBefore f (x ∷ xs) a b (suc p) g
far_at f x xs a b u le h p g r zero y e c =
    let s : x ≡ y = same_Some x y e in
    let k = place_of (f x) b (subst (λ z. Contains (f z) b) (sym s) c) in
    let lt = h k.0 (push_left (f x) (flat_map f xs) k.0 b k.1) in
    let in_row = slice_get_within (f x) k.0 b k.1 in
    absurd (omega arith)
far_at f x xs a b u le h p g r (suc q) y e c = elim (r q y e c) [
  | inl lt ↦ inl (omega arith)
  | inr s ↦ inr (ap suc s.0, s.1)
]

abbrev HasRow : (Text → List Text) → List Text → Text → Text → Type 0
HasRow f xs a b = (p : ℕ) × (g : Text) × (slice_get xs p ≡ Some g) × Contains (f g) a × RowsBefore f xs a b p g

flat_before : (f : Text → List Text) (xs : List Text) (a b : Text) (u : ℕ) → slice_get (flat_map f xs) u ≡ Some a → ((v : ℕ) → slice_get (flat_map f xs) v ≡ Some b → u < v) → HasRow f xs a b
flat_before f [] a b u e h = absurd (none-some a e)
flat_before f (x ∷ xs) a b u e h = elim (append_split (f x) (flat_map f xs) u a e) [
  | inl near ↦
      let first : Before (f x) a b = (u, near, λ v k. h v (push_left (f x) (flat_map f xs) v b k)) in
      (0, x, refl, contains_at (f x) u a near, λ q y at c. near_at (f x) a b first q)
  | inr far ↦
      let whole = far.1 in
      let r = flat_before f xs a b far.0 far.2 (λ v k. let lt = h (length (f x) + v) (push_right (f x) (flat_map f xs) v b k) in omega arith) in
      (suc r.0, r.1, r.2, r.3, far_at f x xs a b u (omega arith) h r.0 r.1 r.4)
]

listed_at : (own : Text) (xs : List Text) (a b : Text) → (own ≡ a → ⊥) → (u : ℕ) → slice_get (own ∷ xs) u ≡ Some a → ((v : ℕ) → slice_get (own ∷ xs) v ≡ Some b → u < v) → Before xs a b
listed_at own xs a b n zero e h = absurd (n (same_Some own a e))
listed_at own xs a b n (suc u) e h = (u, e, λ v k. let lt = h (suc v) k in omega arith)

-- ---- equal lists, by their places

option_same : {X : Type 0} (a b : Option X) → ((x : X) → a ≡ Some x → b ≡ Some x) → ((x : X) → b ≡ Some x → a ≡ Some x) → a ≡ b
option_same None None f g = refl
option_same None (Some y) f g = g y refl
option_same (Some x) b f g = sym (f x refl)

take_agree : {X : Type 0} (xs ys : List X) (n : ℕ) → ((k : ℕ) → k < n → slice_get xs k ≡ slice_get ys k) → take n xs ≡ take n ys
take_agree [] [] n h = refl
take_agree [] (y ∷ ys) zero h = refl
take_agree [] (y ∷ ys) (suc n) h = absurd (none-some y (h 0 (omega arith)))
take_agree (x ∷ xs) [] zero h = refl
take_agree (x ∷ xs) [] (suc n) h = absurd (none-some x (sym (h 0 (omega arith))))
take_agree (x ∷ xs) (y ∷ ys) zero h = refl
take_agree (x ∷ xs) (y ∷ ys) (suc n) h =
    let s : x ≡ y = same_Some x y (h 0 (omega arith)) in
    ap (λ z. z ∷ take n xs) s ∙ ap (λ zs. y ∷ zs) (take_agree xs ys n (λ k lt. h (suc k) (omega arith)))

pub same_lists : {X : Type 0} (xs ys : List X) → ((k : ℕ) → slice_get xs k ≡ slice_get ys k) → xs ≡ ys
same_lists [] [] h = refl
same_lists [] (y ∷ ys) h = absurd (none-some y (h 0))
same_lists (x ∷ xs) [] h = absurd (none-some x (sym (h 0)))
same_lists (x ∷ xs) (y ∷ ys) h =
    let s : x ≡ y = same_Some x y (h 0) in
    ap (λ z. z ∷ xs) s ∙ ap (λ zs. y ∷ zs) (same_lists xs ys (λ k. h (suc k)))

lt_cases : (k n : ℕ) → k < suc n → (k < n) ⊎ (k ≡ n)
lt_cases zero zero lt = inr refl
lt_cases zero (suc n) lt = inl (omega arith)
lt_cases (suc k) zero lt = absurd (omega arith)
lt_cases (suc k) (suc n) lt = elim (lt_cases k n (omega arith)) [
  | inl p ↦ inl (omega arith)
  | inr p ↦ inr (ap suc p)
]

-- ---- an order

module _ (imports : Text → List Text) (own : Text) (files : List Text) (o : IsInOrder imports own files) where
  distinct : IsDistinct bytes_eq files
  distinct = subst (IsDistinct bytes_eq) (sym o.whole) (firsts_new [] (own ∷ flat_map imports files)).1

  pub stands_once : (i j : ℕ) (x : Text) → slice_get files i ≡ Some x → slice_get files j ≡ Some x → i ≡ j
  stands_once = once files distinct

  -- what the first files import, with the module's own
  abbrev listed : ℕ → List Text
  listed count = own ∷ flat_map imports (take count files)

  begins : (count : ℕ) → files ≡ first_texts (listed count) ++ firsts_behind (first_texts (listed count)) (flat_map imports (drop count files))
  begins count =
      o.whole ∙ ap (λ xs. first_texts (own ∷ xs)) (sym (ap (flat_map imports) (take-append-drop count files)) ∙ flat_map-append imports (take count files) (drop count files))
      ∙ firsts_more [] (listed count) (flat_map imports (drop count files))

  -- what a file imports that stands before a place is among the firsts of what is listed there, at its own place
  listed_first : (count j : ℕ) (x : Text) → Contains (listed count) x → slice_get files j ≡ Some x → slice_get (first_texts (listed count)) j ≡ Some x
  listed_first count j x there e = elim (firsts_keep [] (listed count) x there) [
    | inl never ↦ absurd (let t : false ≡ true = never in cc)
    | inr kept ↦
        let front = first_texts (listed count) in
        let k = place_of front x kept in
        let same : k.0 ≡ j = stands_once k.0 j x (subst (λ fs. slice_get fs k.0 ≡ Some x) (sym (begins count)) (push_left front (firsts_behind front (flat_map imports (drop count files))) k.0 x k.1)) e in
        subst (λ z. slice_get front z ≡ Some x) same k.1
  ]

  is_listed : (p count : ℕ) (g x : Text) → p < count → slice_get files p ≡ Some g → Contains (imports g) x → Contains (listed count) x
  is_listed p count g x lt at c = contains_later own (flat_map imports (take count files)) x (flat_contains imports (take count files) g x (before_take files count p g lt at) c)

  -- one file after the other, as an order with the same files before it goes on
  goes_on : (n : ℕ) (x : Text) → slice_get files n ≡ Some x → slice_get (first_texts (listed n)) n ≡ Some x
  goes_on zero x e = listed_first zero zero x (let s : own ≡ x = same_Some own x (sym o.first ∙ e) in subst (Contains (listed zero)) s (contains_first own (flat_map imports (take zero files)))) e
  goes_on (suc n) x e = let l = o.led n x e in listed_first (suc n) (suc n) x (is_listed l.at (suc n) l.importer x l.earlier l.found l.imported) e

  -- what stands before a file that the file at a place imports is imported no later
  pub led_within : (p j i : ℕ) (f g x : Text) → slice_get files p ≡ Some g → Contains (imports g) f → slice_get files j ≡ Some f → i ≤ j → slice_get files i ≡ Some x
      → (own ≡ x) ⊎ ((q : ℕ) × (y : Text) × (q ≤ p) × (slice_get files q ≡ Some y) × Contains (imports y) x)
  led_within p j i f g x at c e le is =
      let count = suc p in
      let front = first_texts (listed count) in
      let here = listed_first count j f (is_listed p count g f (omega arith) at c) e in
      let within : j < length front = slice_get_within front j f here in
      elim (append_cases front (firsts_behind front (flat_map imports (drop count files))) i x (subst (λ fs. slice_get fs i ≡ Some x) (begins count) is)) [
        | inr far ↦ let ge = far.0 in absurd (omega arith)
        | inl near ↦ elim (contains_cases own (flat_map imports (take count files)) x (firsts_from [] (listed count) x (contains_at front i x near))) [
          | inl s ↦ inl s
          | inr d ↦
              let y = flat_from imports (take count files) x d in
              let q = place_of (take count files) y.0 y.1 in
              let r = from_take files count q.0 y.0 q.1 in
              let lt = r.0 in
              inr (q.0, y.0, omega arith, r.1, y.2)
        ]
      ]

  -- an imported file is there
  pub is_there : (between file : Text) → Contains files between → Contains (imports between) file → Contains files file
  is_there between file there c =
      let all : Contains (own ∷ flat_map imports files) file = contains_later own (flat_map imports files) file (flat_contains imports files between file there c) in
      elim (firsts_keep [] (own ∷ flat_map imports files) file all) [
        | inl p ↦ absurd (let f : false ≡ true = p in cc)
        | inr k ↦ subst (λ fs. Contains fs file) (sym o.whole) k
      ]

  -- of two files after the own one the first is imported first
  pub by_rows : (i j : ℕ) (a b : Text) → 0 < i → i < j → slice_get files i ≡ Some a → slice_get files j ≡ Some b → HasRow imports files a b
  by_rows i j a b some lt e f =
      let all = own ∷ flat_map imports files in
      let p = firsts_before [] all a b i j lt (subst (λ fs. slice_get fs i ≡ Some a) o.whole e) (subst (λ fs. slice_get fs j ≡ Some b) o.whole f) in
      let behind : (own ≡ a) → ⊥ = λ s. let zero_is : 0 ≡ i = stands_once 0 i a (subst (λ z. slice_get files 0 ≡ Some z) s o.first) e in omega arith in
      let r = listed_at own (flat_map imports files) a b behind p.0 p.1 p.2 in
      flat_before imports files a b r.0 r.1 r.2

next_same : (imports : Text → List Text) (own : Text) (files others : List Text) → IsInOrder imports own files → IsInOrder imports own others → (n : ℕ) → take n files ≡ take n others
    → (x : Text) → slice_get files n ≡ Some x → slice_get others n ≡ Some x
next_same imports own files others o o' n same x e =
    let front : ℕ → List Text → List Text = λ m fs. first_texts (own ∷ flat_map imports (take m fs)) in
    let here : slice_get (first_texts (own ∷ flat_map imports (take n others))) n ≡ Some x = subst (λ fs. slice_get (first_texts (own ∷ flat_map imports fs)) n ≡ Some x) same (goes_on imports own files o n x e) in
    subst (λ fs. slice_get fs n ≡ Some x) (sym (begins imports own others o' n))
    (push_left (first_texts (own ∷ flat_map imports (take n others))) (firsts_behind (first_texts (own ∷ flat_map imports (take n others))) (flat_map imports (drop n others))) n x here)

module _ (imports : Text → List Text) (own : Text) (files others : List Text) (o : IsInOrder imports own files) (o' : IsInOrder imports own others) where
  at_one : (n : ℕ) → ((k : ℕ) → k < n → slice_get files k ≡ slice_get others k) → slice_get files n ≡ slice_get others n
  at_one n h =
      let same : take n files ≡ take n others = take_agree files others n h in
      option_same (slice_get files n) (slice_get others n) (next_same imports own files others o o' n same) (next_same imports own others files o' o n (sym same))

  agree : (n k : ℕ) → k < n → slice_get files k ≡ slice_get others k
  agree zero k lt = absurd (omega arith)
  agree (suc n) k lt = elim (lt_cases k n lt) [
    | inl p ↦ agree n k p
    | inr p ↦ subst (λ z. slice_get files z ≡ slice_get others z) (sym p) (at_one n (agree n))
  ]

  pub orders_are_unique : files ≡ others
  orders_are_unique = same_lists files others (λ k. agree (suc k) k (omega arith))
