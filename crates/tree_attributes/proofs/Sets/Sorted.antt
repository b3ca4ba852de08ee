-- The one list that is in order and has the ties of another as they stand there is that other, sorted.
use Rattle.std.proofs.Common.{◌≡◌, ℕ, zero, suc, ◌+◌, ◌<◌, Bool, true, false, cond, not, ◌&&◌, List, [], ◌∷◌, map, length, get_or, refl, sym, ap, ap₂, ◌∙◌, subst, inl, inr, true≢false, arith}
use Rattle.std.specs.Cmp.{IsStrictWeakOrder}
use Rattle.std.specs.Ordering.{on}
use Rattle.std.specs.List.{filter, AllByRecursion}
use Rattle.std.specs.List.Sorted.{IsSortedBy, IsPermutation, ties, IsStableBy}
use Rattle.std.proofs.lemmas.Bool.{cases_Bool, cond_both}
use Rattle.std.proofs.lemmas.List.Sorted.{sorted_far, IsPermutation-refl, IsPermutation-trans, IsPermutation-sym, IsPermutation-middle, IsPermutation-cons}
use Rattle.tree_attributes.specs.Sets.Order.{put, sorted}

untied : (p q : Bool) → (not p && not q) ≡ true → (p ≡ false) × (q ≡ false)
untied false false both = (refl, refl)
untied false true both = absurd (true≢false (sym both))
untied true q both = absurd (true≢false (sym both))

tied : (p q : Bool) → p ≡ true → (not p && not q) ≡ false
tied p q is = rw is refl

-- what ties with the lesser of two doesn't tie with the other
ties_with_one : {X : Type 0} (lt : X → X → Bool) → IsStrictWeakOrder lt → (x a b : X) → lt b a ≡ true → ties lt x b ≡ true → ties lt x a ≡ false
ties_with_one lt o x a b less tie =
    let neither = untied (lt x b) (lt b x) tie in
    elim (cases_Bool (lt x a)) [ inl is ↦ tied (lt x a) (lt a x) is | inr is ↦ absurd (true≢false (sym less ∙ o.chain b x a neither.1 is)) ]

filter_step : {X : Type 0} (f : X → Bool) (a b : X) (zs rest : List X) (p : Bool) → (p ≡ true → f b ≡ true → f a ≡ false) → filter f rest ≡ filter f (a ∷ zs)
    → filter f (cond p (b ∷ rest) (a ∷ b ∷ zs)) ≡ filter f (a ∷ b ∷ zs)
filter_step f a b zs rest false apart more = refl
filter_step f a b zs rest true apart more =
    elim (cases_Bool (f b)) [ inl is ↦ let n = apart refl is in rw (more, is, n) refl | inr is ↦ rw is more ]

-- what is put in stands before all that tie with it
filter_put : {X : Type 0} (lt : X → X → Bool) → IsStrictWeakOrder lt → (x a : X) (zs : List X) → filter (ties lt x) (put lt a zs) ≡ filter (ties lt x) (a ∷ zs)
unfolding put
filter_put lt o x a [] = refl
filter_put lt o x a (b ∷ zs) = filter_step (ties lt x) a b zs (put lt a zs) (lt b a) (ties_with_one lt o x a b) (filter_put lt o x a zs)

-- sorting keeps ties as they stand
pub sorted_is_stable : {X : Type 0} (lt : X → X → Bool) → IsStrictWeakOrder lt → (xs : List X) → IsStableBy lt xs (sorted lt xs)
unfolding sorted
sorted_is_stable lt o [] x = refl
sorted_is_stable lt o (y ∷ xs) x =
    filter_put lt o x y (sorted lt xs) ∙ ap (λ rest. cond (ties lt x y) (y ∷ rest) rest) (sorted_is_stable lt o xs x)

-- no later element comes before an earlier one
abbrev pub Rises : {X : Type 0} → (X → X → Bool) → List X → Type 0
Rises lt [] = Unit {0}
Rises lt (x ∷ xs) = AllByRecursion (λ y. lt y x ≡ false) xs × Rises lt xs

all_put : {X : Type 0} (P : X → Type 0) (lt : X → X → Bool) (a : X) (zs : List X) → P a → AllByRecursion P zs → AllByRecursion P (put lt a zs)
unfolding put
all_put P lt a [] one all = (one, tt)
all_put P lt a (b ∷ zs) one all =
    cond_both (lt b a) (b ∷ put lt a zs) (a ∷ b ∷ zs) (AllByRecursion P) (λ is. (all.0, all_put P lt a zs one all.1)) (λ is. (one, all))

all_behind : {X : Type 0} (lt : X → X → Bool) → IsStrictWeakOrder lt → (a b : X) (zs : List X) → lt b a ≡ false → AllByRecursion (λ y. lt y b ≡ false) zs → AllByRecursion (λ y. lt y a ≡ false) zs
all_behind lt o a b [] is all = tt
all_behind lt o a b (z ∷ zs) is all = (o.chain z b a all.0 is, all_behind lt o a b zs is all.1)

rises_put : {X : Type 0} (lt : X → X → Bool) → IsStrictWeakOrder lt → (a : X) (zs : List X) → Rises lt zs → Rises lt (put lt a zs)
unfolding put
rises_put lt o a [] r = (tt, tt)
rises_put lt o a (b ∷ zs) r =
    cond_both (lt b a) (b ∷ put lt a zs) (a ∷ b ∷ zs) (Rises lt)
    (λ is. (all_put (λ y. lt y b ≡ false) lt a zs (o.one_way b a is) r.0, rises_put lt o a zs r.1))
    (λ is. ((is, all_behind lt o a b zs is r.0), r))

pub sorted_rises : {X : Type 0} (lt : X → X → Bool) → IsStrictWeakOrder lt → (xs : List X) → Rises lt (sorted lt xs)
unfolding sorted
sorted_rises lt o [] = tt
sorted_rises lt o (x ∷ xs) = rises_put lt o x (sorted lt xs) (sorted_rises lt o xs)

-- what holds of all holds of the first that passes
all_first : {X : Type 0} (P : X → Type 0) (f : X → Bool) (zs rest : List X) (y : X) → AllByRecursion P zs → filter f zs ≡ y ∷ rest → P y
all_first P f [] rest y all is = absurd (cc is)
all_first P f (z ∷ zs) rest y all is =
    elim (cases_Bool (f z)) [
      | inl passes ↦ let told : z ∷ filter f zs ≡ y ∷ rest = rw passes at is in let same : z ≡ y = cc told in subst P same all.0
      | inr fails ↦ let told : filter f zs ≡ y ∷ rest = rw fails at is in all_first P f zs rest y all.1 told
    ]

ties_itself : {X : Type 0} (lt : X → X → Bool) → IsStrictWeakOrder lt → (x : X) → ties lt x x ≡ true
ties_itself lt o x =
    elim (cases_Bool (lt x x)) [ inl is ↦ absurd (true≢false (sym is ∙ o.one_way x x is)) | inr is ↦ rw is refl ]

cancel : {X : Type 0} (p : Bool) (y : X) (us vs : List X) → cond p (y ∷ us) us ≡ cond p (y ∷ vs) vs → us ≡ vs
cancel true y us vs is = cc is
cancel false y us vs is = is

tails : {X : Type 0} (f : X → Bool) (y z : X) (ys zs : List X) → y ≡ z → filter f (y ∷ ys) ≡ filter f (z ∷ zs) → filter f ys ≡ filter f zs
tails f y z ys zs same is =
    let told : cond (f y) (y ∷ filter f ys) (filter f ys) ≡ cond (f y) (y ∷ filter f zs) (filter f zs) = subst (λ v. filter f (y ∷ ys) ≡ filter f (v ∷ zs)) (sym same) is in
    cancel (f y) y (filter f ys) (filter f zs) told

-- where the first elements differ the first one of the second list is not above that of the first
not_above : {X : Type 0} (lt : X → X → Bool) → IsStrictWeakOrder lt → (y z : X) (ys zs : List X) → Rises lt (z ∷ zs)
    → filter (ties lt y) (y ∷ ys) ≡ filter (ties lt y) (z ∷ zs) → ties lt y z ≡ false → lt y z ≡ false
not_above lt o y z ys zs r same apart =
    let itself = ties_itself lt o y in
    let told : y ∷ filter (ties lt y) ys ≡ filter (ties lt y) zs = rw (itself, apart) at same in
    all_first (λ v. lt v z ≡ false) (ties lt y) zs (filter (ties lt y) ys) y r.0 (sym told)

ties_back : (p q : Bool) → (not p && not q) ≡ false → (not q && not p) ≡ false
ties_back true true is = refl
ties_back true false is = refl
ties_back false true is = refl
ties_back false false is = is

firsts : {X : Type 0} (lt : X → X → Bool) → IsStrictWeakOrder lt → (y z : X) (ys zs : List X) → Rises lt (y ∷ ys) → Rises lt (z ∷ zs)
    → ((x : X) → filter (ties lt x) (y ∷ ys) ≡ filter (ties lt x) (z ∷ zs)) → y ≡ z
firsts lt o y z ys zs r s same =
    elim (cases_Bool (ties lt y z)) [
      | inl tie ↦ let itself = ties_itself lt o y in let told : y ∷ filter (ties lt y) ys ≡ z ∷ filter (ties lt y) zs = rw (itself, tie) at (same y) in cc told
      | inr apart ↦
          let up = not_above lt o y z ys zs s (same y) apart in
          let down = not_above lt o z y zs ys r (sym (same z)) (ties_back (lt y z) (lt z y) apart) in
          let both : ties lt y z ≡ true = rw (up, down) refl in
          absurd (true≢false (sym both ∙ apart))
    ]

-- two lists in order that have the same ties are the same
same_from_ties : {X : Type 0} (lt : X → X → Bool) → IsStrictWeakOrder lt → (ys zs : List X) → Rises lt ys → Rises lt zs
    → ((x : X) → filter (ties lt x) ys ≡ filter (ties lt x) zs) → ys ≡ zs
same_from_ties lt o [] [] r s same = refl
same_from_ties lt o [] (z ∷ zs) r s same =
    let itself = ties_itself lt o z in let told : [] ≡ z ∷ filter (ties lt z) zs = rw itself at (same z) in absurd (cc told)
same_from_ties lt o (y ∷ ys) [] r s same =
    let itself = ties_itself lt o y in let told : y ∷ filter (ties lt y) ys ≡ [] = rw itself at (same y) in absurd (cc told)
same_from_ties lt o (y ∷ ys) (z ∷ zs) r s same =
    let first = firsts lt o y z ys zs r s same in
    ap₂ (λ x xs. x ∷ xs) first (same_from_ties lt o ys zs r.1 s.1 (λ x. tails (ties lt x) y z ys zs first (same x)))

all_from_places : {X : Type 0} (P : X → Type 0) (xs : List X) → ((k : ℕ) (d : X) → k < length xs → P (get_or xs k d)) → AllByRecursion P xs
all_from_places P [] each = tt
all_from_places P (x ∷ xs) each = (each 0 x (omega arith), all_from_places P xs (λ k d below. each (suc k) d (omega arith)))

rises_from_sorted : {X : Type 0} (lt : X → X → Bool) → IsStrictWeakOrder lt → (xs : List X) → IsSortedBy lt xs → Rises lt xs
rises_from_sorted lt o [] up = tt
rises_from_sorted lt o (x ∷ xs) up = (
  all_from_places (λ y. lt y x ≡ false) xs (λ k d below. sorted_far lt o (x ∷ xs) up 0 (suc k) d (omega arith) (omega arith)),
  rises_from_sorted lt o xs (λ k d low below. let e : suc k + 1 ≡ suc (k + 1) = omega arith in subst (λ n. lt (get_or (x ∷ xs) n d) (get_or xs k d) ≡ false) e (up (suc k) d (omega arith) (omega arith))),
)

-- a stable sort gives the sorted list
pub sorted_from_sort : {X : Type 0} (lt : X → X → Bool) → IsStrictWeakOrder lt → (xs ys : List X) → IsSortedBy lt ys → IsStableBy lt xs ys → ys ≡ sorted lt xs
sorted_from_sort lt o xs ys up stable =
    same_from_ties lt o ys (sorted lt xs) (rises_from_sorted lt o ys up) (sorted_rises lt o xs) (λ x. stable x ∙ sym (sorted_is_stable lt o xs x))

-- sorting twice is once
pub sorted_twice : {X : Type 0} (lt : X → X → Bool) → IsStrictWeakOrder lt → (xs : List X) → sorted lt (sorted lt xs) ≡ sorted lt xs
sorted_twice lt o xs =
    same_from_ties lt o (sorted lt (sorted lt xs)) (sorted lt xs) (sorted_rises lt o (sorted lt xs)) (sorted_rises lt o xs) (sorted_is_stable lt o (sorted lt xs))

map_put : {X Y : Type 0} (f : X → Y) (lt : Y → Y → Bool) (a : X) (zs : List X) → map f (put (on f lt) a zs) ≡ put lt (f a) (map f zs)
unfolding put
map_put f lt a [] = refl
map_put f lt a (b ∷ zs) =
    elim (cases_Bool (lt (f b) (f a))) [ inl is ↦ rw is (ap (λ rest. f b ∷ rest) (map_put f lt a zs)) | inr is ↦ rw is refl ]

-- what elements are sorted by is sorted as they are
pub map_sorted : {X Y : Type 0} (f : X → Y) (lt : Y → Y → Bool) (xs : List X) → map f (sorted (on f lt) xs) ≡ sorted lt (map f xs)
unfolding sorted
map_sorted f lt [] = refl
map_sorted f lt (x ∷ xs) = map_put f lt x (sorted (on f lt) xs) ∙ ap (put lt (f x)) (map_sorted f lt xs)

-- none of a list that rises comes before the one in front of it
sorted_from_rises : {X : Type 0} (lt : X → X → Bool) (xs : List X) → Rises lt xs → IsSortedBy lt xs
sorted_from_rises lt [] r k d low below = absurd (omega arith)
sorted_from_rises lt (x ∷ []) r k d low below = absurd (omega arith)
sorted_from_rises lt (x ∷ y ∷ xs) r zero d low below = r.0.0
sorted_from_rises lt (x ∷ y ∷ xs) r (suc k) d low below =
    let e : suc (k + 1) ≡ suc k + 1 = omega arith in
    let further : k + 1 < length (y ∷ xs) = omega arith in
    subst (λ n. lt (get_or (x ∷ y ∷ xs) n d) (get_or (y ∷ xs) k d) ≡ false) e (sorted_from_rises lt (y ∷ xs) r.1 k d (omega arith) further)

-- sorting puts a list in order
pub sorted_is_sorted : {X : Type 0} (lt : X → X → Bool) → IsStrictWeakOrder lt → (xs : List X) → IsSortedBy lt (sorted lt xs)
sorted_is_sorted lt o xs = sorted_from_rises lt (sorted lt xs) (sorted_rises lt o xs)

permutation_put : {X : Type 0} (lt : X → X → Bool) (a : X) (zs : List X) → IsPermutation (a ∷ zs) (put lt a zs)
unfolding put
permutation_put lt a [] = IsPermutation-refl (a ∷ [])
permutation_put lt a (b ∷ zs) =
    cond_both (lt b a) (b ∷ put lt a zs) (a ∷ b ∷ zs) (IsPermutation (a ∷ b ∷ zs))
    (λ is. IsPermutation-trans (a ∷ b ∷ zs) (b ∷ a ∷ zs) (b ∷ put lt a zs)
    (IsPermutation-sym (b ∷ a ∷ zs) (a ∷ b ∷ zs) (IsPermutation-middle (b ∷ []) a zs))
    (IsPermutation-cons b (a ∷ zs) (put lt a zs) (permutation_put lt a zs)))
    (λ is. IsPermutation-refl (a ∷ b ∷ zs))

-- and loses none
pub sorted_is_permutation : {X : Type 0} (lt : X → X → Bool) (xs : List X) → IsPermutation xs (sorted lt xs)
unfolding sorted
sorted_is_permutation lt [] = IsPermutation-refl []
sorted_is_permutation lt (x ∷ xs) =
    IsPermutation-trans (x ∷ xs) (x ∷ sorted lt xs) (put lt x (sorted lt xs)) (IsPermutation-cons x xs (sorted lt xs) (sorted_is_permutation lt xs)) (permutation_put lt x (sorted lt xs))
