-- Rows by their numbers, at the place that a search finds.
use Rattle.std.proofs.Common.{◌≡◌, ◌≢◌, ℕ, zero, suc, ◌<◌, List, [], ◌∷◌, length, get_or, set, map, Some, None, slice_get, is_some, Result, Ok, Err, OnOk, is_ok, if◌then◌else◌, inl, inr, refl, sym, ap, subst, ◌∙◌, arith}
use mathlib.Core.Bool.{false≢true}
use Rattle.std.specs.List.{insert}
use Rattle.std.specs.List.Sorted.{IsStrictlySortedBy, IsPartitionPoint}
use Rattle.std.specs.Ordering.{nat_cmp}
use Rattle.std.specs.declared.cmp.Ordering.TheVariants.{Less, Equal}
use Rattle.std.proofs.lemmas.Bool.Decides.{nat_tests}
use Rattle.std.proofs.lemmas.Bool.{cases_lt}
use Rattle.std.proofs.lemmas.Cmp.{ranked}
use Rattle.std.proofs.lemmas.Map.Keys.{below_from_sorted}
use Rattle.std.proofs.lemmas.Option.{get_or_from_slice_get, slice_get_read, slice_get_within}
use Rattle.std.proofs.lemmas.List.{length-map, map-set, set-get_or, get_or-map}
use Rattle.just_value.specs.declared.bound.Bound.{Bound}
use Rattle.just_value.specs.Frames.{BoundRow, bound_of, bound_in, Rebinds, ByNumber}
use Rattle.just_value.proofs.Halves.{map_insert, sorted_inserted}

abbrev pub numbers : List BoundRow → List ℕ
numbers rows = map (λ b. b.number) rows

as_many : (items : List Bound) (rows : List BoundRow) → map bound_of items ≡ rows → length (numbers rows) ≡ length items
as_many items rows view = length-map rows (λ b. b.number) ∙ ap length (sym view) ∙ length-map items bound_of

number_at : (items : List Bound) (i : ℕ) (x : Bound) (e : ℕ) → i < length items → x ≡ get_or items i x → get_or (numbers (map bound_of items)) i e ≡ x.number
unfolding bound_of
number_at [] i x e lt is = absurd (omega (arith, lt))
number_at (y ∷ items) zero x e lt is = ap (λ b. b.number) (sym is)
number_at (y ∷ items) (suc i) x e lt is = number_at items i x e (omega (arith, lt)) is

-- what is read at a place has the number at that place
pub number_read : (items : List Bound) (rows : List BoundRow) → map bound_of items ≡ rows → (i : ℕ) (x : Bound) → i < length (numbers rows) → x ≡ get_or items i x → (d : ℕ) → x.number ≡ get_or (numbers rows) i d
number_read items rows view i x lt is d = sym (number_at items i x d (omega (arith, lt, as_many items rows view)) is) ∙ ap (λ rs. get_or (numbers rs) i d) view

-- the number stands where it is equal to what is read
pub place_read : (items : List Bound) (rows : List BoundRow) → map bound_of items ≡ rows → (i : ℕ) (x : Bound) (n : ℕ) → i < length (numbers rows) → x ≡ get_or items i x → Equal ≡ nat_cmp n x.number → slice_get (numbers rows) i ≡ Some n
place_read items rows view i x n lt is equal = slice_get_read (numbers rows) (length (numbers rows)) i n refl lt (ranked n x.number Equal equal ∙ number_read items rows view i x lt is n)

-- no row before place i has the number
abbrev pub NoneBefore : List BoundRow → ℕ → ℕ → Type 0
NoneBefore rows n i = (j : ℕ) → j < i → get_or (numbers rows) j 0 ≢ n

none_before_tail : (r : BoundRow) (rows : List BoundRow) (n i : ℕ) → NoneBefore (r ∷ rows) n (suc i) → NoneBefore rows n i
none_before_tail r rows n i none j lt = none (suc j) (omega (arith, lt))

pub bound_nowhere : (rows : List BoundRow) (n : ℕ) → NoneBefore rows n (length rows) → bound_in rows n ≡ None
bound_nowhere [] n none = refl
bound_nowhere (r ∷ rows) n none = grind (arith, nat_tests, none 0 (omega arith), bound_nowhere rows n (none_before_tail r rows n (length rows) none))

pub bound_there : (rows : List BoundRow) (n i : ℕ) → slice_get (numbers rows) i ≡ Some n → NoneBefore rows n i → bound_in rows n ≡ slice_get rows i
bound_there [] n i is none = refl
bound_there (r ∷ rows) n zero is none = grind (arith, nat_tests, get_or_from_slice_get (numbers (r ∷ rows)) 0 n 0 is)
bound_there (r ∷ rows) n (suc i) is none = grind (arith, nat_tests, none 0 (omega arith), bound_there rows n i is (none_before_tail r rows n i none))

pub rebinds_set : (rows : List BoundRow) (b : BoundRow) (i : ℕ) → slice_get (numbers rows) i ≡ Some b.number → NoneBefore rows b.number i → Rebinds rows b (set rows i b)
rebinds_set [] b i is none n = absurd (false≢true (ap is_some is))
rebinds_set (r ∷ rows) b zero is none n = grind (arith, nat_tests, get_or_from_slice_get (numbers (r ∷ rows)) 0 b.number 0 is)
rebinds_set (r ∷ rows) b (suc i) is none n = grind (arith, nat_tests, none 0 (omega arith), rebinds_set rows b i is (none_before_tail r rows b.number i none) n)

pub rebinds_insert : (rows : List BoundRow) (b : BoundRow) (i : ℕ) → NoneBefore rows b.number i → Rebinds rows b (insert rows i b)
rebinds_insert rows b zero none n = refl
rebinds_insert [] b (suc i) none n = refl
rebinds_insert (r ∷ rows) b (suc i) none n = grind (arith, nat_tests, none 0 (omega arith), rebinds_insert rows b i (none_before_tail r rows b.number i none) n)

-- ---- at the answer of a search

abbrev pub IsGap : List BoundRow → ℕ → ℕ → Type 0
IsGap rows n i = IsPartitionPoint (λ k. nat_cmp k n ≡ Less) (λ k. nat_cmp n k ≡ Less) (numbers rows) i

none_before_found : (rows : List BoundRow) (n i : ℕ) → ByNumber rows → slice_get (numbers rows) i ≡ Some n → NoneBefore rows n i
none_before_found rows n i sorted is j lt same =
    omega (arith, same, below_from_sorted (numbers rows) j i 0 sorted lt (slice_get_within (numbers rows) i n is), get_or_from_slice_get (numbers rows) i n 0 is)

none_before_gap : (rows : List BoundRow) (n i : ℕ) → IsGap rows n i → NoneBefore rows n i
none_before_gap rows n i gap j lt same = omega (arith, same, ranked (get_or (numbers rows) j 0) n Less (sym (gap.0 j 0 (omega arith) lt)))

none_at_all : (rows : List BoundRow) (n i : ℕ) → IsGap rows n i → NoneBefore rows n (length rows)
none_at_all rows n i gap j lt same = elim (cases_lt j i) [
  | inl below ↦ none_before_gap rows n i gap j below same
  | inr above ↦ omega (arith, same, ranked n (get_or (numbers rows) j 0) Less (sym (gap.1 j 0 above (omega (arith, lt, length-map rows (λ b. b.number))))))
]

pub found : (rows : List BoundRow) (n i : ℕ) → ByNumber rows → slice_get (numbers rows) i ≡ Some n → bound_in rows n ≡ slice_get rows i
found rows n i sorted is = bound_there rows n i is (none_before_found rows n i sorted is)

pub missing : (rows : List BoundRow) (n i : ℕ) → IsGap rows n i → bound_in rows n ≡ None
missing rows n i gap = bound_nowhere rows n (none_at_all rows n i gap)

-- ---- edits at the answer of a search

module _ (items : List Bound) (rows : List BoundRow) (view : map bound_of items ≡ rows) (sorted : ByNumber rows) (i : ℕ) (b : Bound) where
  rows_set : map bound_of (set items i b) ≡ set rows i (bound_of b)
  rows_set = map-set bound_of items i b ∙ ap (λ rs. set rs i (bound_of b)) view

  rows_inserted : map bound_of (insert items i b) ≡ insert rows i (bound_of b)
  rows_inserted = map_insert bound_of items i b ∙ ap (λ rs. insert rs i (bound_of b)) view

  -- another binding of the number in the place of the earlier one
  module _ (is : slice_get (numbers rows) i ≡ Some b.number) where
    pub set_by_number : ByNumber (map bound_of (set items i b))
    unfolding bound_of
    set_by_number =
        let same : numbers (set rows i (bound_of b)) ≡ numbers rows = map-set (λ r. r.number) rows i (bound_of b) ∙ ap (set (numbers rows) i) (sym (get_or_from_slice_get (numbers rows) i b.number b.number is)) ∙ set-get_or (numbers rows) i b.number in
        subst (IsStrictlySortedBy nat_cmp) (sym (ap numbers rows_set ∙ same)) sorted

    pub set_rebinds : Rebinds rows (bound_of b) (map bound_of (set items i b))
    unfolding bound_of
    set_rebinds = subst (Rebinds rows (bound_of b)) (sym rows_set) (rebinds_set rows (bound_of b) i is (none_before_found rows b.number i sorted is))

  -- a binding of a new number
  module _ (gap : IsGap rows b.number i) where
    insert_by_number : ByNumber (map bound_of (insert items i b))
    unfolding bound_of
    insert_by_number = subst (IsStrictlySortedBy nat_cmp) (sym (ap numbers rows_inserted ∙ map_insert (λ r. r.number) rows i (bound_of b))) (sorted_inserted nat_cmp (numbers rows) i b.number sorted gap.0 gap.1)

    insert_rebinds : Rebinds rows (bound_of b) (map bound_of (insert items i b))
    unfolding bound_of
    insert_rebinds = subst (Rebinds rows (bound_of b)) (sym rows_inserted) (rebinds_insert rows (bound_of b) i (none_before_gap rows b.number i gap))

    -- an insertion, refused or not
    pub inserted_by_number : {T E : Type 0} (r : Result T E) (new : List Bound) → new ≡ (if is_ok r then insert items i b else items) → ByNumber (map bound_of new)
    inserted_by_number (Ok x) new is = subst (λ l. ByNumber (map bound_of l)) (sym is) insert_by_number
    inserted_by_number (Err e) new is = subst (λ l. ByNumber (map bound_of l)) (sym is) (subst ByNumber (sym view) sorted)

    pub inserted_rebinds : {T E : Type 0} (r : Result T E) (new : List Bound) → new ≡ (if is_ok r then insert items i b else items) → OnOk r (Rebinds rows (bound_of b) (map bound_of new))
    inserted_rebinds (Ok x) new is = subst (λ l. Rebinds rows (bound_of b) (map bound_of l)) (sym is) insert_rebinds
    inserted_rebinds (Err e) new is = tt

-- no binding at all
pub none_by_number : (items : List Bound) → items ≡ [] → ByNumber (map bound_of items)
unfolding IsStrictlySortedBy
none_by_number items none = subst (λ l. ByNumber (map bound_of l)) (sym none) tt

-- what is read at a place is the row there
pub row_read : (items : List Bound) (rows : List BoundRow) → map bound_of items ≡ rows → (i n : ℕ) (x : Bound) → slice_get (numbers rows) i ≡ Some n → x ≡ get_or items i x → Some (bound_of x) ≡ slice_get rows i
row_read items rows view i n x there is =
    let inside : i < length items = omega (arith, slice_get_within (numbers rows) i n there, as_many items rows view) in
    sym (slice_get_read rows (length items) i (bound_of x) (sym (length-map items bound_of) ∙ ap length view) inside
    (ap bound_of is ∙ sym (get_or-map bound_of items i x (bound_of x) inside) ∙ ap (λ rs. get_or rs i (bound_of x)) view))
