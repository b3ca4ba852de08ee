-- Keys in order with their values beside them, as a table.
use Rattle.std.proofs.Common.{◌≡◌, ℕ, zero, suc, ◌+◌, ◌-◌, ◌<◌, ◌≤◌, cond, List, [], ◌∷◌, length, get_or, set, slice_get, Option, Some, None, is_some, refl, sym, ap, subst, ◌∙◌, arith}
use mathlib.Core.Bool.{false≢true}
use Rattle.std.specs.Borrow.{Bor}
use Rattle.std.specs.BTreeMap.{insert_entry}
use Rattle.std.specs.List.{AllWithin, insert, remove, zip}
use Rattle.std.specs.List.Sorted.{IsStrictlySortedBy, IsPartitionPoint}
use Rattle.std.specs.Map.{keys_of, values_of}
use Rattle.std.specs.Ordering.{is_eq, match_ordering, ordering_reverse}
use Rattle.std.specs.Str.{bytes_eq}
use Rattle.std.specs.declared.cmp.Ordering.{Ordering}
use Rattle.std.specs.declared.cmp.Ordering.TheVariants.{Less, Equal, Greater}
use Rattle.std.proofs.lemmas.Cmp.{nat_list_cmp_total}
use Rattle.std.proofs.lemmas.List.{length-map}
use Rattle.std.proofs.lemmas.List.Edits.{length-insert}
use Rattle.std.proofs.lemmas.Map.Lookups.{exact_bytes}
use Rattle.std.proofs.lemmas.Map.Keys.{Less-from_sorted}
use Rattle.std.proofs.lemmas.Map.Made.{keys_of-zip}
use Rattle.std.proofs.lemmas.Map.Entries.{length-keys_of}
use Rattle.std.proofs.lemmas.Map.Text.{is_eq-slice_cmp}
use Rattle.std.proofs.lemmas.Option.{get_or_from_slice_get, slice_get_read, slice_get_within}
use Rattle.just_value.proofs.Halves.{Narrowed, whole, key_read, map_insert, sorted_inserted}
use Rattle.just_value.specs.Searches.{digits}
use Rattle.modules_compilation.specs.Tables.{text_cmp, texts, at, with_entry, IsAscending}

-- the key is above the first keys
abbrev pub IsAboveFirst : List (List ℕ) → List ℕ → ℕ → Type 0
IsAboveFirst ks k i = AllWithin (λ x. text_cmp x k ≡ Less) ks 0 i

-- the key would go at the place
abbrev pub IsGap : List (List ℕ) → List ℕ → ℕ → Type 0
IsGap ks k i = IsPartitionPoint (λ x. text_cmp x k ≡ Less) (λ x. text_cmp k x ≡ Less) ks i

above_tail : (x : List ℕ) (ks : List (List ℕ)) (k : List ℕ) (i : ℕ) → IsAboveFirst (x ∷ ks) k (suc i) → IsAboveFirst ks k i
above_tail x ks k i above j d a b = above (suc j) d (omega arith) (omega (arith, b))

greater : (x k : List ℕ) → text_cmp x k ≡ Less → text_cmp k x ≡ Greater
greater x k less = nat_list_cmp_total.antisymm k x ∙ ap ordering_reverse less

equal : (k : List ℕ) → text_cmp k k ≡ Equal
equal k = itself (text_cmp k k) (nat_list_cmp_total.antisymm k k)
  where
    itself : (o : Ordering) → o ≡ ordering_reverse o → o ≡ Equal
    itself Less same = absurd (false≢true (ap (λ o. is_eq (match_ordering o Less Equal Equal)) same))
    itself Equal same = refl
    itself Greater same = absurd (false≢true (ap (λ o. is_eq (match_ordering o Equal Equal Less)) same))

-- where a key stands, it is above those before it
pub above_before : (ks : List (List ℕ)) (k : List ℕ) (i : ℕ) → IsStrictlySortedBy text_cmp ks → slice_get ks i ≡ Some k → IsAboveFirst ks k i
above_before ks k i sorted is j d a b =
    subst (λ y. text_cmp (get_or ks j d) y ≡ Less) (get_or_from_slice_get ks i k d is) (Less-from_sorted text_cmp ks j i d sorted b (slice_get_within ks i k is))

module _ {V : Type 0} where
  pub values_are : (ks : List (List ℕ)) (vs : List V) → length vs ≡ length ks → values_of (zip ks vs) ≡ vs
  values_are [] [] long = refl
  values_are [] (v ∷ vs) long = absurd (omega (arith, long))
  values_are (k ∷ ks) [] long = absurd (omega (arith, long))
  values_are (k ∷ ks) (v ∷ vs) long = ap (λ l. v ∷ l) (values_are ks vs (omega (arith, long)))

  pub length_is : (ks : List (List ℕ)) (vs : List V) → length vs ≡ length ks → length (zip ks vs) ≡ length ks
  length_is ks vs long = sym (length-keys_of (zip ks vs)) ∙ ap length (keys_of-zip ks vs long)

  -- ---- a look-up

  passes_head : (x k : List ℕ) (v : V) (rest : Option V) (o : Ordering) → text_cmp k x ≡ o → cond (bytes_eq k x) (Some v) rest ≡ cond (is_eq o) (Some v) rest
  passes_head x k v rest o is = ap (λ b. cond b (Some v) rest) (sym (is_eq-slice_cmp k x) ∙ ap is_eq is)

  pub at_place : (ks : List (List ℕ)) (vs : List V) (k : List ℕ) (i : ℕ) → length vs ≡ length ks → IsAboveFirst ks k i → slice_get ks i ≡ Some k → at (zip ks vs) k ≡ slice_get vs i
  at_place [] vs k i long above is = absurd (false≢true (ap is_some is))
  at_place (x ∷ ks) [] k i long above is = absurd (omega (arith, long))
  at_place (x ∷ ks) (v ∷ vs) k zero long above is = passes_head x k v (at (zip ks vs) k) Equal (ap (text_cmp k) (get_or_from_slice_get (x ∷ ks) 0 k k is) ∙ equal k)
  at_place (x ∷ ks) (v ∷ vs) k (suc i) long above is =
      passes_head x k v (at (zip ks vs) k) Greater (greater x k (above 0 x (omega arith) (omega arith))) ∙ at_place ks vs k i (omega (arith, long)) (above_tail x ks k i above) is

  pub at_gap : (ks : List (List ℕ)) (vs : List V) (k : List ℕ) (i : ℕ) → IsGap ks k i → at (zip ks vs) k ≡ None
  at_gap [] vs k i gap = refl
  at_gap (x ∷ ks) [] k i gap = refl
  at_gap (x ∷ ks) (v ∷ vs) k zero gap =
      passes_head x k v (at (zip ks vs) k) Less (gap.1 0 x (omega arith) (omega arith)) ∙ at_gap ks vs k zero (λ j d a b. absurd (omega (arith, b)), λ j d a b. gap.1 (suc j) d (omega arith) (omega (arith, b)))
  at_gap (x ∷ ks) (v ∷ vs) k (suc i) gap =
      passes_head x k v (at (zip ks vs) k) Greater (greater x k (gap.0 0 x (omega arith) (omega arith)))
      ∙ at_gap ks vs k i (above_tail x ks k i gap.0, λ j d a b. gap.1 (suc j) d (omega (arith, a)) (omega (arith, b)))

  -- ---- an edit

  put_head : (x k : List ℕ) (v w : V) (es : List (List ℕ × V)) (o : Ordering) → text_cmp k x ≡ o
      → insert_entry text_cmp ((x, v) ∷ es) k w ≡ match_ordering o ((k, w) ∷ (x, v) ∷ es) ((x, w) ∷ es) ((x, v) ∷ insert_entry text_cmp es k w)
  put_head x k v w es o is = ap (λ r. match_ordering r ((k, w) ∷ (x, v) ∷ es) ((x, w) ∷ es) ((x, v) ∷ insert_entry text_cmp es k w)) is

  entry_set : (ks : List (List ℕ)) (vs : List V) (k : List ℕ) (w : V) (i : ℕ) → length vs ≡ length ks → IsAboveFirst ks k i → slice_get ks i ≡ Some k → zip ks (set vs i w) ≡ insert_entry text_cmp (zip ks vs) k w
  entry_set [] vs k w i long above is = absurd (false≢true (ap is_some is))
  entry_set (x ∷ ks) [] k w i long above is = absurd (omega (arith, long))
  entry_set (x ∷ ks) (v ∷ vs) k w zero long above is = sym (put_head x k v w (zip ks vs) Equal (ap (text_cmp k) (get_or_from_slice_get (x ∷ ks) 0 k k is) ∙ equal k))
  entry_set (x ∷ ks) (v ∷ vs) k w (suc i) long above is =
      ap (λ l. (x, v) ∷ l) (entry_set ks vs k w i (omega (arith, long)) (above_tail x ks k i above) is) ∙ sym (put_head x k v w (zip ks vs) Greater (greater x k (above 0 x (omega arith) (omega arith))))

  entry_inserted : (ks : List (List ℕ)) (vs : List V) (k : List ℕ) (w : V) (i : ℕ) → length vs ≡ length ks → i ≤ length ks → IsGap ks k i → zip (insert ks i k) (insert vs i w) ≡ insert_entry text_cmp (zip ks vs) k w
  entry_inserted [] [] k w zero long inside gap = refl
  entry_inserted [] vs k w (suc i) long inside gap = absurd (omega (arith, inside))
  entry_inserted [] (v ∷ vs) k w zero long inside gap = absurd (omega (arith, long))
  entry_inserted (x ∷ ks) [] k w i long inside gap = absurd (omega (arith, long))
  entry_inserted (x ∷ ks) (v ∷ vs) k w zero long inside gap = sym (put_head x k v w (zip ks vs) Less (gap.1 0 x (omega arith) (omega arith)))
  entry_inserted (x ∷ ks) (v ∷ vs) k w (suc i) long inside gap =
      ap (λ l. (x, v) ∷ l) (entry_inserted ks vs k w i (omega (arith, long)) (omega (arith, inside)) (above_tail x ks k i gap.0, λ j d a b. gap.1 (suc j) d (omega (arith, a)) (omega (arith, b))))
      ∙ sym (put_head x k v w (zip ks vs) Greater (greater x k (gap.0 0 x (omega arith) (omega arith))))

-- ---- the two rows of a table

without_first : {V : Type 0} (ks : List (Bor (List ℕ))) (vs : List V) → (length vs ≡ length ks) × IsStrictlySortedBy text_cmp (texts ks) → (length (remove vs 0) ≡ length (remove ks 0)) × IsStrictlySortedBy text_cmp (texts (remove ks 0))
unfolding IsStrictlySortedBy
without_first [] [] inv = (refl, tt)
without_first [] (v ∷ vs) inv = absurd (omega (arith, inv.0))
without_first (k ∷ ks) [] inv = absurd (omega (arith, inv.0))
without_first (k ∷ ks) (v ∷ vs) inv = (omega (arith, inv.0), inv.1.1)

module _ {V : Type 0} (ks : List (Bor (List ℕ))) (vs : List V) (table : List (List ℕ × V)) (view : zip (texts ks) vs ≡ table) (inv : (length vs ≡ length ks) × IsStrictlySortedBy text_cmp (texts ks)) where
  as_long : length vs ≡ length (texts ks)
  as_long = inv.0 ∙ sym (length-map ks (λ k. k.now))

  pub keys_view : texts ks ≡ keys_of table
  keys_view = sym (keys_of-zip (texts ks) vs as_long) ∙ ap keys_of view

  pub values_view : vs ≡ values_of table
  values_view = sym (values_are (texts ks) vs as_long) ∙ ap values_of view

  pub length_view : length ks ≡ length table
  length_view = sym (length-map ks (λ k. k.now)) ∙ sym (length_is (texts ks) vs as_long) ∙ ap length view

  pub length_keys : length (keys_of table) ≡ length ks
  length_keys = length-keys_of table ∙ sym length_view

  pub ascending_view : IsAscending table
  ascending_view = subst (IsStrictlySortedBy text_cmp) keys_view inv.1

  -- what is read at a place is the key there
  pub text_read : (i : ℕ) (x : Bor (List ℕ)) → i < length (keys_of table) → x ≡ get_or ks i x → (d : List ℕ) → x.now ≡ get_or (keys_of table) i d
  text_read i x lt is d = key_read (λ k. k.now) ks i x (omega (arith, lt, length_keys)) is d ∙ ap (λ l. get_or l i d) keys_view

  pub key_found : (i : ℕ) (x : Bor (List ℕ)) (k : List ℕ) → i < length (keys_of table) → x ≡ get_or ks i x → Equal ≡ text_cmp k x.now → slice_get (keys_of table) i ≡ Some k
  key_found i x k lt is same = slice_get_read (keys_of table) (length (keys_of table)) i k refl lt (exact_bytes k x.now (sym same) ∙ text_read i x lt is k)

  pub place_inside : (i : ℕ) (k : List ℕ) → slice_get (keys_of table) i ≡ Some k → i < length vs
  place_inside i k there = omega (arith, slice_get_within (keys_of table) i k there, length_keys, inv.0)

  -- a search begins with all keys
  pub whole_table : (k : List ℕ) (taken high : ℕ) → high ≡ length ks → (taken + digits (high - 0) ≤ taken + digits (length table)) × Narrowed text_cmp (keys_of table) k 0 high
  whole_table k taken high is =
      let same : high - 0 ≡ length table = omega (arith, is, length_view) in
      (omega (arith, ap digits same), subst (Narrowed text_cmp (keys_of table) k 0) (sym (is ∙ sym length_keys)) (whole text_cmp (keys_of table) k))

  -- without the first entry
  pub popped : (keys : List (Bor (List ℕ))) (values : List V) → keys ≡ remove ks 0 → values ≡ remove vs 0 → (length values ≡ length keys) × IsStrictlySortedBy text_cmp (texts keys)
  popped keys values is_keys is_values =
      let left = without_first ks vs inv in
      (ap length is_values ∙ left.0 ∙ sym (ap length is_keys), subst (λ l. IsStrictlySortedBy text_cmp (texts l)) (sym is_keys) left.1)

  pub value_found : (i : ℕ) (k : List ℕ) (v : V) → slice_get (keys_of table) i ≡ Some k → v ≡ get_or vs i v → Some v ≡ at table k
  value_found i k v there is =
      let here : slice_get (texts ks) i ≡ Some k = ap (λ l. slice_get l i) keys_view ∙ there in
      let lt = slice_get_within (texts ks) i k here in
      sym (slice_get_read vs (length vs) i v refl (omega (arith, lt, as_long)) is)
      ∙ sym (at_place (texts ks) vs k i as_long (above_before (texts ks) k i inv.1 here) here) ∙ ap (λ t. at t k) view

  pub none_found : (i : ℕ) (k : List ℕ) → IsGap (keys_of table) k i → None ≡ at table k
  none_found i k gap = sym (at_gap (texts ks) vs k i (subst (λ l. IsGap l k i) (sym keys_view) gap)) ∙ ap (λ t. at t k) view

  pub put_set : (i : ℕ) (k : List ℕ) (w : V) → slice_get (keys_of table) i ≡ Some k → zip (texts ks) (set vs i w) ≡ with_entry table k w
  unfolding with_entry
  put_set i k w there =
      let here : slice_get (texts ks) i ≡ Some k = ap (λ l. slice_get l i) keys_view ∙ there in
      entry_set (texts ks) vs k w i as_long (above_before (texts ks) k i inv.1 here) here ∙ ap (λ t. insert_entry text_cmp t k w) view

  -- rows that are as they were
  pub same_rows : (keys : List (Bor (List ℕ))) (values : List V) → (keys ≡ ks) × (values ≡ vs) → (length values ≡ length keys) × IsStrictlySortedBy text_cmp (texts keys)
  same_rows keys values same = (ap length same.1 ∙ inv.0 ∙ sym (ap length same.0), subst (λ l. IsStrictlySortedBy text_cmp (texts l)) (sym same.0) inv.1)

  module _ (i : ℕ) (key : Bor (List ℕ)) (w : V) (place : (i ≤ length (keys_of table)) × IsGap (keys_of table) key.now i) where
    gap : IsGap (texts ks) key.now i
    gap = subst (λ l. IsGap l key.now i) (sym keys_view) place.1

    pub put_inserted : zip (texts (insert ks i key)) (insert vs i w) ≡ with_entry table key.now w
    unfolding with_entry
    put_inserted = ap (λ l. zip l (insert vs i w)) (map_insert (λ k. k.now) ks i key)
        ∙ entry_inserted (texts ks) vs key.now w i as_long (omega (arith, place.0, length_keys, length-map ks (λ k. k.now))) gap ∙ ap (λ t. insert_entry text_cmp t key.now w) view

    inserted_rows : (length (insert vs i w) ≡ length (insert ks i key)) × IsStrictlySortedBy text_cmp (texts (insert ks i key))
    inserted_rows = (
      omega (arith, length-insert vs i w (omega (arith, place.0, length_keys, inv.0)), length-insert ks i key (omega (arith, place.0, length_keys)), inv.0),
      subst (IsStrictlySortedBy text_cmp) (sym (map_insert (λ k. k.now) ks i key)) (sorted_inserted text_cmp (texts ks) i key.now inv.1 gap.0 gap.1),
    )

    pub new_rows : (keys : List (Bor (List ℕ))) (values : List V) → (keys ≡ insert ks i key) × (values ≡ insert vs i w) → (length values ≡ length keys) × IsStrictlySortedBy text_cmp (texts keys)
    new_rows keys values put = (ap length put.1 ∙ inserted_rows.0 ∙ sym (ap length put.0), subst (λ l. IsStrictlySortedBy text_cmp (texts l)) (sym put.0) inserted_rows.1)

-- no entry at all
pub none_ascending : {V : Type 0} (ks : List (Bor (List ℕ))) (vs : List V) → ks ≡ [] → vs ≡ [] → (length vs ≡ length ks) × IsStrictlySortedBy text_cmp (texts ks)
unfolding IsStrictlySortedBy
none_ascending ks vs keys values = (ap length values ∙ sym (ap length keys), subst (λ l. IsStrictlySortedBy text_cmp (texts l)) (sym keys) tt)
