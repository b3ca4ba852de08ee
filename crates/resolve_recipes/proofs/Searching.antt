-- A search by halves among what stands in order: what is sought is the first of its kind in what is left, or what was found last.
use Rattle.std.proofs.Common.{◌≡◌, ℕ, suc, ◌+◌, ◌<◌, ◌≤◌, Bool, true, false, eqb, eqb-true, cond, List, [], ◌∷◌, length, get_or, take, drop, Option, Some, None, refl, sym, ap, subst, ◌∙◌, arith}
use Rattle.std.specs.Cmp.{IsTotalOrder}
use Rattle.std.specs.Cmp.Lexicographic.{slice_cmp}
use Rattle.std.specs.Str.{bytes_eq}
use Rattle.std.proofs.lemmas.Map.Text.{is_eq-slice_cmp}
use Rattle.std.specs.List.{find}
use Rattle.std.specs.List.Sorted.{IsNonDecreasingBy, IsSortedByKey}
use Rattle.std.specs.Option.{option_or}
use Rattle.std.specs.Ordering.{is_eq, nat_cmp, ordering_index, ordering_reverse}
use Rattle.std.specs.declared.cmp.Ordering.{Ordering}
use Rattle.std.specs.declared.cmp.Ordering.TheVariants.{Less, Equal, Greater}
use Rattle.std.proofs.lemmas.List.{get_or-take, get_or-drop, length-take, length-drop, take-append-drop}
use Rattle.std.proofs.lemmas.List.Folds.{find-append}
use Rattle.std.proofs.lemmas.List.Sorted.{searchable_from_sorted, IsNonDecreasingBy-take, IsNonDecreasingBy-drop}
use Rattle.std.proofs.lemmas.Cmp.{is_eq_index}

none_or : {X : Type 0} (o : Option X) → option_or o None ≡ o
none_or None = refl
none_or (Some x) = refl

found_or : {X : Type 0} (o : Option X) (x : X) (p : Option X) → option_or o (Some x) ≡ option_or (option_or o (Some x)) p
found_or None x p = refl
found_or (Some y) x p = refl

module _ {X : Type 0} (test : X → Bool) where
  find_none : (xs : List X) → ((i : ℕ) (d : X) → i < length xs → test (get_or xs i d) ≡ false) → find test xs ≡ None
  find_none [] h = refl
  find_none (x ∷ xs) h = rw (h 0 x (omega arith)) (find_none xs (λ i d lt. h (suc i) d (omega (arith, lt))))

-- of each the key's order to what is sought: before it 0, it 1, behind it 2
module _ {X K : Type 0} {R : K → K → Ordering} (o : IsTotalOrder R) (key : X → K) (q : K) where
  abbrev pub rank : X → ℕ
  rank x = ordering_index (R (key x) q)

  abbrev pub is : X → Bool
  is x = is_eq (R (key x) q)

  not_one : (x : X) (n : ℕ) → rank x ≡ n → eqb n 1 ≡ false → is x ≡ false
  not_one x n e h = is_eq_index (R (key x) q) ∙ ap (λ m. eqb m 1) e ∙ h

  not_two : (x : X) → 2 ≤ rank x → is x ≡ false
  not_two x le = above_one (R (key x) q) le
    where
      above_one : (r : Ordering) → 2 ≤ ordering_index r → is_eq r ≡ false
      above_one Less le = absurd (omega (arith, le))
      above_one Equal le = absurd (omega (arith, le))
      above_one Greater le = refl

  pub record IsSearching (xs rest : List X) (found : Option X) : Type 0 where
    pub rises : IsNonDecreasingBy rank rest
    pub left : option_or (find is rest) found ≡ find is xs

  module _ (xs rest : List X) (found : Option X) (s : IsSearching xs rest found) (mid : ℕ) (front back behind : List X) (m : X) (front_is : front ≡ take mid rest) (back_is : back ≡ drop mid rest) (first_is : back ≡ m ∷ behind) where
    parts : find is rest ≡ option_or (find is front) (find is back)
    parts = ap (find is) (sym (take-append-drop mid rest)) ∙ find-append is (take mid rest) (drop mid rest) ∙ rw (front_is, back_is) refl

    front_rises : IsNonDecreasingBy rank front
    front_rises = subst (IsNonDecreasingBy rank) (sym front_is) (IsNonDecreasingBy-take rank mid rest s.rises)

    back_rises : IsNonDecreasingBy rank back
    back_rises = subst (IsNonDecreasingBy rank) (sym back_is) (IsNonDecreasingBy-drop rank mid rest s.rises)

    behind_rises : IsNonDecreasingBy rank behind
    behind_rises i j d le lt = subst (IsNonDecreasingBy rank) first_is back_rises (suc i) (suc j) d (omega (arith, le)) (omega (arith, lt))

    -- what stands behind what is greater is greater
    greater_behind : rank m ≡ 2 → (i : ℕ) (d : X) → i < length back → is (get_or back i d) ≡ false
    greater_behind e i d lt =
        let first : get_or back 0 d ≡ m = ap (λ l. get_or l 0 d) first_is in
        not_two (get_or back i d) (omega (arith, e, ap rank first, back_rises 0 i d (omega arith) lt))

    -- what stands before what is less is less
    less_before : rank m ≡ 0 → (i : ℕ) (d : X) → i < length front → is (get_or front i d) ≡ false
    less_before e i d lt =
        let same : get_or front i d ≡ get_or rest i d = ap (λ l. get_or l i d) front_is ∙ get_or-take mid rest i d (omega (arith, lt, ap length front_is, length-take mid rest)) in
        let middle : m ≡ get_or rest (mid + 0) d = ap (λ l. get_or l 0 d) (sym first_is ∙ back_is) ∙ get_or-drop mid rest 0 d in
        let low : rank (get_or rest i d) ≤ rank (get_or rest (mid + 0) d) = s.rises i (mid + 0) d (omega (arith, lt, ap length front_is, length-take mid rest)) (omega (arith, ap length (sym first_is ∙ back_is), length-drop mid rest)) in
        not_one (get_or front i d) 0 (let n = ap rank same in let k = ap rank middle in omega (arith, low, n, k, e)) refl

    none_behind : rank m ≡ 2 → find is rest ≡ find is front
    none_behind e = parts ∙ ap (option_or (find is front)) (find_none is back (greater_behind e)) ∙ none_or (find is front)

    some_behind : rank m ≡ 1 → find is rest ≡ option_or (find is front) (Some m)
    some_behind e = parts ∙ ap (option_or (find is front)) (ap (find is) first_is ∙ ap (λ b. cond b (Some m) (find is behind)) (is_eq_index (R (key m) q) ∙ ap (λ n. eqb n 1) e))

    none_before : rank m ≡ 0 → find is rest ≡ find is behind
    none_before e = parts ∙ ap (λ r. option_or r (find is back)) (find_none is front (less_before e)) ∙ ap (find is) first_is ∙ ap (λ b. cond b (Some m) (find is behind)) (not_one m 0 e refl)

    pub lowered : R q (key m) ≡ Less → IsSearching xs front found
    lowered less = record {
      rises = front_rises;
      left = ap (λ r. option_or r found) (sym (none_behind (ap ordering_index (o.antisymm (key m) q ∙ ap ordering_reverse less)))) ∙ s.left;
    }

    pub met : R q (key m) ≡ Equal → IsSearching xs front (Some m)
    met equal = record {
      rises = front_rises;
      left = found_or (find is front) m found ∙ ap (λ r. option_or r found) (sym (some_behind (ap ordering_index (o.antisymm (key m) q ∙ ap ordering_reverse equal)))) ∙ s.left;
    }

    pub raised : R q (key m) ≡ Greater → IsSearching xs behind found
    raised greater = record {
      rises = behind_rises;
      left = ap (λ r. option_or r found) (sym (none_before (ap ordering_index (o.antisymm (key m) q ∙ ap ordering_reverse greater)))) ∙ s.left;
    }

  pub starts : (xs : List X) → IsSortedByKey key R xs → IsSearching xs xs None
  starts xs sorted = record { rises = searchable_from_sorted o key xs q sorted; left = none_or (find is xs) }

  pub ends : (xs rest : List X) (found : Option X) → IsSearching xs rest found → true ≡ eqb (length rest) 0 → found ≡ find is xs
  ends xs [] found s e = s.left
  ends xs (x ∷ rest) found s e = absurd (omega (arith, eqb-true (suc (length rest)) 0 (sym e)))

-- among texts
pub by_text : {X : Type 0} (text : X → List ℕ) (name : List ℕ) (xs : List X) → find (λ x. is_eq (slice_cmp nat_cmp (text x) name)) xs ≡ find (λ x. bytes_eq (text x) name) xs
by_text text name [] = refl
by_text text name (x ∷ xs) = rw (is_eq-slice_cmp (text x) name) (ap (cond (bytes_eq (text x) name) (Some x)) (by_text text name xs))
