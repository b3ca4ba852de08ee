-- Where a list is not refused, none of its elements is.
use Rattle.std.proofs.Common.{◌≡◌, ◌∙◌, ◌+◌, ◌<◌, ◌++◌, ℕ, List, [], ◌∷◌, Option, Some, None, Result, Ok, Err, inl, inr, flat_map, refl, sym, ap, arith}
use Rattle.std.specs.Prelude.{Contains}
use Rattle.std.specs.List.{range_with_len}
use Rattle.std.specs.Option.{option_or}
use Rattle.std.proofs.lemmas.List.FromFn.{get_or-range_with_len, length-range_with_len}
use Rattle.std.proofs.lemmas.Option.{none-some}
use Rattle.resolve_references.specs.Places.{places_before, places_of}
use Rattle.resolve_references.specs.declared.read_fault.ReadFault.{ReadFault}
use Rattle.resolve_references.specs.declared.references.Reference.{Reference}
use Rattle.resolve_references.specs.declared.variable_resolver.VariableResolver.{VariableResolver}
use Rattle.meaning_rules.proofs.Worlds.Places.{contains_cases, contains_none}
use Rattle.just_resolve.specs.Gathered.{all_before, gathered, one_before}
use Rattle.just_resolve.specs.Table.{first_of}
use Rattle.just_resolve.proofs.Reading.{both_read, first_refused}

-- a number is among the first ones
pub range_there : (n k : ℕ) → k < n → Contains (range_with_len 0 n) k
range_there n k lt =
    let many = length-range_with_len 0 n in
    let same : 0 + k ≡ k = omega arith in
    (k, omega (arith, lt, many), get_or-range_with_len 0 n k k lt ∙ same)

module _ {X A E : Type 0} (of : X → Result A E) where
  others_gathered : (a : A) (others : Result (List A) E) (all : List A) → all_before (a ∷ []) others ≡ Ok all → (rest : List A) × (others ≡ Ok rest)
  others_gathered a (Ok rest) all e = (rest, refl)
  others_gathered a (Err fault) all e = absurd (cc e)

  -- where all results are gathered, each element has one
  pub each_gathered : (xs : List X) (all : List A) → gathered of xs ≡ Ok all → (x : X) → Contains xs x → (a : A) × (of x ≡ Ok a)
  each_gathered [] all e x h = absurd (contains_none [] x refl h)
  each_gathered (first ∷ xs) all e x h = by_result (of first) refl e (λ rest so later. each_gathered xs rest so x later)
    where
      by_result : (r : Result A E) → of first ≡ r → one_before r (gathered of xs) ≡ Ok all → ((rest : List A) → gathered of xs ≡ Ok rest → Contains xs x → (a : A) × (of x ≡ Ok a)) → (a : A) × (of x ≡ Ok a)
      by_result (Ok a) is so behind = elim (contains_cases first xs x h) [
        | inl same ↦ (a, ap of (sym same) ∙ is)
        | inr later ↦ let more = others_gathered a (gathered of xs) all so in behind more.0 more.1 later
      ]
      by_result (Err fault) is so behind = absurd (cc so)

module _ {X Y : Type 0} (of : X → Option Y) where
  -- where there is no first answer, no element has one
  pub none_answers : (xs : List X) → first_of of xs ≡ None → (x : X) → Contains xs x → of x ≡ None
  none_answers [] e x h = absurd (contains_none [] x refl h)
  none_answers (first ∷ xs) e x h = by_answer (of first) refl e (λ so later. none_answers xs so x later)
    where
      by_answer : (o : Option Y) → of first ≡ o → option_or o (first_of of xs) ≡ None → (first_of of xs ≡ None → Contains xs x → of x ≡ None) → of x ≡ None
      by_answer (Some y) is so behind = absurd (none-some y (sym so))
      by_answer None is so behind = elim (contains_cases first xs x h) [
        | inl same ↦ ap of (sym same) ∙ is
        | inr later ↦ behind so later
      ]

module _ (resolver : VariableResolver) where
  rest_read : (some row : List ℕ) (others : Result (List ℕ) ReadFault) → places_before some others ≡ Ok row → (rest : List ℕ) × (others ≡ Ok rest)
  rest_read some row (Ok rest) e = (rest, refl)
  rest_read some row (Err fault) e = absurd (cc e)

  -- where references one after another have places, the first have, and the others too
  parts_read : (xs ys : List Reference) (row : List ℕ) → places_of resolver (xs ++ ys) ≡ Ok row → ((some : List ℕ) × (places_of resolver xs ≡ Ok some)) × ((rest : List ℕ) × (places_of resolver ys ≡ Ok rest))
  parts_read xs ys row e = by_result (places_of resolver xs) refl
    where
      by_result : (r : Result (List ℕ) ReadFault) → places_of resolver xs ≡ r → ((some : List ℕ) × (places_of resolver xs ≡ Ok some)) × ((rest : List ℕ) × (places_of resolver ys ≡ Ok rest))
      by_result (Ok some) is = ((some, is), rest_read some row (places_of resolver ys) (sym (both_read resolver xs ys some is) ∙ e))
      by_result (Err fault) is = absurd (let f : Err fault ≡ Ok row = sym (first_refused resolver xs ys fault is) ∙ e in cc f)

  -- where the references of all have places, those of each have
  pub each_read : {X : Type 0} (of : X → List Reference) (xs : List X) (row : List ℕ) → places_of resolver (flat_map of xs) ≡ Ok row → (x : X) → Contains xs x → (places : List ℕ) × (places_of resolver (of x) ≡ Ok places)
  each_read of [] row e x h = absurd (contains_none [] x refl h)
  each_read of (first ∷ xs) row e x h =
      let parts = parts_read (of first) (flat_map of xs) row e in
      elim (contains_cases first xs x h) [
        | inl same ↦ (parts.0.0, ap (λ y. places_of resolver (of y)) (sym same) ∙ parts.0.1)
        | inr later ↦ each_read of xs parts.1.0 parts.1.1 x later
      ]
