-- What settings read, one after the other.
use Rattle.std.proofs.Common.{◌≡◌, ◌∙◌, ℕ, List, [], ◌∷◌, ◌++◌, append_assoc, flat_map, Option, Some, None, Result, Ok, Err, refl, sym, ap}
use Rattle.tree_items.specs.declared.set.Set.{Set}
use Rattle.resolve_references.specs.ItemReferences.{references_of_set}
use Rattle.resolve_references.specs.Places.{place_before, place_of, places_before, places_of}
use Rattle.resolve_references.specs.declared.read_fault.ReadFault.{ReadFault}
use Rattle.resolve_references.specs.declared.references.Reference.{Reference}
use Rattle.resolve_references.specs.declared.variable_resolver.VariableResolver.{VariableResolver}

nothing_before : (others : Result (List ℕ) ReadFault) → places_before [] others ≡ others
nothing_before (Ok others) = refl
nothing_before (Err fault) = refl

both_before : (some more : List ℕ) (others : Result (List ℕ) ReadFault) → places_before (some ++ more) others ≡ places_before some (places_before more others)
both_before some more (Ok others) = ap Ok (append_assoc some more others)
both_before some more (Err fault) = refl

read_case : (r : Result (Option ℕ) ReadFault) (one both two : Result (List ℕ) ReadFault) (row : List ℕ) → ((found : List ℕ) → one ≡ Ok found → both ≡ places_before found two) → place_before r one ≡ Ok row → place_before r both ≡ places_before row two
read_case (Ok (Some place)) (Ok found) both two row more e =
    let same : place ∷ found ≡ row = cc e in
    ap (places_before (place ∷ [])) (more found refl) ∙ sym (both_before (place ∷ []) found two) ∙ ap (λ ps. places_before ps two) same
read_case (Ok (Some place)) (Err fault) both two row more e = absurd (cc e)
read_case (Ok None) one both two row more e = more row e
read_case (Err fault) one both two row more e = absurd (cc e)

fault_case : (r : Result (Option ℕ) ReadFault) (one both : Result (List ℕ) ReadFault) (fault : ReadFault) → (one ≡ Err fault → both ≡ Err fault) → place_before r one ≡ Err fault → place_before r both ≡ Err fault
fault_case (Ok (Some place)) (Ok found) both fault more e = absurd (cc e)
fault_case (Ok (Some place)) (Err other) both fault more e = ap (places_before (place ∷ [])) (more e)
fault_case (Ok None) one both fault more e = more e
fault_case (Err other) one both fault more e = e

module _ (resolver : VariableResolver) where
  -- the places of the first, and behind them those of the others
  pub both_read : (xs ys : List Reference) (row : List ℕ) → places_of resolver xs ≡ Ok row → places_of resolver (xs ++ ys) ≡ places_before row (places_of resolver ys)
  both_read [] ys row e =
      let same : [] ≡ row = cc e in
      sym (nothing_before (places_of resolver ys)) ∙ ap (λ ps. places_before ps (places_of resolver ys)) same
  both_read (x ∷ xs) ys row e = read_case (place_of resolver x) (places_of resolver xs) (places_of resolver (xs ++ ys)) (places_of resolver ys) row (λ found is. both_read xs ys found is) e

  -- a refusal among the first is that of all
  pub first_refused : (xs ys : List Reference) (fault : ReadFault) → places_of resolver xs ≡ Err fault → places_of resolver (xs ++ ys) ≡ Err fault
  first_refused [] ys fault e = absurd (cc e)
  first_refused (x ∷ xs) ys fault e = fault_case (place_of resolver x) (places_of resolver xs) (places_of resolver (xs ++ ys)) fault (first_refused xs ys fault) e

  module _ (set : Set) (left rest : List Set) (next : left ≡ set ∷ rest) where
    -- a setting more
    pub set_goes : (row some : List ℕ) → places_of resolver (references_of_set set) ≡ Ok row
        → places_before (some ++ row) (places_of resolver (flat_map references_of_set rest)) ≡ places_before some (places_of resolver (flat_map references_of_set left))
    set_goes row some is =
        both_before some row (places_of resolver (flat_map references_of_set rest))
        ∙ ap (places_before some) (sym (both_read (references_of_set set) (flat_map references_of_set rest) row is))
        ∙ ap (λ ss. places_before some (places_of resolver (flat_map references_of_set ss))) (sym next)

    -- the first that is refused
    pub set_stops : (some : List ℕ) (all : Result (List ℕ) ReadFault) (fault : ReadFault) → places_of resolver (references_of_set set) ≡ Err fault
        → places_before some (places_of resolver (flat_map references_of_set left)) ≡ all → all ≡ Err fault
    set_stops some all fault is so =
        sym so
        ∙ ap (λ ss. places_before some (places_of resolver (flat_map references_of_set ss))) next
        ∙ ap (places_before some) (first_refused (references_of_set set) (flat_map references_of_set rest) fault is)
