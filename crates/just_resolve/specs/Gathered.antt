-- Results of the elements of a list, in order, up to the first that is refused.
use Rattle.std.specs.Prelude.{◌++◌, List, [], ◌∷◌, Result, Ok, Err}

-- some before others, unless those are refused
abbrev pub all_before : {A E : Type 0} → List A → Result (List A) E → Result (List A) E
all_before some (Ok others) = Ok (some ++ others)
all_before some (Err fault) = Err fault

abbrev pub one_before : {A E : Type 0} → Result A E → Result (List A) E → Result (List A) E
one_before (Ok one) others = all_before (one ∷ []) others
one_before (Err fault) others = Err fault

-- what each element comes to, or the fault of the first that is refused
abbrev pub gathered : {X A E : Type 0} → (X → Result A E) → List X → Result (List A) E
gathered of [] = Ok []
gathered of (x ∷ xs) = one_before (of x) (gathered of xs)
