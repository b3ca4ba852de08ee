-- What `join` makes of the elements of a value.
use Rattle.std.proofs.Common.{◌≡◌, ℕ, List, [], ◌∷◌, ◌++◌, map, refl, ap, sym}
use Rattle.std.proofs.lemmas.List.Folds.{flat_map-map}
use Rattle.std.specs.List.{join_by}
use Rattle.std.specs.Prelude.{String}
use Rattle.std.specs.String.{string_bytes}
use Rattle.std.specs.declared.alloc.Global.{Global}
use Rattle.evaluate_functions.specs.Functions.{joined_by}

pub joined_elements : (separator : List ℕ) (texts : List (String Global)) → join_by string_bytes separator texts ≡ joined_by separator (map string_bytes texts)
joined_elements separator [] = refl
joined_elements separator (text ∷ texts) = ap (λ more. string_bytes text ++ more) (sym (flat_map-map (λ more. separator ++ more) string_bytes texts))
