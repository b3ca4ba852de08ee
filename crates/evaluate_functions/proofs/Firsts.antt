-- The first of some texts.
use Rattle.std.proofs.Common.{List, [], ◌∷◌, ◌≡◌, map, Some, None, refl, ap}
use Rattle.std.specs.List.{slice_get}
use Rattle.std.specs.Option.{unwrap_or}
use Rattle.std.specs.Prelude.{String}
use Rattle.std.specs.String.{string_bytes}
use Rattle.std.specs.declared.alloc.Global.{Global}
use Rattle.evaluate_functions.specs.Functions.{first_text}

pub first_there : (texts : List (String Global)) (text : String Global) → slice_get texts 0 ≡ Some text → first_text (map string_bytes texts) ≡ string_bytes text
first_there [] text e = absurd (cc)
first_there (other ∷ texts) text e = ap (λ o. string_bytes (unwrap_or o text)) e

pub first_missing : (texts : List (String Global)) → slice_get texts 0 ≡ None → first_text (map string_bytes texts) ≡ []
first_missing [] e = refl
first_missing (text ∷ texts) e = absurd (cc)
