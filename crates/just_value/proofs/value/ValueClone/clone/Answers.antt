-- The copies have the same bytes.
use Rattle.std.proofs.Common.{◌≡◌, ◌∙◌, List, [], ◌∷◌, map, refl}
use Rattle.std.specs.List.{AllZip}
use Rattle.std.specs.Prelude.{String}
use Rattle.std.specs.String.{string_bytes}
use Rattle.std.specs.declared.alloc.Global.{Global}
use Rattle.just_value.proofs.value.ValueClone.clone.Goals as goal

same_bytes : (xs ys : List (String Global)) → AllZip (λ s t. string_bytes t ≡ string_bytes s) xs ys → map string_bytes ys ≡ map string_bytes xs
same_bytes [] [] zip = refl
same_bytes [] (y ∷ ys) zip = absurd zip
same_bytes (x ∷ xs) [] zip = absurd zip
same_bytes (x ∷ xs) (y ∷ ys) zip = let here : string_bytes y ≡ string_bytes x = zip.0 in let more : map string_bytes ys ≡ map string_bytes xs = same_bytes xs ys zip.1 in rw (here, more) refl

pub returns : goal.returns
returns c = record { cases = same_bytes c.self.inside.elements.items c.in_ok-elements.elements.items c.in_ok-elements.ensures.cases.0 ∙ c.self.view_is }
