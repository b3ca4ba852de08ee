-- The characters of a text, each as a text.
use Rattle.std.proofs.Common.{ℕ, List, [], ◌∷◌, ◌++◌, ◌≡◌, map, refl, ap}
use Rattle.std.specs.Str.{encode_utf8_all}

pub one_more : (cs : List ℕ) (c : ℕ) → map (λ c. encode_utf8_all (c ∷ [])) (cs ++ c ∷ []) ≡ map (λ c. encode_utf8_all (c ∷ [])) cs ++ encode_utf8_all (c ∷ []) ∷ []
one_more [] c = refl
one_more (d ∷ cs) c = ap (λ more. encode_utf8_all (d ∷ []) ∷ more) (one_more cs c)
