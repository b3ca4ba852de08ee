-- A test of the shapes of a list is a test of its elements by their shapes.
use Rattle.std.proofs.Common.{◌≡◌, Bool, ◌||◌, List, [], ◌∷◌, map, refl, ap}
use Rattle.std.specs.List.{list_any}

pub any_shape : {X Y : Type 0} (shape : X → Y) (test : Y → Bool) (xs : List X) → list_any test (map shape xs) ≡ list_any (λ x. test (shape x)) xs
any_shape shape test [] = refl
any_shape shape test (x ∷ xs) = ap (λ (others : Bool). test (shape x) || others) (any_shape shape test xs)
