-- The earliest of places that count.
use Rattle.std.proofs.Common.{◌≡◌, Bool, true, false, cond, List, [], ◌∷◌, Option, refl}
use Rattle.modules_compilation.specs.declared.place.Place.{Place}
use Rattle.resolve_recipes.specs.Defaults.{earlier, earliest_from}

pub one_on : (counts : Bool) (found : Option Place) (place : Place) (places : List Place) → earliest_from found (cond counts (place ∷ places) places) ≡ earliest_from (cond counts (earlier found place) found) places
one_on true found place places = refl
one_on false found place places = refl
