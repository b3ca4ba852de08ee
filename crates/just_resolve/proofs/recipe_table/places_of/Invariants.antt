-- With the recipes to come each item has its last place among all.
use Rattle.std.proofs.Common.{◌≡◌, drop, map}
use Rattle.std.specs.Option.{option_or}
use Rattle.modules_compilation.specs.declared.place.Place.{Place}
use Rattle.resolve_recipes.specs.Standing.{last_place, place_in}
use Rattle.just_resolve.proofs.recipe_table.places_of.Given as goal

abbrev pub invariant-loop-place : goal.invariant-loop-place
invariant-loop-place l =
    (item : Place) → option_or (last_place l.place (map (λ recipe. recipe.place) (drop l.place l.recipes)) item) (place_in l.places item) ≡ last_place 0 (map (λ recipe. recipe.place) l.recipes) item
