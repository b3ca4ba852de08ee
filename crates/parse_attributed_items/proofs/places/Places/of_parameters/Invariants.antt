-- The names that are left hide those that were taken.
use Rattle.std.proofs.Common.{◌≡◌, ℕ, List, drop}
use Rattle.std.specs.Option.{option_or}
use Rattle.tree_items.specs.Recipes.{parameter_shapes}
use Rattle.parse_attributed_items.specs.Places.{last_place, place_in}
use Rattle.parse_attributed_items.specs.Rules.{names_of}
use Rattle.parse_attributed_items.proofs.places.Places.of_parameters.Given as goal

abbrev pub invariant-loop-place : goal.invariant-loop-place
invariant-loop-place l = (name : List ℕ) → option_or (last_place name l.place (names_of (parameter_shapes (drop l.place l.parameters)))) (place_in l.places name) ≡ last_place name 0 (names_of (parameter_shapes l.parameters))
