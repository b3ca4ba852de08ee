-- Whether those that are left name parameters is whether all do.
use Rattle.std.proofs.Common.{◌≡◌, ℕ, List, drop, map}
use Rattle.std.specs.List.{All}
use Rattle.tree_attributes.specs.Attributes.{options_shape}
use Rattle.parse_expressions.specs.Literals.{Origin}
use Rattle.parse_attributes.specs.Cooked.{AreCookedOptions}
use Rattle.parse_attributed_items.specs.Places.{HasPlaces}
use Rattle.parse_attributed_items.specs.Rules.{name_parameters}
use Rattle.parse_attributed_items.proofs.places.Places.unknown.Given as goal

abbrev pub invariant-loop-options : goal.invariant-loop-options
invariant-loop-options l = (origin : Origin) → All (AreCookedOptions origin) l.fn.options → (names : List (List ℕ)) → HasPlaces l.self names
    → name_parameters origin.expansion names (map options_shape (drop l.options-index l.fn.options)) ≡ name_parameters origin.expansion names (map options_shape l.fn.options)
