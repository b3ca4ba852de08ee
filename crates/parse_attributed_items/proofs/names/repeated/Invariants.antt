-- Whether the names that are left are new is whether all are.
use Rattle.std.proofs.Common.{◌≡◌, ℕ, List, [], drop, map}
use Rattle.std.specs.List.{All}
use Rattle.tree_attributes.specs.Attributes.{options_shape}
use Rattle.parse_expressions.specs.Literals.{Origin}
use Rattle.parse_attributes.specs.Cooked.{AreCookedOptions}
use Rattle.parse_recipes.specs.Seen.{HasNames}
use Rattle.parse_attributed_items.specs.Names.{are_new, name_of}
use Rattle.parse_attributed_items.proofs.names.repeated.Given as goal

abbrev pub invariant-loop-options : goal.invariant-loop-options
invariant-loop-options l = (origin : Origin) → All (AreCookedOptions origin) l.fn.options
    → (before : List (List ℕ)) × HasNames l.names before × (are_new (name_of origin.expansion l.kind) before (map options_shape (drop l.options-index l.fn.options)) ≡ are_new (name_of origin.expansion l.kind) [] (map options_shape l.fn.options))
