-- The names that were added and those that are left are all.
use Rattle.std.proofs.Common.{◌≡◌, ◌||◌, ℕ, List, drop, map}
use Rattle.std.specs.List.{All}
use Rattle.tree_attributes.specs.Attributes.{options_shape}
use Rattle.parse_expressions.specs.Literals.{Origin}
use Rattle.parse_attributes.specs.Cooked.{AreCookedOptions}
use Rattle.parse_recipes.specs.Seen.{has_name}
use Rattle.parse_attributed_items.specs.Rules.{is_option}
use Rattle.parse_attributed_items.proofs.defaults.option_names.Given as goal

abbrev pub invariant-loop-options : goal.invariant-loop-options
invariant-loop-options l = (origin : Origin) → All (AreCookedOptions origin) l.fn.options → (name : List ℕ)
    → (has_name l.names name || is_option origin.expansion (map options_shape (drop l.options-index l.fn.options)) name) ≡ is_option origin.expansion (map options_shape l.fn.options) name
