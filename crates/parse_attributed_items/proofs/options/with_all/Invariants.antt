-- The options that were given, and those that are left.
use Rattle.std.proofs.Common.{◌≡◌, ◌++◌, List, map, true}
use Rattle.std.specs.List.{All}
use Rattle.std.specs.Vec.{vec_len}
use Rattle.tree_attributes.specs.declared.attribute.ArgumentOptions.{ArgumentOptions}
use Rattle.tree_attributes.specs.Attributes.{options_shape}
use Rattle.tree_items.specs.Recipes.{parameter_shapes}
use Rattle.parse_expressions.specs.Literals.{Origin}
use Rattle.parse_attributes.specs.Cooked.{AreCookedOptions}
use Rattle.parse_recipes.specs.Plain.{ArePlain}
use Rattle.parse_attributed_items.specs.Options.{AreValuesCooked, HaveOptions, bare_all}
use Rattle.parse_attributed_items.specs.Places.{HasPlaces}
use Rattle.parse_attributed_items.specs.Rules.{are_distinct, names_of}
use Rattle.parse_attributed_items.specs.Whole.{AreWholeOptions}
use Rattle.parse_attributed_items.proofs.options.with_all.Given as goal

abbrev pub invariant-loop-last : goal.invariant-loop-last
invariant-loop-last l = record {
  given : List ArgumentOptions;
  all : l.options.items ++ given ≡ l.fn.options.items;
  kept : bare_all l.parameters.items ≡ bare_all l.fn.parameters.items;
  so_far : (origin : Origin) → All (AreCookedOptions origin) l.fn.options.items → All (AreWholeOptions origin.expansion) (map options_shape l.fn.options.items) → ArePlain l.fn.parameters.items
      → HasPlaces l.places (names_of (parameter_shapes l.fn.parameters.items)) → are_distinct (names_of (parameter_shapes l.fn.parameters.items)) ≡ true → HaveOptions origin.expansion (map options_shape given) l.parameters.items;
  cooked : (origin : Origin) → All (AreCookedOptions origin) l.fn.options.items → ArePlain l.fn.parameters.items → AreValuesCooked origin l.parameters.items;
}

abbrev pub decreases-loop-last : goal.decreases-loop-last
decreases-loop-last l = vec_len l.options
