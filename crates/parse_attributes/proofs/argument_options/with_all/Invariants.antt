-- The options that were added, and those that are still to be added.
use Rattle.std.proofs.Common.{◌≡◌, length, map}
use Rattle.std.specs.List.{All}
use Rattle.std.specs.Vec.Iter.{into_iter_items, into_iter_len}
use Rattle.tree_attributes.specs.Attributes.{options_shape}
use Rattle.tree_expressions.specs.Shape.{written}
use Rattle.parse_expressions.specs.Literals.{Origin}
use Rattle.parse_expressions.specs.Strings.{IsCookedString}
use Rattle.parse_attributes.specs.Cooked.{AreCookedOptions}
use Rattle.parse_attributes.specs.Held.{IsCookedGiven, given_shape}
use Rattle.parse_attributes.specs.Options.{with_all, without_options}
use Rattle.parse_attributes.proofs.argument_options.with_all.Given as goal

abbrev pub invariant-loop-option : goal.invariant-loop-option
invariant-loop-option l = record {
  can : (goal.iterator-loop-option).can_next l.option-iterator;
  finite : (goal.iterator-loop-option).is_finite l.option-iterator;
  count : into_iter_len l.option-iterator ≡ length (into_iter_items l.option-iterator);
  so_far : (origin : Origin) → All (IsCookedGiven origin) l.fn.given.items
      → with_all origin.expansion (options_shape l.options) (map given_shape (into_iter_items l.option-iterator)) ≡ with_all origin.expansion (without_options (written l.fn.name)) (map given_shape l.fn.given.items);
  these : (origin : Origin) → IsCookedString origin.expansion l.fn.name → All (IsCookedGiven origin) l.fn.given.items → AreCookedOptions origin l.options;
  others : (origin : Origin) → All (IsCookedGiven origin) l.fn.given.items → All (IsCookedGiven origin) (into_iter_items l.option-iterator);
}
