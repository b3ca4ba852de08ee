-- The names that are left hide those that were taken.
use Rattle.std.proofs.Common.{◌≡◌, ℕ, List, map, drop}
use Rattle.std.specs.Option.{option_or}
use Rattle.tree_items.specs.Contexts.{last_named, named_number, number_in}
use Rattle.tree_items.proofs.variables.context.ExpressionContext.from_names.Given as goal

abbrev pub invariant-loop-name : goal.invariant-loop-name
invariant-loop-name l = (name : List ℕ) → option_or (last_named name (map named_number (drop l.name-index l.names))) (number_in l.context name) ≡ last_named name (map named_number l.names)
