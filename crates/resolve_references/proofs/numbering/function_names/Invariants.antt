-- The parameters that are left hide those that were taken.
use Rattle.std.proofs.Common.{◌≡◌, ℕ, List, map, drop}
use Rattle.std.specs.Option.{option_or}
use Rattle.tree_items.specs.Contexts.{last_named, named_number, number_in}
use Rattle.resolve_references.proofs.numbering.function_names.Given as goal

abbrev pub invariant-loop-parameter : goal.invariant-loop-parameter
invariant-loop-parameter l = (name : List ℕ) → option_or (last_named name (map named_number (drop l.parameter-index l.parameters))) (number_in l.names name) ≡ last_named name (map named_number l.parameters)
