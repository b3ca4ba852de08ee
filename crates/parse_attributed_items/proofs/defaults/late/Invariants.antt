-- What is told of the parameters that are left is what is told of all.
use Rattle.std.proofs.Common.{◌≡◌, List, drop}
use Rattle.tree_attributes.specs.Attributes.{OptionsShape}
use Rattle.tree_items.specs.Recipes.{parameter_shapes}
use Rattle.parse_expressions.specs.Literals.{Expansion}
use Rattle.parse_attributed_items.specs.Names.{AreOptions}
use Rattle.parse_attributed_items.specs.Rules.{late}
use Rattle.parse_attributed_items.proofs.Behind.{late_from}
use Rattle.parse_attributed_items.proofs.defaults.late.Given as goal

abbrev pub invariant-loop-parameter : goal.invariant-loop-parameter
invariant-loop-parameter l = (expansion : Expansion) (os : List OptionsShape) → AreOptions expansion os l.options
    → late_from expansion os l.is_behind_default (parameter_shapes (drop l.parameter-index l.parameters)) ≡ late expansion os (parameter_shapes l.parameters)
