-- What is left has the same features as all.
use Rattle.std.proofs.Common.{◌≡◌, drop}
use Rattle.std.specs.List.{flat_map}
use Rattle.just_modules.specs.Lists.{in_argument}
use Rattle.just_modules.proofs.lists.in_arguments.Given as goal

abbrev pub invariant-loop-argument : goal.invariant-loop-argument
invariant-loop-argument l = flat_map in_argument l.arguments ≡ flat_map in_argument (drop l.argument-index l.arguments)
