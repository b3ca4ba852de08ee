-- What is left has the same features as all.
use Rattle.std.proofs.Common.{◌≡◌, drop}
use Rattle.std.specs.List.{flat_map}
use Rattle.just_modules.specs.Lists.{in_parameter}
use Rattle.just_modules.proofs.lists.in_parameters.Given as goal

abbrev pub invariant-loop-parameter : goal.invariant-loop-parameter
invariant-loop-parameter l = flat_map in_parameter l.parameters ≡ flat_map in_parameter (drop l.parameter-index l.parameters)
