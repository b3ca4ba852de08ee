-- What is left has the same features as all.
use Rattle.std.proofs.Common.{◌≡◌, drop}
use Rattle.std.specs.List.{flat_map}
use Rattle.just_modules.specs.Lists.{in_dependency}
use Rattle.just_modules.proofs.lists.in_dependencies.Given as goal

abbrev pub invariant-loop-dependency : goal.invariant-loop-dependency
invariant-loop-dependency l = flat_map in_dependency l.dependencies ≡ flat_map in_dependency (drop l.dependency-index l.dependencies)
