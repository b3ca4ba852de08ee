-- What is left has the same features as all.
use Rattle.std.proofs.Common.{◌≡◌, drop}
use Rattle.std.specs.List.{flat_map}
use Rattle.just_modules.specs.Lists.{in_fragment}
use Rattle.just_modules.proofs.lists.in_fragments.Given as goal

abbrev pub invariant-loop-fragment : goal.invariant-loop-fragment
invariant-loop-fragment l = flat_map in_fragment l.fragments ≡ flat_map in_fragment (drop l.fragment-index l.fragments)
