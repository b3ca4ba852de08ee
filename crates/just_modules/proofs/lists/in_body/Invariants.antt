-- What is left has the same features as all.
use Rattle.std.proofs.Common.{◌≡◌, drop}
use Rattle.std.specs.List.{flat_map}
use Rattle.just_modules.specs.Lists.{in_line}
use Rattle.just_modules.proofs.lists.in_body.Given as goal

abbrev pub invariant-loop-line : goal.invariant-loop-line
invariant-loop-line l = flat_map in_line l.body ≡ flat_map in_line (drop l.line-index l.body)
