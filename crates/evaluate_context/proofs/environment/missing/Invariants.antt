-- The names so far that have no value.
use Rattle.std.proofs.Common.{◌≡◌, filter, is_some, not, take}
use Rattle.std.specs.BTreeMap.{get}
use Rattle.std.specs.Cmp.Lexicographic.{slice_cmp}
use Rattle.std.specs.Ordering.{nat_cmp}
use Rattle.evaluate_context.specs.Environment as spec
use Rattle.evaluate_context.proofs.environment.missing.Given as goal

abbrev pub invariant-loop-name : goal.invariant-loop-name
invariant-loop-name l = l.found ≡ filter (λ name. not (is_some (get (slice_cmp nat_cmp) l.values name))) (spec.texts (take l.name-index l.names))
