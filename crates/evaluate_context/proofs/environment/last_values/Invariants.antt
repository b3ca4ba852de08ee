-- The values so far, and after them those of the pairs that are left, are those of all.
use Rattle.std.proofs.Common.{◌≡◌, ℕ, List}
use Rattle.std.specs.BTreeMap.{get}
use Rattle.std.specs.Cmp.Lexicographic.{slice_cmp}
use Rattle.std.specs.Option.{option_or}
use Rattle.std.specs.Ordering.{nat_cmp}
use Rattle.evaluate_context.specs.Environment as spec
use Rattle.evaluate_context.proofs.environment.last_values.Given as goal

abbrev pub invariant-loop-pair : goal.invariant-loop-pair
invariant-loop-pair l = (name : List ℕ) → option_or (spec.last_of name l.pair-iterator.rest.items) (get (slice_cmp nat_cmp) l.values name) ≡ spec.last_of name l.fn.pairs
