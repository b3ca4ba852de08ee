-- With the names that are still to come the names so far are all.
use Rattle.std.proofs.Common.{◌≡◌, ◌++◌, ◌-◌, length, slice_get}
use Rattle.modules_compilation.specs.Modulepaths as spec
use Rattle.modules_compilation.proofs.modulepath.names_up.Given as goal

abbrev pub invariant-loop : goal.invariant-loop
invariant-loop l = l.components.items ++ spec.names_up l.modules (spec.node_at l.modules l.next) (length l.modules - l.counter) ≡ spec.names_up l.modules (slice_get l.modules l.«module») (length l.modules)
