-- The modules before the place have their orders.
use Rattle.std.proofs.Common.{◌≡◌, length}
use Rattle.just_resolve.specs.Variables.{AreEach, IsOrderAt}
use Rattle.just_resolve.proofs.module_variables.all_orders.Given as goal

abbrev pub invariant-loop-module : goal.invariant-loop-module
invariant-loop-module l = length l.reads ≡ length l.lists → AreEach l.module (IsOrderAt l.lists l.reads) l.orders.items
