-- The own frame, and the outer ones so far.
use Rattle.std.proofs.Common.{◌≡◌, ◌++◌, take}
use Rattle.just_value.proofs.scope.Scope.child.Given as goal

abbrev pub invariant-loop-frame : goal.invariant-loop-frame
invariant-loop-frame l = l.outer.items ≡ l.initial.outer.items ++ take l.frame-index l.frame-items
