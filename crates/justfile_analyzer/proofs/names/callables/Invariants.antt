-- The recipes so far.
use Rattle.std.proofs.Common.{take}
use Rattle.justfile_analyzer.specs.MenuRows.{AreCallables}
use Rattle.justfile_analyzer.proofs.names.callables.Given as goal

abbrev pub invariant-loop-place : goal.invariant-loop-place
invariant-loop-place l = AreCallables l.compilation l.named (take l.place-counter l.recipes) l.all.items
