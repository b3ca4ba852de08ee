-- The recipes that the menus so far name are there.
use Rattle.std.proofs.Common.{take}
use Rattle.justfile_analyzer.specs.MenuRows.{AreNamedBy}
use Rattle.justfile_analyzer.proofs.names.named_recipes.Given as goal

abbrev pub invariant-loop-module : goal.invariant-loop-module
invariant-loop-module l = AreNamedBy (take l.module-index l.modules) l.places
