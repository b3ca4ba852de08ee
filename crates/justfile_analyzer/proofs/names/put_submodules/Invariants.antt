-- The submodules so far are on the menu.
use Rattle.std.proofs.Common.{take}
use Rattle.justfile_analyzer.specs.MenusOf.{submodule_meant}
use Rattle.justfile_analyzer.specs.MenuRows.{Gains}
use Rattle.justfile_analyzer.proofs.names.put_submodules.Given as goal

abbrev pub invariant-loop-module : goal.invariant-loop-module
invariant-loop-module l = Gains (submodule_meant l.modules (take l.module-index l.submodules)) l.initial.menu l.menu
