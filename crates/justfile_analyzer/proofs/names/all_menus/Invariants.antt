-- The menus of the modules so far.
use Rattle.std.proofs.Common.{take}
use Rattle.resolve_recipes.specs.Named.{AllByName}
use Rattle.justfile_analyzer.specs.MenusOf.{has_name}
use Rattle.justfile_analyzer.specs.MenuRows.{AreMenus}
use Rattle.justfile_analyzer.proofs.names.all_menus.Given as goal

abbrev pub invariant-loop-module : goal.invariant-loop-module
invariant-loop-module l = AllByName l.compilation → AreMenus l.compilation l.table (has_name l.wanted) (take l.module l.compilation.modules.items) l.all.items
