-- The recipes under the names so far are on the menu, where these are wanted.
use Rattle.std.proofs.Common.{take}
use Rattle.resolve_recipes.specs.Named.{IsByName}
use Rattle.justfile_analyzer.specs.MenuRows.{Gains}
use Rattle.justfile_analyzer.specs.MenusOf.{recipe_meant}
use Rattle.justfile_analyzer.proofs.MenuRows.{kept_meant}
use Rattle.justfile_analyzer.proofs.names.put_kept.Given as goal

abbrev pub invariant-loop-place : goal.invariant-loop-place
invariant-loop-place l = IsByName l.compilation l.node → Gains (kept_meant l.compilation l.wanted (take l.place-index l.node.recipes.items) (recipe_meant l.compilation l.table l.node)) l.initial.menu l.menu
