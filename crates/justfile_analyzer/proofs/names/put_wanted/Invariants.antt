-- The recipes under the names so far are on the menu.
use Rattle.std.proofs.Common.{map}
use Rattle.resolve_recipes.specs.Named.{IsByName}
use Rattle.justfile_analyzer.specs.MenusOf.{recipe_meant}
use Rattle.justfile_analyzer.proofs.MenuRows.{ArePutOf}
use Rattle.justfile_analyzer.proofs.names.put_wanted.Given as goal

abbrev pub invariant-loop-name : goal.invariant-loop-name
invariant-loop-name l = IsByName l.compilation l.node → ArePutOf (recipe_meant l.compilation l.table l.node) l.initial.menu l.menu (map (λ k. k.now) l.yielded) l.name-iterator l.wanted.keys
