-- Aliases take the place of recipes.
use Rattle.std.proofs.lemmas.Result.{on_ok_weaker}
use Rattle.justfile_analyzer.specs.MenusOf.{alias_meant, aliases_at, has_name, recipe_meant}
use Rattle.justfile_analyzer.proofs.MenuRows.{either_row, gains_then}
use Rattle.justfile_analyzer.proofs.names.put_called.Goals as goal

pub returns : goal.returns
returns c =
    let wanted = c.args.wanted.now in
    let table = c.args.table.now in
    on_ok_weaker c.put_aliases_of.result
    (λ e by_name. gains_then c.args.menu.now c.put_recipes.new.menu c.put_aliases_of.new.menu (λ name. either_row (has_name wanted name) (alias_meant (aliases_at table c.args.module) name) (recipe_meant c.args.compilation.now table c.args.node.now name)) (c.in_ok-put_recipes.ensures by_name) e)
    c.put_aliases_of.ensures
