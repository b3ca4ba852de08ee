-- The recipe that was found is put, or there is none.
use Rattle.std.proofs.lemmas.Result.{on_ok_weaker}
use Rattle.std.proofs.Common.{sym, ◌∙◌}
use Rattle.justfile_analyzer.proofs.MenuRows.{gains_none, gains_same, named_row, unnamed_row}
use Rattle.justfile_analyzer.proofs.names.put_named.Goals as goal

pub returns-in-Some : goal.returns-in-Some
returns-in-Some c = on_ok_weaker c.put_recipe.result
    (λ e by_name. gains_same c.args.menu.now c.put_recipe.new.menu (named_row c.args.compilation.now c.args.table.now c.args.node.now c.args.name.now c.in-Some.place (sym c.in-Some.is ∙ c.find_recipe.ensures.found by_name)) e)
    c.put_recipe.ensures

pub returns-in-None : goal.returns-in-None
returns-in-None c = λ by_name. gains_none c.args.menu.now (unnamed_row c.args.compilation.now c.args.table.now c.args.node.now c.args.name.now (sym c.in-None.is ∙ c.find_recipe.ensures.found by_name))
