-- It is put under its name, or has no rank.
use Rattle.std.proofs.lemmas.Result.{on_ok_weaker}
use Rattle.std.proofs.Common.{sym, ◌∙◌}
use Rattle.analyze_words.specs.declared.menu.Meaning.TheVariants.{Recipe}
use Rattle.justfile_analyzer.proofs.MenuRows.{gains_none, gains_same, name_put, ranked_row, unranked_row}
use Rattle.justfile_analyzer.proofs.names.put_recipe.Goals as goal

pub returns-in-Some : goal.returns-in-Some
returns-in-Some c = on_ok_weaker c.put.result
    (λ e. gains_same c.args.menu.now c.put.new.self (ranked_row c.args.compilation.now c.args.table.now c.args.place c.in-Some.rank c.name_text.result (sym c.in-Some.is ∙ c.rank_at.ensures) c.name_text.ensures)
    (name_put c.args.menu.now c.put.new.self c.name_text.result (Recipe c.in-Some.rank) e))
    c.put.ensures.put

pub returns-in-None : goal.returns-in-None
returns-in-None c = gains_none c.args.menu.now (unranked_row c.args.compilation.now c.args.table.now c.args.place (sym c.in-None.is ∙ c.rank_at.ensures))
