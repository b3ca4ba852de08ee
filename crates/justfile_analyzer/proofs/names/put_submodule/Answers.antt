-- It is put under its name, or has none.
use Rattle.std.proofs.Common.{None, Some, ap, cond, sym, ◌∙◌}
use Rattle.std.proofs.lemmas.Result.{on_ok_weaker}
use Rattle.analyze_words.specs.declared.menu.Meaning.TheVariants.{Submodule}
use Rattle.justfile_analyzer.proofs.MenuRows.{called_so, gains_none, gains_same, name_put, uncalled}
use Rattle.justfile_analyzer.proofs.names.put_submodule.Goals as goal

pub returns-in-Some : goal.returns-in-Some
returns-in-Some c = on_ok_weaker c.put.result
    (λ e. gains_same c.args.menu.now c.put.new.self (λ name. ap (λ b. cond b (Some (Submodule c.args.module)) None) (called_so _ c.in-Some.name c.lexeme.result (sym c.own_name.ensures ∙ c.in-Some.is) c.lexeme.ensures name))
    (name_put c.args.menu.now c.put.new.self c.lexeme.result (Submodule c.args.module) e))
    c.put.ensures.put

pub returns-in-None : goal.returns-in-None
returns-in-None c = gains_none c.args.menu.now (λ name. uncalled _ name (Some (Submodule c.args.module)) (sym c.own_name.ensures ∙ c.in-None.is))
