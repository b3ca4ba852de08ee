-- It is put under its name, or is not wanted.
use Rattle.std.proofs.Common.{None, Some, cond, sym, ap, ◌∙◌}
use Rattle.std.specs.Prelude.{bytes_eq}
use Rattle.std.proofs.lemmas.Result.{on_ok_weaker}
use Rattle.just_text.specs.Tokens.{lexeme}
use Rattle.analyze_words.specs.declared.menu.Meaning.TheVariants.{Recipe}
use Rattle.justfile_analyzer.specs.MenusOf.{has_name}
use Rattle.justfile_analyzer.proofs.MenuRows.{gains_none, gains_same, name_put, unwanted_row, wanted_row}
use Rattle.justfile_analyzer.proofs.names.put_alias.Goals as goal

pub returns-then-not-contains : goal.returns-then-not-contains
returns-then-not-contains c =
    let wanted = c.args.wanted.now in
    gains_none c.args.menu.now (λ name. unwanted_row wanted (lexeme c.args.alias.now.name.token) name (Some (Recipe c.args.alias.now.recipe)) (ap (has_name wanted) (sym c.lexeme-name.ensures) ∙ sym c.contains.ensures ∙ c.if-not-contains.true))

pub returns : goal.returns
returns c =
    let wanted = c.args.wanted.now in
    let m = Some (Recipe c.args.alias.now.recipe) in
    on_ok_weaker c.put.result
    (λ e. gains_same c.args.menu.now c.put.new.self (λ name. ap (λ t. cond (bytes_eq t name) m None) c.lexeme-name.ensures ∙ wanted_row wanted (lexeme c.args.alias.now.name.token) name m (ap (has_name wanted) (sym c.lexeme-name.ensures) ∙ sym c.contains.ensures ∙ c.if-not-contains.false))
    (name_put c.args.menu.now c.put.new.self c.lexeme-name.result (Recipe c.args.alias.now.recipe) e))
    c.put.ensures.put
