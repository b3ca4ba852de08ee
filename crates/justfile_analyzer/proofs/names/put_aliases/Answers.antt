-- An alias more.
use Rattle.std.proofs.Common.{None, cond, subst}
use Rattle.std.specs.Prelude.{bytes_eq}
use Rattle.std.proofs.lemmas.List.{take_all}
use Rattle.just_text.specs.Tokens.{lexeme}
use Rattle.analyze_words.specs.declared.menu.Meaning.TheVariants.{Recipe}
use Rattle.justfile_analyzer.specs.MenusOf.{alias_meant, has_name}
use Rattle.justfile_analyzer.specs.MenuRows.{Gains}
use Rattle.justfile_analyzer.proofs.MenuRows.{gains_none, gains_then, last_more_if, never}
use Rattle.justfile_analyzer.proofs.names.put_aliases.Goals as goal

pub loop-alias-init : goal.loop-alias-init
loop-alias-init c = gains_none c.args.menu.now (λ name. never (has_name c.args.wanted.now name))

pub loop-alias-preserved : goal.loop-alias-preserved
loop-alias-preserved c =
    let wanted = c.args.wanted.now in
    gains_then c.args.menu.now c.loop-alias.menu c.put_alias.new.menu (λ name. last_more_if (has_name wanted name) (λ alias. bytes_eq (lexeme alias.name.token) name) (λ alias. Recipe alias.recipe) c.args.aliases.now c.loop-alias.alias-index c.alias-item.result c.alias-item.result c.loop-alias-test.true c.alias-item.is)
    c.loop-alias.invariant c.in_ok-put_alias.ensures

pub returns : goal.returns
returns c = subst (λ row. Gains (λ name. cond (has_name c.args.wanted.now name) (alias_meant row name) None) c.args.menu.now c.loop-alias.menu) (take_all c.loop-alias.alias-index c.args.aliases.now c.loop-alias-test.false) c.loop-alias.invariant
