use Rattle.std.proofs.Common.{◌≡◌, rules, sym, ◌∙◌}
use Rattle.std.proofs.lemmas.Result.{err_from_is_err_and}
use Rattle.meaning_dialogues.proofs.Dialogues.{not_begun}
use Rattle.justfile_evaluator.proofs.Scripts.{words_named, words_default}
use Rattle.justfile_evaluator.specs.Scripts.{words_of}
use Rattle.justfile_evaluator.proofs.script.interpreter.Goals as goal

pub returns-in-Some-clause-evaluates : goal.returns-in-Some-clause-evaluates
returns-in-Some-clause-evaluates g c = λ b is.
    words_named b c.args.site.now c.args.evaluator.now c.args.lines.now is c.in-Some.interpreter.now c.args.host.now.entries c.written_words.new.host.entries _ (sym c.in-Some.ensures) (rw c.script_name-name.ensures at c.written_words.ensures.evaluates)

pub returns-in_ok-default_words-in-None-clause-evaluates : goal.returns-in_ok-default_words-in-None-clause-evaluates
returns-in_ok-default_words-in-None-clause-evaluates g c = λ b is.
    words_default b c.args.site.now c.args.evaluator.now c.args.lines.now is _ c.args.host.now.entries (sym c.in-None.ensures) (c.in_ok-default_words-in-None.ensures (rw is.site.recipe.has_shebang is.begins))

pub returns-in_err-default_words-in-None-clause-evaluates : goal.returns-in_err-default_words-in-None-clause-evaluates
returns-in_err-default_words-in-None-clause-evaluates g c = λ b is.
    let p = err_from_is_err_and c.from_residual.result c.from_residual.ensures.1 in
    rw (p.1, p.2) (not_begun _ _)
