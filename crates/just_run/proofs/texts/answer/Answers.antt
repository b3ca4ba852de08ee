use Rattle.std.proofs.Common.{subst}
use Rattle.std.proofs.lemmas.Result.{err_from_is_err_and}
use Rattle.just_run.specs.Texts.{IsFormatted, root_file}
use Rattle.just_run.proofs.Again.{read_again, refused_again}
use Rattle.just_run.proofs.texts.answer.Goals as goal

pub returns-in_err-text-clause-again : goal.returns-in_err-text-clause-again
returns-in_err-text-clause-again c =
    let p = err_from_is_err_and c.from_residual.result c.from_residual.ensures.1 in
    rw p.1 (refused_again (root_file c.args.compilation.now) p.0)

pub returns-clause-again : goal.returns-clause-again
returns-clause-again c = read_again c.formatted_texts_say_the_same.ensures.prints c.args.os c.args.path.now (root_file c.args.compilation.now) c.format.result
    (subst (λ text. IsFormatted c.args.path.now text c.format.result) c.in_ok-text.ensures c.format.ensures.formatted)
