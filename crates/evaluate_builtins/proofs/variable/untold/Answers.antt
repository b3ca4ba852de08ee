-- The fault says the text that is not unicode.
use Rattle.std.proofs.Common.{Err, codes, subst, sym, ◌++◌}
use Rattle.meaning_dialogues.specs.Evaluation.{ticked}
use Rattle.evaluate_functions.specs.Functions.{Answers}
use Rattle.evaluate_builtins.specs.Builtins.{untold}
use Rattle.evaluate_builtins.proofs.Words.{not_unicode}
use Rattle.evaluate_builtins.proofs.variable.untold.Goals as goal

pub returns-in-NotUnicode : goal.returns-in-NotUnicode
returns-in-NotUnicode c =
    subst (λ fault. Answers (Err (untold c.args.name.now fault)) (Err c.not_unicode.result)) (sym c.in-NotUnicode.is)
    (not_unicode c.args.name.now c.in-NotUnicode.text c.not_unicode.result
    (subst (λ text. Answers (Err (codes "environment variable `" ++ (c.args.name.now ++ (codes "` is not unicode: " ++ ticked text)))) (Err c.not_unicode.result)) c.as_str.ensures c.not_unicode.ensures))
