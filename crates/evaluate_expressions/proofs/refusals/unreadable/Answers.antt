use Rattle.std.proofs.Common.{rules, ◌≡◌, ◌++◌, codes, ap, ◌∙◌}
use Rattle.just_text.specs.Tokens.{lexeme}
use Rattle.meaning_dialogues.specs.Faults.{internal}
use Rattle.evaluate_expressions.proofs.refusals.unreadable.Goals as goal

pub returns-in-Ok : goal.returns-in-Ok
returns-in-Ok c =
    let text : c.from_string.result ≡ codes "attempted to evaluate " ++ (c.args.how.now ++ (codes " variable `" ++ (lexeme c.args.name.token ++ codes "`"))) = search rules in
    λ n. c.refused.ensures n ∙ ap internal text
