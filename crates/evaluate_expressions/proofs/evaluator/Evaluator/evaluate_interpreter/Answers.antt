use Rattle.std.proofs.Common.{◌∷◌}
use Rattle.just_text.specs.Tokens.{lexeme}
use Rattle.meaning_dialogues.specs.Terms.{terms_of}
use Rattle.evaluate_expressions.proofs.Known.{words_known}
use Rattle.evaluate_expressions.proofs.evaluator.Evaluator.evaluate_interpreter.Goals as goal

pub returns-clause-known : goal.returns-clause-known
returns-clause-known g c =
    λ reached bodies names. words_known reached c.args.self.now bodies (lexeme c.args.setting.token) (terms_of (c.args.interpreter.now.command ∷ c.args.interpreter.now.arguments.items)) _ _ _ names c.interpreter_text.ensures.evaluates
