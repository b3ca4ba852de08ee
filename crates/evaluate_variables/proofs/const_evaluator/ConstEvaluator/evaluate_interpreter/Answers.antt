use Rattle.std.proofs.Common.{◌∷◌}
use Rattle.just_text.specs.Tokens.{lexeme}
use Rattle.meaning_dialogues.specs.Terms.{terms_of}
use Rattle.evaluate_variables.proofs.Settling.{words_settle}
use Rattle.evaluate_variables.proofs.const_evaluator.ConstEvaluator.evaluate_interpreter.Goals as goal

pub returns : goal.returns
returns c = words_settle c.evaluator.ensures.reading c.evaluator.ensures.stage (lexeme c.args.setting.token) (terms_of (c.args.interpreter.now.command ∷ c.args.interpreter.now.arguments.items)) c.evaluate_interpreter.ensures.evaluates
