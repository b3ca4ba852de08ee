use Rattle.laws_runs.proofs.ByName.Bodies.{body_is, environment_is, interpreter_means, words_are}
use Rattle.laws_runs.proofs.ByName.Lines.{expression_means, line_means}
use Rattle.laws_runs.proofs.law.by_name.recipes_mean_by_name.Goals as goal

pub returns-clause-expressions : goal.returns-clause-expressions
returns-clause-expressions c b p evaluator e is known old new r h = expression_means b p evaluator e is known old new r h

pub returns-clause-lines : goal.returns-clause-lines
returns-clause-lines c b p evaluator line is known = line_means b p evaluator line is known

pub returns-clause-interpreters : goal.returns-clause-interpreters
returns-clause-interpreters c b p evaluator attributes is known = interpreter_means b p evaluator attributes is known

pub returns-clause-bodies : goal.returns-clause-bodies
returns-clause-bodies c b p evaluator here read is site body lines script = body_is b p evaluator here read is site body lines script

pub returns-clause-environments : goal.returns-clause-environments
returns-clause-environments c b p here at is words = environment_is b p here at is words

pub returns-clause-words : goal.returns-clause-words
returns-clause-words c b here read same e = words_are b here read same e
