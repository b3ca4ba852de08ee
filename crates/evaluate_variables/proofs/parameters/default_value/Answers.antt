use Rattle.std.proofs.Common.{rules}
use Rattle.meaning_dialogues.proofs.Dialogues.{begins_here}
use Rattle.evaluate_variables.proofs.parameters.default_value.Goals as goal

pub returns-then-takes_none-clause-evaluates : goal.returns-then-takes_none-clause-evaluates
returns-then-takes_none-clause-evaluates g c = record { goes = λ n. search rules; begins = begins_here _ _ _ }

pub returns-clause-evaluates : goal.returns-clause-evaluates
returns-clause-evaluates g c = record { goes = λ n. search rules; begins = begins_here _ _ _ }
