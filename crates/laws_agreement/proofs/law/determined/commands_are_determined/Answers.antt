-- The command that is handed over.
use Rattle.laws_agreement.proofs.Determined.Actions.{commands_are_determined}
use Rattle.laws_agreement.proofs.law.determined.commands_are_determined.Goals as goal

pub returns : goal.returns
returns c = commands_are_determined
