-- What is evaluated.
use Rattle.laws_agreement.proofs.Determined.Actions.{evaluations_are_determined}
use Rattle.laws_agreement.proofs.law.determined.evaluations_are_determined.Goals as goal

pub returns : goal.returns
returns c = evaluations_are_determined
