use Rattle.laws_names.proofs.Depending.Clear.{dependencies_are_clear}
use Rattle.laws_names.proofs.law.depending.dependencies_are_clear.Goals as goal

pub returns : goal.returns
returns c = dependencies_are_clear
