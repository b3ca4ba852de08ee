use Rattle.laws_names.proofs.Depending.Walks.{cycles_are_clear}
use Rattle.laws_names.proofs.law.depending.cycles_are_clear.Goals as goal

pub returns : goal.returns
returns c = cycles_are_clear
