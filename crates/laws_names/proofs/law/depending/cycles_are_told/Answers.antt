use Rattle.laws_names.proofs.Depending.Cycles.{cycles_are_told}
use Rattle.laws_names.proofs.law.depending.cycles_are_told.Goals as goal

pub returns : goal.returns
returns c = cycles_are_told
