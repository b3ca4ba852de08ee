use Rattle.laws_names.proofs.Depending.Told.{aliases_are_told}
use Rattle.laws_names.proofs.law.depending.aliases_are_told.Goals as goal

pub returns : goal.returns
returns c = aliases_are_told
