use Rattle.laws_names.proofs.Reading.Told.{refusals_are_told}
use Rattle.laws_names.proofs.law.reading.refusals_are_told.Goals as goal

pub returns : goal.returns
returns c = refusals_are_told
