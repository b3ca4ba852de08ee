use Rattle.laws_names.proofs.Reading.Told.{reads_are_told}
use Rattle.laws_names.proofs.law.reading.reads_are_told.Goals as goal

pub returns : goal.returns
returns c = reads_are_told
