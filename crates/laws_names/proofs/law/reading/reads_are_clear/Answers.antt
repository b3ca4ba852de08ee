use Rattle.laws_names.proofs.Reading.Clear.{reads_are_clear}
use Rattle.laws_names.proofs.law.reading.reads_are_clear.Goals as goal

pub returns : goal.returns
returns c = reads_are_clear
