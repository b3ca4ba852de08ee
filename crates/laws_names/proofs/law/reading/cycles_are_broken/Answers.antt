use Rattle.laws_names.proofs.Reading.Cycles.{cycles_are_broken}
use Rattle.laws_names.proofs.law.reading.cycles_are_broken.Goals as goal

pub returns : goal.returns
returns c = cycles_are_broken
