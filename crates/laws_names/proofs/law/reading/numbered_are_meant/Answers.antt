use Rattle.laws_names.proofs.Reading.Carried.{numbered_world}
use Rattle.laws_names.proofs.law.reading.numbered_are_meant.Goals as goal

pub returns : goal.returns
returns c = numbered_world
