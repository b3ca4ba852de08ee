use Rattle.laws_names.proofs.Reading.Parts.{parts_are_seen}
use Rattle.laws_names.proofs.law.reading.parts_are_seen.Goals as goal

pub returns : goal.returns
returns c = parts_are_seen
