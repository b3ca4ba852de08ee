use Rattle.laws_names.proofs.Reading.References.{setting_references_are_seen}
use Rattle.laws_names.proofs.law.reading.setting_references_are_seen.Goals as goal

pub returns : goal.returns
returns c = setting_references_are_seen
