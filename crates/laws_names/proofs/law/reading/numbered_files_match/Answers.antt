-- By its lemma.
use Rattle.laws_names.proofs.Reading.Matching.{numbered_files_match}
use Rattle.laws_names.proofs.law.reading.numbered_files_match.Goals as goal

pub returns : goal.returns
returns c = numbered_files_match
