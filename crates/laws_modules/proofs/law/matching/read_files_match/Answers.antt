-- By its lemma.
use Rattle.laws_modules.proofs.Matching.Read.{read_file_matches}
use Rattle.laws_modules.proofs.law.matching.read_files_match.Goals as goal

pub returns : goal.returns
returns c = read_file_matches
