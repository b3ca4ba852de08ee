use Rattle.laws_runs.proofs.Words.Renaming as laws
use Rattle.laws_runs.proofs.law.words.names_alone_count.Goals as goal

pub returns : goal.returns
returns row c = laws.names_alone_count
