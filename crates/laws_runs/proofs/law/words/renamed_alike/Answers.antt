use Rattle.laws_runs.proofs.Words.Renaming as laws
use Rattle.laws_runs.proofs.law.words.renamed_alike.Goals as goal

pub returns : goal.returns
returns row c = laws.renamed_alike
