-- By its lemma.
use Rattle.laws_naive.proofs.Naive.Runs.{runs_go_naively}
use Rattle.laws_naive.proofs.law.naive.runs_go_naively.Goals as goal

pub returns : goal.returns
returns c start = runs_go_naively _
