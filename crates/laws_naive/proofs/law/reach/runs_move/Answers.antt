-- By its lemma.
use Rattle.laws_naive.proofs.Reach.Runs.{runs_move}
use Rattle.laws_naive.proofs.law.reach.runs_move.Goals as goal

pub returns : goal.returns
returns c start = runs_move _
