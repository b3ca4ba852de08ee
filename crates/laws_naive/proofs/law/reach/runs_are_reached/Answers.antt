-- By its lemma.
use Rattle.laws_naive.proofs.Reach.Runs.{runs_are_reached}
use Rattle.laws_naive.proofs.law.reach.runs_are_reached.Goals as goal

pub returns : goal.returns
returns c start = runs_are_reached _
