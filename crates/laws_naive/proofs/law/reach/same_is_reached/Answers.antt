-- By its lemma.
use Rattle.laws_naive.proofs.Reach.Runs.{same_is_reached}
use Rattle.laws_naive.proofs.law.reach.same_is_reached.Goals as goal

pub returns : goal.returns
returns c = same_is_reached
