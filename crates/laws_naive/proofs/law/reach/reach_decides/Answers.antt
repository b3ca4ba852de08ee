-- By its lemma.
use Rattle.laws_naive.proofs.Reach.Worlds.{reach_decides}
use Rattle.laws_naive.proofs.law.reach.reach_decides.Goals as goal

pub returns : goal.returns
returns c start = reach_decides _
