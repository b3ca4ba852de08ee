-- By its lemma.
use Rattle.laws_naive.proofs.Reach.Plans.{plans_are_same}
use Rattle.laws_naive.proofs.law.reach.plans_are_same.Goals as goal

pub returns : goal.returns
returns c = plans_are_same
