-- By its lemma.
use Rattle.laws_naive.proofs.Reach.Plans.{refused_plans_are_empty}
use Rattle.laws_naive.proofs.law.reach.refused_plans_are_empty.Goals as goal

pub returns : goal.returns
returns c = refused_plans_are_empty
