-- By its lemma.
use Rattle.laws_naive.proofs.Plans.Planned.{plans_agree}
use Rattle.laws_naive.proofs.law.plans.plans_agree.Goals as goal

pub returns : goal.returns
returns c start = plans_agree _
