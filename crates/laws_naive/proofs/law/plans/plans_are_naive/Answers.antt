-- By its lemma.
use Rattle.laws_naive.proofs.Plans.Planned.{plans_are_naive}
use Rattle.laws_naive.proofs.law.plans.plans_are_naive.Goals as goal

pub returns : goal.returns
returns c start = plans_are_naive _
