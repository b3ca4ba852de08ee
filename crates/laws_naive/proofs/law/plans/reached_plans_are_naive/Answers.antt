-- By its lemma.
use Rattle.laws_naive.proofs.Plans.Planned.{reached_plans_are_naive}
use Rattle.laws_naive.proofs.law.plans.reached_plans_are_naive.Goals as goal

pub returns : goal.returns
returns c start = reached_plans_are_naive _
