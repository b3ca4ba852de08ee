-- By its lemma.
use Rattle.laws_naive.proofs.Plans.Planned.{agreeing_answer_well}
use Rattle.laws_naive.proofs.law.plans.agreeing_answer_well.Goals as goal

pub returns : goal.returns
returns c start = agreeing_answer_well _
