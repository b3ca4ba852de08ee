-- By its lemma.
use Rattle.laws_naive.proofs.Inputs.Reached.{refusals_agree}
use Rattle.laws_naive.proofs.law.inputs.refusals_agree.Goals as goal

pub returns : goal.returns
returns c start = refusals_agree _
