-- By its lemma.
use Rattle.laws_naive.proofs.Naive.Records.{records_agree}
use Rattle.laws_naive.proofs.law.naive.records_agree.Goals as goal

pub returns : goal.returns
returns c start = records_agree _
