-- By its lemma.
use Rattle.laws_naive.proofs.Agreeing.Tagged.{answered_once_go_naively}
use Rattle.laws_naive.proofs.law.agreeing.answered_once_go_naively.Goals as goal

pub returns : goal.returns
returns c start = answered_once_go_naively _
