-- By its lemma.
use Rattle.laws_agreement.proofs.Repeated.Repeated.{runs_go_alike}
use Rattle.laws_agreement.proofs.law.repeated.runs_go_alike.Goals as goal

pub returns : goal.returns
returns c start = runs_go_alike _
