-- By its lemma.
use Rattle.laws_naive.proofs.Inputs.Reached.{reached_go_naively}
use Rattle.laws_naive.proofs.law.inputs.reached_go_naively.Goals as goal

pub returns : goal.returns
returns c start = reached_go_naively _
