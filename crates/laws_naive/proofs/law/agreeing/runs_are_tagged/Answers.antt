-- By its lemma.
use Rattle.laws_naive.proofs.Agreeing.Tagged.{runs_are_tagged}
use Rattle.laws_naive.proofs.law.agreeing.runs_are_tagged.Goals as goal

pub returns : goal.returns
returns c start = runs_are_tagged _
