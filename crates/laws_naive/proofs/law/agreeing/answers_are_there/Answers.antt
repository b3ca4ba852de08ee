-- By its lemma.
use Rattle.laws_naive.proofs.Agreeing.Answering.{answers_are_there}
use Rattle.laws_naive.proofs.law.agreeing.answers_are_there.Goals as goal

pub returns : goal.returns
returns c = answers_are_there
