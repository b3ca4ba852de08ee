-- By its lemma.
use Rattle.laws_naive.proofs.Naive.Runs.{written_steady}
use Rattle.laws_naive.proofs.law.naive.written_steady.Goals as goal

pub returns : goal.returns
returns c = written_steady
