-- By its lemma.
use Rattle.laws_naive.proofs.Naive.Steady.{steady_runs_are_naive}
use Rattle.laws_naive.proofs.law.naive.steady_runs_are_naive.Goals as goal

pub returns : goal.returns
returns c start = steady_runs_are_naive _
