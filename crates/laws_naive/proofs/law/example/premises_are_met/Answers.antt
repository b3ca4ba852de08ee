-- By computation, and by the laws.
use Rattle.laws_naive.proofs.Example.Laws.{example_is_clear, is_refused_naively, runs_naively}
use Rattle.laws_naive.proofs.law.example.premises_are_met.Goals as goal

pub returns-clause-clear : goal.returns-clause-clear
returns-clause-clear c = example_is_clear

pub returns-clause-runs : goal.returns-clause-runs
returns-clause-runs c = runs_naively

pub returns-clause-refused : goal.returns-clause-refused
returns-clause-refused c = is_refused_naively
