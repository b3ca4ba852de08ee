-- The premises are met.
use Rattle.laws_naive.specs.Example.Laws.{ExampleIsClear, IsRefusedNaively, RunsNaively}
use Rattle.laws_naive.proofs.Example.Defined.{clear, invokes}
use Rattle.laws_naive.proofs.Example.Runs.{a_refusal, a_refusal_agrees, a_run, a_run_agrees, ends, refuses}
use Rattle.laws_naive.proofs.Example.Naive.{plan_goes, refusal_goes, refusal_is_refused, run_goes, run_is_naive}
use Rattle.laws_naive.proofs.Example.Reach.{agree, moved}

pub example_is_clear : ExampleIsClear
example_is_clear = (clear, invokes)

pub runs_naively : RunsNaively
runs_naively = record {
  job = ends.0;
  t = record { calls = 1; entered = 1 };
  run = a_run;
  agrees = a_run_agrees;
  goes = run_goes;
  naive = run_is_naive;
  plan = plan_goes;
  reached = agree;
  moved = moved;
}

pub is_refused_naively : IsRefusedNaively
is_refused_naively = record { fault = refuses.0; run = a_refusal; agrees = a_refusal_agrees; goes = refusal_goes; refused = refusal_is_refused }
