-- Whether nothing is said of a failure of a run.
use Rattle.std.proofs.Common.{◌≡◌, ℕ}
use Rattle.std.specs.Prelude.{Err, IfErr, Ok, Result, Some}
use Rattle.evaluate_context.specs.declared.context.ExecutionContext.{ExecutionContext}
use Rattle.justfile_evaluator.specs.declared.fault.RunFault.{RunFault}
use Rattle.justfile_evaluator.specs.declared.fault.RunFault.TheVariants.{OutOfMemory, Evaluation, Code, Signal, CouldNotStart, NotConfirmed}
use Rattle.analyze_calls.specs.Around.{SaysOwn}
use Rattle.analyze_calls.specs.Placed.{placed_in}
use Rattle.analyze_calls.specs.declared.plan.Planned.{Planned}
use Rattle.analyze_calls.specs.declared.plan.Runner.{Runner}
use Rattle.analyze_calls.specs.Runs.Ran.{SaysIn}

module _ (runner : Runner) (place : ℕ) (planned : Planned) (context : ExecutionContext) (is : placed_in runner place ≡ Some (planned, context)) where
  own_in : (fault : RunFault) → SaysOwn planned context fault → SaysIn runner fault
  own_in OutOfMemory h = tt
  own_in (Evaluation error) h = tt
  own_in (Code recipe code is_silent) h = (place, planned, context, is, h.0, h.1)
  own_in (Signal recipe signal is_silent) h = (place, planned, context, is, h.0, h.1)
  own_in (CouldNotStart recipe) h = tt
  own_in (NotConfirmed recipe) h = tt

  -- a failure of a recipe at a place is one of the run
  pub says_in : {A : Type 0} (result : Result A RunFault) → IfErr result (SaysOwn planned context) → IfErr result (SaysIn runner)
  says_in (Ok a) h = tt
  says_in (Err fault) h = own_in fault h
