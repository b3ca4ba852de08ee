-- How far the steps of a call were recorded where want of memory cut them.
use Rattle.std.specs.Prelude.{◌≡◌, Bool, List, Result, Ok, Err, Some}
use Rattle.just_host.specs.declared.entry.Entry.{Entry}
use Rattle.evaluate_context.specs.declared.context.ExecutionContext.{ExecutionContext}
use Rattle.meaning_dialogues.specs.Faults.{memory}
use Rattle.meaning_runs.specs.Cut.{Cuts, cut_parts}
use Rattle.meaning_runs.specs.Cut as cut
use Rattle.meaning_runs.specs.Tallies.{Tally}
use Rattle.meaning_runs.specs.Failures.{Failure, evaluation}
use Rattle.meaning_runs.specs.Parts.{Parts}
use Rattle.meaning_runs.specs.Task.{TaskBegins}
use Rattle.analyze_calls.specs.Around.{TailsBegin, head_task, own_reading, own_stage}
use Rattle.analyze_calls.specs.Binding.{Binds}
use Rattle.analyze_calls.specs.Calls.{CallRow}
use Rattle.analyze_calls.specs.Entered.{EnteredRow}
use Rattle.analyze_calls.specs.Placed.{placed_in}
use Rattle.analyze_calls.specs.declared.plan.Planned.{Planned}
use Rattle.analyze_calls.specs.declared.plan.Runner.{Runner}
use Rattle.analyze_calls.specs.Runs.Steps.{parts}

-- a call that begins: nothing of it; its binding in part; or its binding, and of its confirmation and what its priors are called with a part
pub data InBegin (runner : Runner) (call : CallRow) (flag : Bool) (old new : List Entry) : Type 0 where
  nothing_begun : new ≡ old → InBegin runner call flag old new
  in_binding : {planned : Planned} {context : ExecutionContext} → placed_in runner call.recipe ≡ Some (planned, context) → Binds planned context flag call.groups old new (Err (evaluation memory)) → InBegin runner call flag old new
  in_head : {planned : Planned} {context : ExecutionContext} {mid : List Entry} {entered : EnteredRow} → placed_in runner call.recipe ≡ Some (planned, context) → Binds planned context flag call.groups old mid (Ok entered)
      → TaskBegins (own_reading planned context flag entered) (head_task runner planned context.config.now (own_stage planned context flag entered)) mid new → InBegin runner call flag old new

-- a call that ends: nothing of it; or its body, or what its subsequents are called with, in part
pub data InEnd (runner : Runner) (call : CallRow) (flag : Bool) (entered : EnteredRow) (old new : List Entry) : Type 0 where
  nothing_ended : new ≡ old → InEnd runner call flag entered old new
  in_tails : {planned : Planned} {context : ExecutionContext} → placed_in runner call.recipe ≡ Some (planned, context) → TailsBegin planned context flag entered runner old new → InEnd runner call flag entered old new

-- the steps of calls by the places of their recipes, of which the last may be cut
abbrev pub cuts : Runner → Cuts CallRow EnteredRow Entry
cuts runner = record { InBegin = InBegin runner; InEnd = InEnd runner }

abbrev pub parts_cut : Runner → Parts CallRow EnteredRow Entry Failure
parts_cut runner = cut_parts (parts runner) (cuts runner)

-- what was recorded of a call that begins is that of a step that may be cut; and so it is of one that ends
pub record HasBegun (runner : Runner) (call : CallRow) (flag : Bool) (old new : List Entry) : Type 0 where
  pub result : Result (EnteredRow × List CallRow) Failure
  pub begins : (parts_cut runner).Begins call flag old new result

pub record HasEnded (runner : Runner) (call : CallRow) (flag : Bool) (entered : EnteredRow) (old new : List Entry) : Type 0 where
  pub result : Result (List CallRow) Failure
  pub ends : (parts_cut runner).Ends call flag entered old new result

-- what was recorded is the beginning of what a run of the calls records, with nothing done at first
abbrev pub BeginsRun : Runner → List CallRow → List Entry → Tally → List Entry → Type 0
BeginsRun runner calls old t new = cut.BeginsRun (parts runner) (cuts runner) calls old t new
