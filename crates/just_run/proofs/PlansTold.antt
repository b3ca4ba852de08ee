-- What the plan of a run tells follows from what the run is.
use Rattle.std.specs.Prelude.{Bool, false, ℕ, List, [], map, Result, Ok, Err}
use Rattle.just_host.specs.declared.entry.Entry.{Entry}
use Rattle.meaning_evaluation.specs.Named.{Definitions, RecipeName}
use Rattle.meaning_evaluation.specs.Scopes.{Configuration}
use Rattle.just_meaning.specs.Runs.{call_in}
use Rattle.just_meaning.proofs.Naively.{plans_tell_naively}
use Rattle.laws_naive.proofs.Reach.Plans.{plans_are_same}
use Rattle.just_run.specs.Named.{End, IfRan, Left, PlanTold, RunsBetween}
use Rattle.just_run.specs.declared.fault.Fault.{Fault}
use Rattle.just_run.specs.declared.fault.Fault.TheVariants as faults
use Rattle.just_run.specs.declared.outcome.Outcome.{Outcome}
use Rattle.just_run.specs.declared.outcome.Outcome.TheVariants as outcomes

-- what holds of how a run ended, and with it more
pub if_ran_more : (exhausted : Bool) (P Q : End → Type 0) → ((end : End) → P end → Q end) → (result : Result Outcome Fault) → IfRan exhausted result P → IfRan exhausted result Q
if_ran_more exhausted P Q more (Ok outcomes.Ran) h = λ e. more _ (h e)
if_ran_more exhausted P Q more (Ok outcomes.Planned) h = h
if_ran_more exhausted P Q more (Ok outcomes.Evaluated) h = h
if_ran_more exhausted P Q more (Ok outcomes.Dumped) h = h
if_ran_more exhausted P Q more (Ok (outcomes.Formatted path text)) h = h
if_ran_more exhausted P Q more (Ok outcomes.Listed) h = h
if_ran_more exhausted P Q more (Err faults.OutOfMemory) h = h
if_ran_more exhausted P Q more (Err (faults.NoRootForWord word)) h = h
if_ran_more exhausted P Q more (Err (faults.Justfile error)) h = h
if_ran_more exhausted P Q more (Err (faults.Words fault)) h = h
if_ran_more exhausted P Q more (Err (faults.Dotenv fault)) h = more _ h
if_ran_more exhausted P Q more (Err (faults.Opening error)) h = λ e. more _ (h e)
if_ran_more exhausted P Q more (Err (faults.Evaluation error)) h = λ e n. more _ (h e n)
if_ran_more exhausted P Q more (Err (faults.Code recipe code is_silent)) h = λ e. more _ (h e)
if_ran_more exhausted P Q more (Err (faults.Signal recipe signal is_silent)) h = λ e. more _ (h e)
if_ran_more exhausted P Q more (Err (faults.CouldNotStart recipe)) h = λ e. more _ (h e)
if_ran_more exhausted P Q more (Err (faults.NotConfirmed recipe)) h = λ e. more _ (h e)
if_ran_more exhausted P Q more (Err (faults.Command fault)) h = h
if_ran_more exhausted P Q more (Err faults.Write) h = h
if_ran_more exhausted P Q more (Err (faults.NotPrintable path)) h = h

-- a plan tells what the run means
pub plan_told : (c : Configuration) (defined : Definitions) (words : List (List ℕ)) (left : Left) (result : Result Outcome Fault) (entries : List Entry) (invocations : List (RecipeName × List (List (List ℕ)))) (end : End)
    → RunsBetween c defined words left result [] entries invocations end → PlanTold c defined words left result entries invocations end
plan_told c defined words left result entries invocations end between = let r = between.1 in record {
  t = r.0;
  run = r.1;
  naive = λ f agrees. plans_tell_naively ⊥ f c defined (map call_in invocations) entries end (r.3 f agrees);
  reached = λ f agrees w o base working other clear others also agree. plans_tell_naively ⊥ f c other (map call_in invocations) entries end (r.5 f agrees w o base working other clear others also agree);
  same = λ f agrees w o base working other clear others also agree entries' t' end' run' agrees'.
      plans_are_same c defined other (map call_in invocations) (map call_in invocations) entries entries' r.0 t' end end' r.1 run' (r.4 f agrees w o base working other clear others also agree [] entries' t' end' run' agrees');
}
