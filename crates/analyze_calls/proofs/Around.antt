-- What calls do around bodies, for each way that it goes.
use Rattle.std.proofs.Common.{◌≡◌, ◌++◌, [], append-nil, refl, sym, subst, Bool, List, false, true}
use Rattle.std.specs.Prelude.{◌≢◌, Err, Ok, Result}
use Rattle.just_host.specs.declared.config.Config.{Config}
use Rattle.just_host.specs.declared.entry.Entry.{Entry}
use Rattle.just_host.specs.Record.{Record}
use Rattle.just_host.specs.Steps.{was_open}
use Rattle.evaluate_context.specs.declared.context.ExecutionContext.{ExecutionContext}
use Rattle.evaluate_expressions.specs.Situations.{reading_at, stage_at}
use Rattle.evaluate_expressions.specs.declared.evaluator.Evaluator.{Evaluator}
use Rattle.justfile_evaluator.specs.Ended.{failure_of}
use Rattle.justfile_evaluator.specs.declared.fault.RunFault.{RunFault}
use Rattle.laws_evaluation.specs.Bodies.Performing.{Performs, Stays}
use Rattle.laws_evaluation.proofs.Bodies.Performing.{performs_then, performs_stops, performs_evaluated}
use Rattle.meaning_dialogues.specs.Dialogue.{Dialogue, Evaluates, Reading}
use Rattle.meaning_dialogues.specs.Evaluation.{Stage}
use Rattle.meaning_dialogues.specs.Faults.{Fault, memory}
use Rattle.meaning_runs.specs.Failures.{Failure, evaluation}
use Rattle.meaning_runs.specs.Task.{Task, TaskBegins, TaskLeads, as_failure, lift}
use Rattle.meaning_runs.proofs.Beginnings.{lift_begins}
use Rattle.meaning_runs.proofs.Tasks.{lift_goes}
use Rattle.analyze_calls.specs.Around.{BodyBegins, PerformsBody, RunsBody, Tails, TailsBegin, fails, runs, in_body, after_it, confirmation, head_task, own_reading, own_stage, prior_calls, subsequent_calls}
use Rattle.analyze_calls.specs.Binding.{Grew}
use Rattle.analyze_calls.specs.Calls.{CallRow}
use Rattle.analyze_calls.specs.Entered.{EnteredRow}
use Rattle.analyze_calls.specs.Ran.{IfGiven, ended_as}
use Rattle.analyze_calls.specs.declared.plan.Planned.{Planned}
use Rattle.analyze_calls.specs.declared.plan.Runner.{Runner}

-- ---- before the body

module _ (runner : Runner) (planned : Planned) (config : Config) (stage stage' : Stage) (reading reading' : Reading) (same_stage : stage' ≡ stage) (same_reading : reading' ≡ reading) where
  -- what is performed by a stage is performed by an equal one
  pub head_moved : {H : Type 0} (old new : Record H) (r : Result (List CallRow) Failure) → Performs reading' (head_task runner planned config stage') old new r → Performs reading (head_task runner planned config stage) old new r
  head_moved old new r h = subst (λ (q : Stage × Reading). Performs q.1 (head_task runner planned config q.0) old new r) (λ i. (same_stage i, same_reading i)) h

  -- the confirmation fails
  pub head_stops : {H : Type 0} (old new : Record H) (f : Failure) → Performs reading' (confirmation runner planned config stage') old new (Err f) → Performs reading (head_task runner planned config stage) old new (Err f)
  head_stops old new f h = head_moved old new (Err f) (performs_stops reading' (confirmation runner planned config stage') (λ u. lift (prior_calls runner planned config stage')) old new f h)

  head_goes : {H : Type 0} (old mid new : Record H) (r : Result (List CallRow) Fault) → Performs reading' (confirmation runner planned config stage') old mid (Ok tt) → Stays mid new → Evaluates reading' (prior_calls runner planned config stage') mid.entries new.entries r
      → Performs reading (head_task runner planned config stage) old new (as_failure r)
  head_goes old mid new r h stays g =
      head_moved old new (as_failure r)
      (performs_then reading' (confirmation runner planned config stage') (λ u. lift (prior_calls runner planned config stage')) old mid new tt (as_failure r) h stays (performs_evaluated reading' (prior_calls runner planned config stage') mid new r g))

  -- it goes through, and then come the calls before the body, or a fault
  pub head_brings : {H : Type 0} (old mid new : Record H) (calls : List CallRow) → Performs reading' (confirmation runner planned config stage') old mid (Ok tt) → Stays mid new → Evaluates reading' (prior_calls runner planned config stage') mid.entries new.entries (Ok calls)
      → Performs reading (head_task runner planned config stage) old new (Ok calls)
  head_brings old mid new calls h stays g = head_goes old mid new (Ok calls) h stays g

  pub head_refuses : {H : Type 0} (old mid new : Record H) (fault : Fault) → Performs reading' (confirmation runner planned config stage') old mid (Ok tt) → Stays mid new → Evaluates reading' (prior_calls runner planned config stage') mid.entries new.entries (Err fault)
      → Performs reading (head_task runner planned config stage) old new (Err (evaluation fault))
  head_refuses old mid new fault h stays g = head_goes old mid new (Err fault) h stays g

  -- the calls after the body
  last_goes : (old new : List Entry) (r : Result (List CallRow) Fault) → r ≢ Err memory → Evaluates reading' (subsequent_calls runner planned config stage') old new r → TaskLeads reading (lift (subsequent_calls runner planned config stage)) old new (as_failure r)
  last_goes old new r n g =
      subst (λ (q : Stage × Reading). TaskLeads q.1 (lift (subsequent_calls runner planned config q.0)) old new (as_failure r)) (λ i. (same_stage i, same_reading i))
      (lift_goes reading' (subsequent_calls runner planned config stage') old new r (g.goes n))

  -- what was recorded begins them
  last_begins : (old new : List Entry) (r : Result (List CallRow) Fault) → Evaluates reading' (subsequent_calls runner planned config stage') old new r → TaskBegins reading (lift (subsequent_calls runner planned config stage)) old new
  last_begins old new r g =
      subst (λ (q : Stage × Reading). TaskBegins q.1 (lift (subsequent_calls runner planned config q.0)) old new) (λ i. (same_stage i, same_reading i))
      (lift_begins reading' (subsequent_calls runner planned config stage') old new g.begins)

-- where memory sufficed, what a task gave it leads to
pub given_leads : {H A B : Type 0} (reading : Reading) (task : Task B) (old new : Record H) (view : A → B) (result : Result A RunFault) → Performs reading task old new (ended_as view result) → IfGiven view new.exhausted result (TaskLeads reading task old.entries new.entries)
given_leads reading task old new view (Ok a) h = λ e. h.goes e (λ q. cc)
given_leads reading task old new view (Err fault) h = λ e n. h.goes e (λ q. n (cc))

-- ---- in the body and after it

module _ {H : Type 0} (planned : Planned) (context : ExecutionContext) (flag : Bool) (entered : EnteredRow) (evaluator : Evaluator) (stage : stage_at evaluator ≡ own_stage planned context flag entered) (reading : reading_at evaluator ≡ own_reading planned context flag entered) where
  ran : (old new : Record H) (r : Result (Unit {0}) Failure) → Grew old.entries new.entries → new.exhausted ≡ false → r ≢ Err (evaluation memory) → PerformsBody planned context flag entered evaluator old new r → RunsBody planned context flag entered old.entries new.entries r
  ran old new r grew e n h = record {
    grew = grew;
    evaluator = evaluator;
    stage = stage;
    reading = reading;
    site = h.site;
    is_own = h.is_own;
    goes = λ b is. (h.performs b is).goes e n;
  }

  -- the body fails
  pub body_stops : (runner : Runner) (old new : Record H) (f : Failure) → Grew old.entries new.entries → PerformsBody planned context flag entered evaluator old new (Err f) → new.exhausted ≡ false → f ≢ evaluation memory → Tails planned context flag entered runner old.entries new.entries (Err f)
  body_stops runner old new f grew h e n = fails (ran old new (Err f) grew e (λ q. n (cc)) h)

  body_goes : (runner : Runner) (old mid new : Record H) (r : Result (List CallRow) Fault) → Grew old.entries mid.entries → PerformsBody planned context flag entered evaluator old mid (Ok tt) → Stays mid new
      → Evaluates (reading_at evaluator) (subsequent_calls runner planned context.config.now (stage_at evaluator)) mid.entries new.entries r → new.exhausted ≡ false → r ≢ Err memory → Tails planned context flag entered runner old.entries new.entries (as_failure r)
  body_goes runner old mid new r grew h stays g e n =
      runs {mid = mid.entries} (ran old mid (Ok tt) grew (was_open mid new stays e) (λ q. cc) h)
      (last_goes runner planned context.config.now (own_stage planned context flag entered) (stage_at evaluator) (own_reading planned context flag entered) (reading_at evaluator) stage reading mid.entries new.entries r n g)

  -- it goes through, and then come the calls after it, or a fault
  pub body_brings : (runner : Runner) (old mid new : Record H) (calls : List CallRow) → Grew old.entries mid.entries → PerformsBody planned context flag entered evaluator old mid (Ok tt) → Stays mid new
      → Evaluates (reading_at evaluator) (subsequent_calls runner planned context.config.now (stage_at evaluator)) mid.entries new.entries (Ok calls) → new.exhausted ≡ false → Tails planned context flag entered runner old.entries new.entries (Ok calls)
  body_brings runner old mid new calls grew h stays g e = body_goes runner old mid new (Ok calls) grew h stays g e (λ q. cc)

  pub body_refuses : (runner : Runner) (old mid new : Record H) (fault : Fault) → Grew old.entries mid.entries → PerformsBody planned context flag entered evaluator old mid (Ok tt) → Stays mid new
      → Evaluates (reading_at evaluator) (subsequent_calls runner planned context.config.now (stage_at evaluator)) mid.entries new.entries (Err fault) → new.exhausted ≡ false → evaluation fault ≢ evaluation memory → Tails planned context flag entered runner old.entries new.entries (Err (evaluation fault))
  body_refuses runner old mid new fault grew h stays g e n = body_goes runner old mid new (Err fault) grew h stays g e (λ q. n (cc))

  -- what was recorded begins the body
  pub body_begins : (runner : Runner) (old new : Record H) (r : Result (Unit {0}) Failure) → Grew old.entries new.entries → PerformsBody planned context flag entered evaluator old new r → TailsBegin planned context flag entered runner old.entries new.entries
  body_begins runner old new r grew h = in_body (record {
    grew = grew;
    evaluator = evaluator;
    stage = stage;
    reading = reading;
    site = h.site;
    is_own = h.is_own;
    begins = λ b is. (h.performs b is).begins;
  })

  -- the body goes through, and what was recorded then begins the calls after it
  pub tail_begins : (runner : Runner) (old mid new : Record H) (r : Result (List CallRow) Fault) → Grew old.entries mid.entries → PerformsBody planned context flag entered evaluator old mid (Ok tt) → Stays mid new
      → Evaluates (reading_at evaluator) (subsequent_calls runner planned context.config.now (stage_at evaluator)) mid.entries new.entries r → TailsBegin planned context flag entered runner old.entries new.entries
  tail_begins runner old mid new r grew h stays g =
      elim mid.exhausted as (λ v. mid.exhausted ≡ v → TailsBegin planned context flag entered runner old.entries new.entries) [
        | true ↦ λ full. subst (λ s. TailsBegin planned context flag entered runner old.entries s.entries) (sym (stays full)) (body_begins runner old mid (Ok tt) grew h)
        | false ↦ λ still. after_it {mid = mid.entries} (ran old mid (Ok tt) grew still (λ q. cc) h)
            (last_begins runner planned context.config.now (own_stage planned context flag entered) (stage_at evaluator) (own_reading planned context flag entered) (reading_at evaluator) stage reading mid.entries new.entries r g)
      ] refl
