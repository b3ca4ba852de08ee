-- Values that are told, and a command that is handed over, as ends of a task.
use Rattle.std.proofs.Common.{◌≡◌, inl, inr, ◌∙◌, ℕ, Bool, true, false, List, [], ◌∷◌, ◌++◌, Option, Some, None, Result, Ok, Err, refl, sym, ap, subst}
use Rattle.just_host.specs.Record.{Record}
use Rattle.just_host.specs.declared.entry.Entry.{Entry}
use Rattle.just_host.specs.declared.entry.Entry.TheVariants.{Line}
use Rattle.just_host.specs.declared.host.Status.{Status}
use Rattle.evaluate_context.specs.declared.context.ExecutionContext.{ExecutionContext}
use Rattle.justfile_evaluator.specs.declared.fault.RunFault.TheVariants.{OutOfMemory}
use Rattle.run_tasks.specs.Commands.{Commands, HandsOver, IsEnd, IsIdle, RanOut, words_job}
use Rattle.run_tasks.specs.Performed.{Fits, HandsInRoot, HandsWords, IfEnds, IfPerformed, IsIdleOver, TaskEnd, command_end, ran, told}
use Rattle.run_tasks.specs.Tasks.{CommandsIn, IsEvaluated}
use Rattle.run_tasks.specs.declared.fault.CommandFault.{CommandFault}
use Rattle.run_tasks.specs.declared.fault.TaskFault.{TaskFault}
use Rattle.run_tasks.specs.declared.fault.TaskFault.TheVariants.{Opening, Run, Command}
use Rattle.run_tasks.specs.declared.task.Performed.{Performed}
use Rattle.run_tasks.specs.declared.task.Performed.TheVariants.{Ran, Evaluated}
use Rattle.run_tasks.specs.declared.task.Task.{Task}
use Rattle.run_tasks.specs.declared.task.Task.TheVariants as tasks
use Rattle.justfile_analyzer.specs.declared.target.EvaluationTarget.{EvaluationTarget}

-- memory that ran out is no end that is told
pub memory_ends : (exhausted : Bool) (P : TaskEnd → Type 0) → IfEnds exhausted (Err (Run OutOfMemory)) P
memory_ends exhausted P = λ e differs. absurd (differs refl)

-- a text that is answered is told
text_told : (exhausted : Bool) (text : List ℕ) (result : Result Performed TaskFault) (old new : List Entry) → new ≡ old → IsEvaluated text result → IfEnds exhausted result (λ end. (new ≡ old) × (end ≡ told text))
text_told exhausted text (Ok Ran) old new same h = absurd h
text_told exhausted text (Ok (Evaluated answer)) old new same h = (same, ap told h)
text_told exhausted text (Err fault) old new same h = subst (λ f. IfEnds exhausted (Err f) (λ end. (new ≡ old) × (end ≡ told text))) (sym h) (memory_ends exhausted (λ end. (new ≡ old) × (end ≡ told text)))

text_fits : (target : EvaluationTarget) (text : List ℕ) (result : Result Performed TaskFault) → IsEvaluated text result → Fits (tasks.Evaluate target) result
text_fits target text (Ok Ran) h = absurd h
text_fits target text (Ok (Evaluated answer)) h = tt
text_fits target text (Err fault) h = subst (λ f. Fits (tasks.Evaluate target) (Err f)) (sym h) refl

pub values_told : (target : EvaluationTarget) (exhausted : Bool) (text : List ℕ) (result : Result Performed TaskFault) (log : List Entry) → IsEvaluated text result → IfPerformed (tasks.Evaluate target) exhausted result (λ end. (log ≡ log) × (end ≡ told text))
values_told target exhausted text result log h = (text_fits target text result h, text_told exhausted text result log log refl h)

module _ {H : Type 0} (goes : H → List Entry → H → Type 0) (old : Record H) (result : Result Performed TaskFault) (new : Record H) where
  idle_ends : IsIdle old result new → IfEnds new.exhausted result (IsIdleOver old.entries new.entries)
  idle_ends h = subst (λ r. IfEnds new.exhausted r (IsIdleOver old.entries new.entries)) (sym h.0) (λ e. (ap (λ (record_of : Record H). record_of.entries) h.1, refl))

  module _ (context : ExecutionContext) (command : List ℕ) (words : List (List ℕ)) where
    abbrev Hands : TaskEnd → Type 0
    Hands = HandsWords context false (command ∷ words) old.entries new.entries

    out_ends : RanOut old result new → IfEnds new.exhausted result Hands
    out_ends h = subst (λ r. IfEnds new.exhausted r Hands) (sym h.0) (memory_ends new.exhausted Hands)

    module _ (h : HandsOver goes context command words old result new) where
      entries : new.exhausted ≡ false → new.entries ≡ old.entries ++ Line (words_job context command words) h.status ∷ []
      entries e = h.followed.entries ∙ ap (λ part. old.entries ++ part) (h.followed.whole e)

      by : (r : Result Performed TaskFault) → IsEnd context.module.now.settings.now.no_exit_message command h.status r → IfEnds new.exhausted r Hands
      by (Ok Ran) is = λ e. (h.status, entries e, ap (command_end command) (sym is.0))
      by (Ok (Evaluated text)) is = absurd (cc is.1)
      by (Err (Opening fault)) is = absurd is
      by (Err (Run fault)) is = subst (λ f. IfEnds new.exhausted (Err (Run f)) Hands) (sym is.1) (memory_ends new.exhausted Hands)
      by (Err (Command fault)) is = λ e. (h.status, entries e, ap (λ (f : CommandFault). command_end f.word f.status) is.1)

      hands_end : IfEnds new.exhausted result Hands
      hands_end = by result h.ended

  -- a command, its words, or nothing
  command_ends : (context : ExecutionContext) (is_dry : Bool) (words : List (List ℕ)) → Commands goes context is_dry words old result new → IfEnds new.exhausted result (HandsWords context is_dry words old.entries new.entries)
  command_ends context true [] h = idle_ends h
  command_ends context false [] h = idle_ends h
  command_ends context true (command ∷ words) h = idle_ends h
  command_ends context false (command ∷ words) (inl out) = out_ends context command words out
  command_ends context false (command ∷ words) (inr over) = hands_end context command words over

  root_ends : (root : Option ExecutionContext) (words : List (List ℕ)) → CommandsIn goes root words old result new → IfEnds new.exhausted result (HandsInRoot root words old.entries new.entries)
  root_ends None words h = idle_ends h
  root_ends (Some context) words h = command_ends context context.config.now.dry_run words h

  -- ---- what is answered is of a command

  module _ (task : Task) (ran_fits : Fits task (Ok Ran)) (memory_fits : Fits task (Err (Run OutOfMemory))) (fault_fits : (fault : CommandFault) → Fits task (Err (Command fault))) where
    idle_fits : IsIdle old result new → Fits task result
    idle_fits h = subst (Fits task) (sym h.0) ran_fits

    over_fits : (no_exit_message : Bool) (command : List ℕ) (status : Status) (r : Result Performed TaskFault) → IsEnd no_exit_message command status r → Fits task r
    over_fits silent command status (Ok Ran) is = ran_fits
    over_fits silent command status (Ok (Evaluated text)) is = absurd (cc is.1)
    over_fits silent command status (Err (Opening fault)) is = absurd is
    over_fits silent command status (Err (Run fault)) is = subst (λ f. Fits task (Err (Run f))) (sym is.1) memory_fits
    over_fits silent command status (Err (Command fault)) is = fault_fits fault

    command_fits : (context : ExecutionContext) (is_dry : Bool) (words : List (List ℕ)) → Commands goes context is_dry words old result new → Fits task result
    command_fits context true [] h = idle_fits h
    command_fits context false [] h = idle_fits h
    command_fits context true (command ∷ words) h = idle_fits h
    command_fits context false (command ∷ words) (inl out) = subst (Fits task) (sym out.0) memory_fits
    command_fits context false (command ∷ words) (inr over) = over_fits context.module.now.settings.now.no_exit_message command over.status result over.ended

    root_fits : (root : Option ExecutionContext) (words : List (List ℕ)) → CommandsIn goes root words old result new → Fits task result
    root_fits None words h = idle_fits h
    root_fits (Some context) words h = command_fits context context.config.now.dry_run words h

  pub command_performed : (task : Task) → Fits task (Ok Ran) → Fits task (Err (Run OutOfMemory)) → ((fault : CommandFault) → Fits task (Err (Command fault))) → (root : Option ExecutionContext) (words : List (List ℕ)) → CommandsIn goes root words old result new
      → IfPerformed task new.exhausted result (HandsInRoot root words old.entries new.entries)
  command_performed task ran_fits memory_fits fault_fits root words h = (root_fits task ran_fits memory_fits fault_fits root words h, root_ends root words h)
