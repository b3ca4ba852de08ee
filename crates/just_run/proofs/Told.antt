-- What is told by places is told by what is defined.
use Rattle.std.specs.Prelude.{Contains}
use Rattle.std.proofs.Common.{◌≡◌, ◌≢◌, ◌∙◌, ◌⊎◌, length, inl, inr, ap, map, refl, sym, subst, ℕ, Bool, true, false, List, [], ◌∷◌, Some, Result, Ok, Err}
use Rattle.std.specs.Borrow.{Bor}
use Rattle.std.specs.Global.{Vec}
use Rattle.std.specs.String.{string_bytes}
use Rattle.just_host.specs.declared.entry.Entry.{Entry}
use Rattle.tree_items.specs.Lines.{no_sigils}
use Rattle.evaluate_context.specs.Refusals.{fault_of}
use Rattle.analyze_calls.specs.Calls.{CallRow, rows}
use Rattle.analyze_calls.specs.declared.call.Call.{Call}
use Rattle.analyze_calls.specs.declared.fault.OpeningFault.TheVariants as openings
use Rattle.justfile_analyzer.specs.declared.target.EvaluationTarget.{EvaluationTarget}
use Rattle.justfile_analyzer.specs.declared.target.EvaluationTarget.TheVariants.{Module}
use Rattle.justfile_evaluator.specs.declared.fault.RunFault.TheVariants as faults
use Rattle.modules_compilation.specs.declared.compilation.Compilation.{Compilation}
use Rattle.resolve_analysis.specs.declared.analysis.Analysis.{Analysis}
use Rattle.run_tasks.specs.Performed.{Fits, IfPerformed, RunEnd, TaskEnd, command_failed, end_by, ends_as, failed, not_opened, ran}
use Rattle.run_tasks.specs.declared.fault.TaskFault.{TaskFault}
use Rattle.run_tasks.specs.declared.fault.TaskFault.TheVariants as tasks
use Rattle.run_tasks.specs.declared.task.Performed.{Performed}
use Rattle.run_tasks.specs.declared.task.Performed.TheVariants.{Evaluated, Ran}
use Rattle.run_tasks.specs.declared.task.Task.{Task}
use Rattle.run_tasks.specs.declared.task.Task.TheVariants as of_task
use Rattle.run_tasks.specs.Prepared.Begun.{BeginsTask}
use Rattle.run_tasks.specs.Prepared.Performed.{PerformsTask}
use Rattle.run_tasks.specs.Requested.Asked.{IsAskedFor}
use Rattle.run_tasks.specs.Requested.Words.{InvokesAt, values_of}
use Rattle.run_tasks.specs.declared.action.Action.{Action}
use Rattle.run_tasks.specs.declared.action.Action.TheVariants as requested
use Rattle.run_tasks.specs.declared.request.Request.{Request}
use Rattle.run_tasks.specs.declared.request.Request.TheVariants as requests
use Rattle.run_tasks.specs.declared.request.RootText.{RootText}
use Rattle.run_tasks.specs.declared.request.RootText.TheVariants as texts
use Rattle.meaning_dialogues.specs.Faults.{memory}
use Rattle.meaning_evaluation.specs.Requests.{dotenv, opening}
use Rattle.meaning_runs.specs.Failures.{Failure, Next, by_code, by_signal, evaluation, next_by, not_confirmed, not_started}
use Rattle.meaning_runs.specs.Tallies.{Tally}
use Rattle.laws_runs.specs.Menus.Calls.{CallsAreThere}
use Rattle.meaning_evaluation.specs.Calling.{without_next}
use Rattle.meaning_evaluation.specs.Named.{Call as NamedCall, Definitions, RecipeName}
use Rattle.meaning_evaluation.specs.Scopes.{Configuration}
use Rattle.meaning_rules.specs.Worlds.Standing.{StandsFor}
use Rattle.just_meaning.specs.Configured.{configuration_of}
use Rattle.laws_runs.specs.Menus.Named.{name_at}
use Rattle.just_resolve.specs.Analysis.{IsAnalysis}
use Rattle.just_resolve.specs.Rules.{IsResolvable}
use Rattle.just_meaning.specs.Actions.{ActionEnd, CommandGoes, EvaluateGoes}
use Rattle.just_meaning.specs.Actions as actions
use Rattle.just_meaning.specs.Actions.{target_of as values_named}
use Rattle.just_meaning.specs.Begun.{BeginsCommand, BeginsEvaluate, BeginsRun}
use Rattle.just_meaning.specs.Runs.{Runs, call_in}
use Rattle.just_meaning.specs.Runs as run_ends
use Rattle.just_meaning.specs.Defining.{AreDefined}
use Rattle.just_meaning.specs.Menus.{menu_of}
use Rattle.just_modules.specs.Worlds as files
use Rattle.just_resolve.specs.Rules as names
use Rattle.meaning_rules.specs.Rules.{is_of_sources}
use Rattle.meaning_runs.specs.Invokes.{Invoke}
use Rattle.meaning_evaluation.specs.Groups.{parameters_of}
use Rattle.meaning_dialogues.specs.Faults.{Fault as EvaluationFault}
use Rattle.meaning_rules.specs.Overrides.{overrides_of}
use Rattle.meaning_dialogues.specs.Internal.{is_internal}
use Rattle.meaning_rules.specs.Worlds.Given.{Given, Overrides, Text, World}
use Rattle.meaning_rules.proofs.Worlds.Places.{contains_cases, contains_none}
use Rattle.laws_agreement.proofs.Certain.Actions.{commands_end_certainly, evaluations_end_certainly}
use Rattle.laws_agreement.proofs.Certain.Runs.{runs_end_certainly}
use Rattle.laws_agreement.specs.Known.Known.{HasRecipe}
use Rattle.just_meaning.specs.Known.{BreaksNoRule, HaveRows, IsRead}
use Rattle.laws_agreement.proofs.Known.Invoked.{invoked_are_known}
use Rattle.laws_agreement.proofs.Known.Known.{defined_are_known, kept_are_known}
use Rattle.laws_agreement.proofs.Known.Ordered.{worlds_are_in_order}
use Rattle.just_meaning.specs.Determined.{nothing}
use Rattle.laws_naive.proofs.Naive.Ranks.{dependencies_fall}
use Rattle.laws_naive.proofs.Naive.Worlds.{invoked_go_naively}
use Rattle.laws_naive.proofs.Inputs.Reached.{reached_go_naively}
use Rattle.just_meaning.specs.Clear.{IsClear}
use Rattle.laws_naive.proofs.Reach.Worlds.{reach_decides}
use Rattle.laws_agreement.proofs.Repeated.Repeated.{runs_go_alike}
use Rattle.laws_agreement.proofs.Unique.Unique.{definitions_are_one}
use Rattle.std.specs.List.{AllByRecursion}
use Rattle.laws_runs.specs.Defined.Defined.{IsDefinedBy, named_call}
use Rattle.laws_runs.proofs.Defined.Calls.{words_invoke_recipes}
use Rattle.laws_runs.specs.Running.Running.{IsToldEnd, action_end, outcome_of}
use Rattle.laws_runs.proofs.Running.Running.Commanding.{commands_are_named}
use Rattle.laws_runs.proofs.Running.Running.Begun.{calls_begin_named}
use Rattle.laws_runs.proofs.Running.Running.BegunActions.{commands_begin_named, evaluations_begin_named}
use Rattle.laws_runs.proofs.Running.Running.Calls.{calls_run_named}
use Rattle.laws_runs.proofs.Running.Running.Telling.{evaluations_are_named}
use Rattle.laws_runs.proofs.Running.Running.There.{root_there, target_there}
use Rattle.laws_runs.specs.Running.Told.{IsThere}
use Rattle.laws_modules.specs.Names.Names.{AreSingle, IsOfWorld}
use Rattle.resolve_analysis.specs.declared.module_lists.ModuleLists.{ModuleLists}
use Rattle.std.proofs.lemmas.Option.{same_Some}
use Rattle.just_run.specs.Named.{CommandTo, End, GoesAlike, GoesAsReached, GoesNamed, IsCertainEnd, IfCommanded, IfRan, IfTold, IsListed, IsMeant, IsMeantAsReached, Left, PlanTold, PlansNamed, RunsBetween, RunsNamed, ValuesTo, as_run}
use Rattle.just_run.specs.Named as named
use Rattle.just_run.proofs.PlansTold.{if_ran_more, plan_told}
use Rattle.just_run.specs.Passed.{task_fault}
use Rattle.just_run.specs.Ran.{Answers, EndsTask, GoesPlaced, PlanEnds, PlansTask, does, plan_answer, plans, tells, unwritten, written}
use Rattle.just_run.specs.Sources.{Asked, TellsDefined, TellsPlaced, TellsWords, broken, clear}
use Rattle.just_run.specs.Texts.{TellsRoot}
use Rattle.just_run.specs.Writes.{Writes}
use Rattle.just_run.proofs.RootTexts.{told_answered, told_dumped, told_listed}
use Rattle.justfile_syntax.specs.Laws.{SaysAtMostOne}
use Rattle.meaning_rules.specs.Worlds.Matching.{MatchSources}
use Rattle.meaning_texts.specs.Laws.{IsCompiledFrom}
use Rattle.just_run.specs.declared.fault.Fault.{Fault}
use Rattle.just_run.specs.declared.fault.Fault.TheVariants as results
use Rattle.just_run.specs.declared.outcome.Outcome.{Outcome}
use Rattle.just_run.specs.declared.outcome.Outcome.TheVariants as outcomes

-- ---- how a run ends

-- the answer of a run
abbrev run_answer : Result Performed TaskFault → Result Outcome Fault
run_answer (Ok performed) = Ok outcomes.Ran
run_answer (Err fault) = Err (task_fault fault)

module _ (exhausted : Bool) (calls : Vec Call) (P : TaskEnd → Type 0) (Q : End → Type 0) (there : (end : RunEnd) → IsToldEnd end → P (ends_as end) → Q (outcome_of end)) where
  ended_so : (performed : Result Performed TaskFault) → IfPerformed (of_task.Run calls) exhausted performed P → IfRan exhausted (run_answer performed) Q
  ended_so (Ok Ran) h = λ e. there ran tt (h.1 e)
  ended_so (Ok (Evaluated text)) h = absurd h.0
  ended_so (Err (tasks.Opening openings.OutOfMemory)) h = tt
  ended_so (Err (tasks.Opening (openings.Dotenv fault))) h = there (not_opened _) tt h.1
  ended_so (Err (tasks.Opening (openings.Opening error))) h = λ n. there (not_opened _) tt h.1
  ended_so (Err (tasks.Run faults.OutOfMemory)) h = tt
  ended_so (Err (tasks.Run (faults.Evaluation error))) h = λ e n. let told : evaluation (fault_of error) ≢ evaluation memory = λ q. n (cc q) in there (failed _) told (h.1 e told)
  ended_so (Err (tasks.Run (faults.Code recipe code silent))) h = λ e. there (failed _) (λ q. absurd (cc q)) (h.1 e (λ q. absurd (cc q)))
  ended_so (Err (tasks.Run (faults.Signal recipe signal silent))) h = λ e. there (failed _) (λ q. absurd (cc q)) (h.1 e (λ q. absurd (cc q)))
  ended_so (Err (tasks.Run (faults.CouldNotStart recipe))) h = λ e. there (failed _) (λ q. absurd (cc q)) (h.1 e (λ q. absurd (cc q)))
  ended_so (Err (tasks.Run (faults.NotConfirmed recipe))) h = λ e. there (failed _) (λ q. absurd (cc q)) (h.1 e (λ q. absurd (cc q)))
  ended_so (Err (tasks.Command fault)) h = absurd h.0

-- what is answered of a run, and that it writes nothing
run_told : (left : Left) (result : Result Outcome Fault) (calls : Vec Call) (performed : Result Performed TaskFault) → Fits (of_task.Run calls) performed → Answers left performed result → (result ≡ run_answer performed) × (left.sends.written ≡ left.sent.written)
run_told left result calls (Ok Ran) fits a = a
run_told left result calls (Ok (Evaluated text)) fits a = absurd fits
run_told left result calls (Err fault) fits a = a

-- what is answered of a plan, as the run's answer
planned_told : (performed : Result Performed TaskFault) → as_run (plan_answer performed) ≡ run_answer performed
planned_told (Ok performed) = refl
planned_told (Err (tasks.Opening openings.OutOfMemory)) = refl
planned_told (Err (tasks.Opening (openings.Dotenv fault))) = refl
planned_told (Err (tasks.Opening (openings.Opening error))) = refl
planned_told (Err (tasks.Run faults.OutOfMemory)) = refl
planned_told (Err (tasks.Run (faults.Evaluation error))) = refl
planned_told (Err (tasks.Run (faults.Code recipe code silent))) = refl
planned_told (Err (tasks.Run (faults.Signal recipe signal silent))) = refl
planned_told (Err (tasks.Run (faults.CouldNotStart recipe))) = refl
planned_told (Err (tasks.Run (faults.NotConfirmed recipe))) = refl
planned_told (Err (tasks.Command fault)) = refl

-- ---- how values are told, and how a command ends

module _ (left : Left) (result : Result Outcome Fault) (Q : ActionEnd → Type 0) where
  -- the text is written, or a beginning of it
  written_so : (text : List ℕ) (r : Result Outcome Fault) → Writes left.sent text outcomes.Evaluated r left.sends → Q (actions.written text) → IfTold left r Q
  written_so text (Ok answer) a q = subst (λ o. IfTold left (Ok o) Q) (sym a.0) (text, a.1, q)
  written_so text (Err results.Write) a q = (text, a.0, q)
  written_so text (Err results.OutOfMemory) a q = tt
  written_so text (Err (results.NoRootForWord word)) a q = absurd a
  written_so text (Err (results.Justfile error)) a q = absurd a
  written_so text (Err (results.Words fault)) a q = absurd a
  written_so text (Err (results.Dotenv fault)) a q = absurd a
  written_so text (Err (results.Opening error)) a q = absurd a
  written_so text (Err (results.Evaluation error)) a q = absurd a
  written_so text (Err (results.Code recipe code is_silent)) a q = absurd a
  written_so text (Err (results.Signal recipe signal is_silent)) a q = absurd a
  written_so text (Err (results.CouldNotStart recipe)) a q = absurd a
  written_so text (Err (results.NotConfirmed recipe)) a q = absurd a
  written_so text (Err (results.Command fault)) a q = absurd a
  written_so text (Err (results.NotPrintable path)) a q = absurd a

  module _ (P : TaskEnd → Type 0) (there : (end : TaskEnd) → P end → Q (action_end true end)) where
    values_so : (target : EvaluationTarget) (performed : Result Performed TaskFault) → Answers left performed result → IfPerformed (of_task.Evaluate target) left.exhausted performed P → IfTold left result Q
    values_so target (Ok Ran) a h = absurd h.0
    values_so target (Ok (Evaluated text)) a h = written_so (string_bytes text) result a (there _ h.1)
    values_so target (Err (tasks.Opening openings.OutOfMemory)) a h = subst (λ r. IfTold left r Q) (sym a.0) tt
    values_so target (Err (tasks.Opening (openings.Dotenv fault))) a h = subst (λ r. IfTold left r Q) (sym a.0) (there (ends_as (not_opened _)) h.1)
    values_so target (Err (tasks.Opening (openings.Opening error))) a h = subst (λ r. IfTold left r Q) (sym a.0) (λ n. there (ends_as (not_opened _)) h.1)
    values_so target (Err (tasks.Run fault)) a h =
        let memory_told : result ≡ Err results.OutOfMemory = subst (λ f. result ≡ Err (task_fault (tasks.Run f))) h.0 a.0 in
        subst (λ r. IfTold left r Q) (sym memory_told) tt
    values_so target (Err (tasks.Command fault)) a h = absurd h.0

    -- how a command ends by its status
    command_so : (r : Result Next Failure) → P (end_by r) → Q (actions.end_of (without_next r))
    command_so (Ok next) p = there (ends_as ran) p
    command_so (Err failure) p = there (command_failed failure) p

    commanded_so : (words : Bor (List (List ℕ))) (performed : Result Performed TaskFault) → Answers left performed result → IfPerformed (of_task.Command words) left.exhausted performed P → IfCommanded left.exhausted result Q
    commanded_so words (Ok Ran) a h = subst (λ r. IfCommanded left.exhausted r Q) (sym a.0) (λ e. there (ends_as ran) (h.1 e))
    commanded_so words (Ok (Evaluated text)) a h = absurd h.0
    commanded_so words (Err (tasks.Opening openings.OutOfMemory)) a h = subst (λ r. IfCommanded left.exhausted r Q) (sym a.0) tt
    commanded_so words (Err (tasks.Opening (openings.Dotenv fault))) a h = subst (λ r. IfCommanded left.exhausted r Q) (sym a.0) (there (ends_as (not_opened _)) h.1)
    commanded_so words (Err (tasks.Opening (openings.Opening error))) a h = subst (λ r. IfCommanded left.exhausted r Q) (sym a.0) (λ n. there (ends_as (not_opened _)) h.1)
    commanded_so words (Err (tasks.Run fault)) a h =
        let memory_told : result ≡ Err results.OutOfMemory = subst (λ f. result ≡ Err (task_fault (tasks.Run f))) h.0 a.0 in
        subst (λ r. IfCommanded left.exhausted r Q) (sym memory_told) tt
    commanded_so words (Err (tasks.Command fault)) a h = subst (λ r. IfCommanded left.exhausted r Q) (sym a.0) (λ e. command_so (next_by fault.word no_sigils fault.status) (h.1 e))

-- ---- what words name

module _ (w : World) (compilation : Compilation) (is : IsOfWorld w compilation) (single : AreSingle w compilation) (lists : List ModuleLists) where
  -- what words name for values is there
  values_there : (words : List (List ℕ)) (target : EvaluationTarget) → values_of compilation.modules.items lists words ≡ Some target → IsThere compilation target
  values_there [] target e = subst (IsThere compilation) (same_Some (Module 0) target e) (root_there w compilation is single lists)
  values_there (word ∷ []) target e = target_there w compilation is single lists word target e
  values_there (word ∷ other ∷ words) target e = absurd (cc e)

-- ---- what is told

module _ (source : Given) (w : World) (stands : StandsFor source w) (clear_of_files : files.BreaksNone w) (o : Overrides) (clear_of_names : names.BreaksNone w o) where
  -- no rule is broken
  no_rule : BreaksNoRule w o
  no_rule rule breach = by_kind (is_of_sources rule) refl
    where
      by_kind : (b : Bool) → is_of_sources rule ≡ b → ⊥
      by_kind true e = clear_of_files o rule e breach
      by_kind false e = clear_of_names rule e breach

  module _ (base working : Text) (defined : Definitions) (are : AreDefined w o base working defined) (read : IsRead w) (rows_there : HaveRows defined) where
    -- how a run ends that ends with no `internal`
    certain_end : (end : End) → ((fault : EvaluationFault) → (end ≡ run_ends.failed (evaluation fault)) ⊎ (end ≡ run_ends.not_opened (opening fault)) → is_internal fault ≡ false) → IsCertainEnd end
    certain_end (run_ends.broken rule) certain = tt
    certain_end (run_ends.broken_word rule) certain = tt
    certain_end run_ends.listed certain = tt
    certain_end run_ends.unwritten certain = tt
    certain_end (run_ends.not_opened (dotenv fault)) certain = tt
    certain_end (run_ends.not_opened (opening fault)) certain = certain fault (inr refl)
    certain_end (run_ends.failed (by_code name code)) certain = tt
    certain_end (run_ends.failed (by_signal name signal)) certain = tt
    certain_end (run_ends.failed (not_started name)) certain = tt
    certain_end (run_ends.failed (not_confirmed name)) certain = tt
    certain_end (run_ends.failed (evaluation fault)) certain = certain fault (inl refl)
    certain_end run_ends.ran certain = tt

    -- the invocations of words fit
    fitting : (invocations : List (RecipeName × List (List (List ℕ)))) → AllByRecursion (λ i. HasRecipe defined i.0 × (length i.1 ≡ length (parameters_of (defined.recipe i.0)))) invocations
        → AllByRecursion (λ (call : NamedCall). length call.groups ≡ length (parameters_of (defined.recipe call.recipe))) (map call_in invocations)
    fitting [] all = tt
    fitting (i ∷ others) all = (all.0.1, fitting others all.1)

    there : (invocations : List (RecipeName × List (List (List ℕ)))) → AllByRecursion (λ i. HasRecipe defined i.0 × (length i.1 ≡ length (parameters_of (defined.recipe i.0)))) invocations
        → (r : RecipeName) → Contains (map (λ (call : NamedCall). call.recipe) (map call_in invocations)) r → HasRecipe defined r
    there [] all r c = absurd (contains_none [] r refl c)
    there (i ∷ others) all r c = by_case (contains_cases i.0 (map (λ (call : NamedCall). call.recipe) (map call_in others)) r c) (there others all.1)
      where
        by_case : (i.0 ≡ r) ⊎ Contains (map (λ (call : NamedCall). call.recipe) (map call_in others)) r → ((r : RecipeName) → Contains (map (λ (call : NamedCall). call.recipe) (map call_in others)) r → HasRecipe defined r) → HasRecipe defined r
        by_case (inl same) later = subst (HasRecipe defined) same all.0.0
        by_case (inr more) later = later r more

    -- no run of what words invoke ends with `internal`
    certain_run : (c : Configuration) (words : List (List ℕ)) (invocations : List (RecipeName × List (List (List ℕ)))) → Invoke (menu_of defined) words invocations → (old new : List Entry) (t : Tally) (end : End)
        → Runs c defined (map call_in invocations) old nothing new t end → IsCertainEnd end
    certain_run c words invocations invoke old new t end run =
        let all = invoked_are_known w o no_rule read base working defined are words invocations invoke in
        let known = defined_are_known w o no_rule read (worlds_are_in_order source w stands) base working defined are rows_there c.no_dependencies (map (λ (call : NamedCall). call.recipe) (map call_in invocations)) (there invocations all) in
        certain_end end (λ fault is. runs_end_certainly c defined (map call_in invocations) old new nothing t end fault known.0 known.1 known.2 (fitting invocations all) run is)

    -- no evaluation of values ends with `internal`
    certain_values : (c : Configuration) (words : List (List ℕ)) (left : Left) (result : Result Outcome Fault) (end : ActionEnd) → EvaluateGoes c defined true words left.before left.behind end → ValuesTo c defined words left result end
    certain_values c words left result end goes = (evaluations_end_certainly c defined true words left.before left.behind end (kept_are_known w o no_rule read base working defined are).0 goes, goes)

    -- no one command ends with `internal`
    certain_command : (c : Configuration) (words : List (List ℕ)) (left : Left) (result : Result Outcome Fault) (end : ActionEnd) → CommandGoes c defined words left.before left.behind end → CommandTo c defined words left result end
    certain_command c words left result end goes =
        let known = defined_are_known w o no_rule read (worlds_are_in_order source w stands) base working defined are rows_there c.no_dependencies [] (λ r there. absurd (contains_none [] r refl there)) in
        (commands_end_certainly c defined words left.before left.behind end known.1 goes, goes)

    -- each run of what the same words invoke goes alike
    alike_run : (c : Configuration) (words : List (List ℕ)) (left : Left) (result : Result Outcome Fault) (invocations : List (RecipeName × List (List (List ℕ)))) → Invoke (menu_of defined) words invocations
        → (old new : List Entry) (t : Tally) (end : End) (run : Runs c defined (map call_in invocations) old nothing new t end) → GoesAlike c defined words left result run
    alike_run c words left result invocations invoke old new t end run = λ f agrees others also old' new' t' end' other too.
        runs_go_alike ⊥ w o no_rule read (worlds_are_in_order source w stands) base working defined defined are are rows_there c words invocations others invoke also f old new t end run agrees old' new' t' end' other too

    -- the input of the call breaks no rule
    own_input : IsClear w o base working defined
    own_input = record { none = no_rule; read = read; order = worlds_are_in_order source w stands; are = are; rows = rows_there }

    -- by answers that it agrees with a run goes as they mean
    meant_run : (c : Configuration) (words : List (List ℕ)) (left : Left) (result : Result Outcome Fault) (invocations : List (RecipeName × List (List (List ℕ)))) → Invoke (menu_of defined) words invocations
        → (old new : List Entry) (t : Tally) (end : End) (run : Runs c defined (map call_in invocations) old nothing new t end) → IsMeant c defined words left result run
    meant_run c words left result invocations invoke old new t end run = λ f agrees.
        invoked_go_naively dependencies_fall ⊥ w o no_rule read (worlds_are_in_order source w stands) base working defined are rows_there c words invocations invoke f old new t end run agrees

    -- each run of the same calls by an input that agrees on what is reached goes alike
    reached_run : (c : Configuration) (words : List (List ℕ)) (left : Left) (result : Result Outcome Fault) (invocations : List (RecipeName × List (List (List ℕ)))) → Invoke (menu_of defined) words invocations
        → (old new : List Entry) (t : Tally) (end : End) (run : Runs c defined (map call_in invocations) old nothing new t end) → GoesAsReached c defined words left result invocations run
    reached_run c words left result invocations invoke old new t end run = λ f agrees w' o' base' working' other clear' others also agree old' new' t' end' run' agrees'.
        reach_decides ⊥ w w' o o' base working base' working' defined other own_input clear' c words others invocations invoke also agree f old new t end run agrees old' new' t' end' run' agrees'

    -- and this run goes as answers mean by each such input
    meant_as_reached : (c : Configuration) (words : List (List ℕ)) (left : Left) (result : Result Outcome Fault) (invocations : List (RecipeName × List (List (List ℕ)))) → Invoke (menu_of defined) words invocations
        → (old new : List Entry) (t : Tally) (end : End) (run : Runs c defined (map call_in invocations) old nothing new t end) → IsMeantAsReached c defined words left result invocations run
    meant_as_reached c words left result invocations invoke old new t end run = λ f agrees w' o' base' working' other clear' others also agree.
        reached_go_naively ⊥ w w' o o' base working base' working' defined other own_input clear' c words others invocations invoke also agree f old new t end run agrees

    -- so what words invoke runs, from one record to another
    between : (c : Configuration) (words : List (List ℕ)) (left : Left) (result : Result Outcome Fault) (invocations : List (RecipeName × List (List (List ℕ)))) → Invoke (menu_of defined) words invocations
        → (old new : List Entry) (t : Tally) (end : End) → Runs c defined (map call_in invocations) old nothing new t end → RunsBetween c defined words left result old new invocations end
    between c words left result invocations invoke old new t end run = (
      certain_run c words invocations invoke old new t end run,
      (
        t,
        run,
        alike_run c words left result invocations invoke old new t end run,
        meant_run c words left result invocations invoke old new t end run,
        reached_run c words left result invocations invoke old new t end run,
        meant_as_reached c words left result invocations invoke old new t end run,
      ),
    )

    -- what the world defines is one
    defined_once : (other : Definitions) → AreDefined w o base working other → other ≡ defined
    defined_once other too = definitions_are_one w o base working other defined too are

module _ (source : Given) (w : World) (stands : StandsFor source w) (clear_of_files : files.BreaksNone w) (compilation : Compilation) (resolvable : IsResolvable w compilation) (asked : Asked) (root : List ℕ) (left : Left) (result : Result Outcome Fault) (analysis : Analysis)
    (one : SaysAtMostOne) (files_told : MatchSources source compilation) (same_os : source.os ≡ asked.config.os) (clear_of_names : names.BreaksNone w (overrides_of asked.words.overrides)) (known : IsAnalysis compilation (string_bytes asked.config.base) asked.words.overrides analysis) where
  abbrev Defined : Type 0
  Defined = IsDefinedBy w compilation asked.words.overrides (string_bytes asked.config.base) (string_bytes asked.config.working_directory) analysis asked.words.arguments

  abbrev configuration : Configuration
  configuration = configuration_of asked.config root w.expansion

  -- what is known of the files, and what is told of a text of the root
  told_whole : IsCompiledFrom source w compilation
  told_whole = record { same_root = stands.same_root; of = resolvable.numbered.of; single = resolvable.numbered.single; sources = files_told }

  abbrev TellsText : RootText → Type 0
  TellsText text = TellsRoot compilation asked.config.os root text left.sent result left.sends

  listed_so : TellsText texts.List → IsListed source w root left result
  listed_so h = told_listed one source w compilation told_whole asked.config.os same_os root left result h

  -- what the action and the words ask for
  abbrev AskedFor : Action → Request → Type 0
  AskedFor = IsAskedFor compilation analysis asked.words.arguments

  abbrev Invokes : Vec Call → Type 0
  Invokes calls = InvokesAt compilation analysis.table.value analysis.values.value.settings.items asked.words.arguments (rows calls.items)

  abbrev Performs : Task → List Entry → List Entry → TaskEnd → Type 0
  Performs task = PerformsTask compilation analysis asked.config root task

  abbrev Begins : Task → List Entry → List Entry → Type 0
  Begins task = BeginsTask compilation analysis asked.config root task

  -- calls by their names
  named_calls : (calls : List CallRow) → map call_in (map (named_call compilation analysis) calls) ≡ map (λ (call : CallRow). let c : NamedCall = record { recipe = name_at compilation analysis.table.value call.recipe; groups = call.groups } in c) calls
  named_calls [] = refl
  named_calls (call ∷ calls) = ap (λ more. (record { recipe = name_at compilation analysis.table.value call.recipe; groups = call.groups }) ∷ more) (named_calls calls)

  -- their recipes are those of the table
  calls_there : (calls : Vec Call) → Invokes calls → CallsAreThere analysis.table.value (rows calls.items)
  calls_there calls invokes = words_invoke_recipes compilation analysis.table.value analysis.values.value.settings.items asked.words.arguments (rows calls.items) invokes

  module _ (d : Defined) where
    abbrev Goes : List Entry → List Entry → Vec Call → End → Type 0
    Goes old new calls = RunsBetween configuration d.defined asked.words.arguments left result old new (map (named_call compilation analysis) (rows calls.items))

    -- calls that run by places run by their names
    named_run : (calls : Vec Call) → Invokes calls → (old new : List Entry) (end : RunEnd) → IsToldEnd end → Performs (of_task.Run calls) old new (ends_as end) → Goes old new calls (outcome_of end)
    named_run calls invokes old new end told goes =
        let r = calls_run_named ⊥ source w compilation stands resolvable asked.words.overrides asked.config analysis known d.settled root calls (calls_there calls invokes) old new end told goes in
        let run = subst (λ (q : Definitions × List NamedCall). (t : Tally) × Runs {Rule = ⊥} configuration q.0 q.1 old (record { calls = 0; entered = 0 }) new t (outcome_of end))
        (λ i. (sym d.is i, sym (named_calls (rows calls.items)) i)) r in
        between source w stands clear_of_files (overrides_of asked.words.overrides) clear_of_names (string_bytes asked.config.base) (string_bytes asked.config.working_directory) d.defined d.are d.read d.rows
        configuration asked.words.arguments left result (map (named_call compilation analysis) (rows calls.items)) (d.invokes (rows calls.items) invokes) old new run.0 (outcome_of end) run.1

    -- a beginning of calls by places is one by their names
    named_begun : (calls : Vec Call) → Invokes calls → (old new : List Entry) → Begins (of_task.Run calls) old new → BeginsRun configuration d.defined (map call_in (map (named_call compilation analysis) (rows calls.items))) old nothing new
    named_begun calls invokes old new begun =
        subst (λ (q : Definitions × List NamedCall). BeginsRun configuration q.0 q.1 old nothing new) (λ i. (sym d.is i, sym (named_calls (rows calls.items)) i))
        (calls_begin_named source w compilation stands resolvable asked.words.overrides asked.config analysis known d.settled root calls (calls_there calls invokes) old new begun)

    -- ---- runs

    run_done : (calls : Vec Call) → Invokes calls → EndsTask left result (of_task.Run calls) (Performs (of_task.Run calls) left.before left.behind) → Begins (of_task.Run calls) left.before left.behind → RunsNamed source w root configuration d.defined asked.words.arguments left result
    run_done calls invokes ends begun =
        let told = run_told left result calls ends.performed ends.ended.0 ends.answers in
        named.runs _ (d.invokes (rows calls.items) invokes)
        (subst (λ r. IfRan left.exhausted r (Goes left.before left.behind calls)) (sym told.0)
        (ended_so left.exhausted calls (Performs (of_task.Run calls) left.before left.behind) (Goes left.before left.behind calls) (λ end so goes. named_run calls invokes left.before left.behind end so goes) ends.performed ends.ended))
        (named_begun calls invokes left.before left.behind begun) told.1

    run_so : (task : Task) → AskedFor requested.Run (requests.Task task) → EndsTask left result task (Performs task left.before left.behind) → Begins task left.before left.behind → RunsNamed source w root configuration d.defined asked.words.arguments left result
    run_so (of_task.Run calls) h ends begun = run_done calls (subst (InvokesAt compilation analysis.table.value analysis.values.value.settings.items asked.words.arguments) (sym h.2) h.1) ends begun
    run_so (of_task.Evaluate target) h ends begun = absurd h.2
    run_so (of_task.Command words) h ends begun = absurd h.2

    run_listed : (text : RootText) → AskedFor requested.Run (requests.Text text) → left.behind ≡ left.before → TellsText text → RunsNamed source w root configuration d.defined asked.words.arguments left result
    run_listed texts.List h same listed = named.none (d.invokes [] (subst (InvokesAt compilation analysis.table.value analysis.values.value.settings.items asked.words.arguments) h.2 h.1)) same (listed_so listed)
    run_listed texts.Dump h same listed = absurd h.2
    run_listed texts.Format h same listed = absurd h.2

    -- ---- plans

    plan_ran : (calls : Vec Call) → Invokes calls → (entries : List Entry) (performed : Result Performed TaskFault) → PlanEnds result (of_task.Run calls) performed (Performs (of_task.Run calls) [] entries) → IfRan false (as_run result) (Goes [] entries calls)
    plan_ran calls invokes entries performed (written is goes) =
        subst (λ r. IfRan false r (Goes [] entries calls)) (sym (ap as_run is ∙ planned_told performed))
        (ended_so false calls (Performs (of_task.Run calls) [] entries) (Goes [] entries calls) (λ end so goes. named_run calls invokes [] entries end so goes) performed goes)
    plan_ran calls invokes entries performed (unwritten (inl is)) = subst (λ r. IfRan false r (Goes [] entries calls)) (sym (ap as_run is)) tt
    plan_ran calls invokes entries performed (unwritten (inr is)) = subst (λ r. IfRan false r (Goes [] entries calls)) (sym (ap as_run is)) tt

    plan_so : (calls : Vec Call) → AskedFor requested.Plan (requests.Plan calls) → PlansTask left result (of_task.Run calls) (Performs (of_task.Run calls) []) (Begins (of_task.Run calls) []) → PlansNamed source w root configuration d.defined asked.words.arguments left result
    plan_so calls h p =
        let invokes = subst (InvokesAt compilation analysis.table.value analysis.values.value.settings.items asked.words.arguments) (sym h.2) h.1 in
        let ran = plan_ran calls invokes p.entries p.performed p.ended in
        named.plans _ (d.invokes (rows calls.items) invokes) (record {
          entries = p.entries;
          asked = p.asked;
          written = p.written;
          ran = ran;
          begun = named_begun calls invokes [] p.entries p.begun;
          answered = p.answered;
          told = if_ran_more false (Goes [] p.entries calls) (PlanTold configuration d.defined asked.words.arguments left result p.entries (map (named_call compilation analysis) (rows calls.items)))
              (λ end goes. plan_told configuration d.defined asked.words.arguments left result p.entries (map (named_call compilation analysis) (rows calls.items)) end goes) (as_run result) ran;
        })

    plan_listed : (text : RootText) → AskedFor requested.Plan (requests.Text text) → left.behind ≡ left.before → TellsText text → PlansNamed source w root configuration d.defined asked.words.arguments left result
    plan_listed texts.List h same listed = named.none (d.invokes [] (subst (InvokesAt compilation analysis.table.value analysis.values.value.settings.items asked.words.arguments) h.2 h.1)) same (listed_so listed)
    plan_listed texts.Dump h same listed = absurd h.2
    plan_listed texts.Format h same listed = absurd h.2

    -- ---- values

    values_told : (target : EvaluationTarget) → values_of compilation.modules.items analysis.variables.lists.items asked.words.arguments ≡ Some target → EndsTask left result (of_task.Evaluate target) (Performs (of_task.Evaluate target) left.before left.behind)
        → IfTold left result (ValuesTo configuration d.defined asked.words.arguments left result)
    values_told target is ends =
        let t = d.targets target is in
        values_so left result (ValuesTo configuration d.defined asked.words.arguments left result) (Performs (of_task.Evaluate target) left.before left.behind)
        (λ end goes. certain_values source w stands clear_of_files (overrides_of asked.words.overrides) clear_of_names (string_bytes asked.config.base) (string_bytes asked.config.working_directory)
        d.defined d.are d.read d.rows configuration asked.words.arguments left result (action_end true end)
        (subst (λ defined. EvaluateGoes configuration defined true asked.words.arguments left.before left.behind (action_end true end)) (sym d.is)
        (evaluations_are_named source w compilation stands resolvable asked.words.overrides asked.config analysis known d.settled root target (values_there w compilation resolvable.numbered.of resolvable.numbered.single analysis.variables.lists.items asked.words.arguments target is) asked.words.arguments t.0 t.2
        (subst (λ (defined : Definitions). values_named defined asked.words.arguments ≡ Some t.0) d.is t.1) true left.before left.behind end goes)))
        target ends.performed ends.answers ends.ended

    values_begun : (target : EvaluationTarget) → Begins (of_task.Evaluate target) left.before left.behind → BeginsEvaluate configuration d.defined left.before left.behind
    values_begun target begun =
        subst (λ defined. BeginsEvaluate configuration defined left.before left.behind) (sym d.is)
        (evaluations_begin_named source w compilation stands resolvable asked.words.overrides asked.config analysis known d.settled root target left.before left.behind begun)

    values_done : (task : Task) → AskedFor requested.Evaluate (requests.Task task) → EndsTask left result task (Performs task left.before left.behind) → Begins task left.before left.behind → IfTold left result (ValuesTo configuration d.defined asked.words.arguments left result) × BeginsEvaluate configuration d.defined left.before left.behind
    values_done task h ends begun =
        let same : task ≡ of_task.Evaluate h.0 = cc h.2 in
        (values_told h.0 h.1 (subst (λ t. EndsTask left result t (Performs t left.before left.behind)) same ends), values_begun h.0 (subst (λ t. Begins t left.before left.behind) same begun))

    -- ---- the command

    command_done : (task : Task) → AskedFor requested.Command (requests.Task task) → EndsTask left result task (Performs task left.before left.behind) → Begins task left.before left.behind
        → IfCommanded left.exhausted result (CommandTo configuration d.defined asked.words.arguments left result) × BeginsCommand configuration d.defined asked.words.arguments left.before left.behind
    command_done (of_task.Run calls) h ends begun = absurd h
    command_done (of_task.Evaluate target) h ends begun = absurd h
    command_done (of_task.Command words) h ends begun = (
      commanded_so left result (CommandTo configuration d.defined asked.words.arguments left result) (Performs (of_task.Command words) left.before left.behind)
          (λ end goes. certain_command source w stands clear_of_files (overrides_of asked.words.overrides) clear_of_names (string_bytes asked.config.base) (string_bytes asked.config.working_directory)
          d.defined d.are d.read d.rows configuration asked.words.arguments left result (action_end true end)
          (subst (λ (q : Definitions × List (List ℕ)). CommandGoes configuration q.0 q.1 left.before left.behind (action_end true end)) (λ i. (sym d.is i, h.0 i))
          (commands_are_named source w compilation stands resolvable asked.words.overrides asked.config analysis known d.settled root words (λ e. h.1 (sym h.0 ∙ e)) true left.before left.behind end goes)))
          words ends.performed ends.answers ends.ended,
      subst (λ (q : Definitions × List (List ℕ)). BeginsCommand configuration q.0 q.1 left.before left.behind) (λ i. (sym d.is i, h.0 i))
          (commands_begin_named source w compilation stands resolvable asked.words.overrides asked.config analysis known d.settled root words left.before left.behind begun),
    )

    -- ---- whatever is asked for

    goes_so : (action : Action) → GoesPlaced compilation analysis asked.config root asked.words.arguments left result action → GoesNamed source w root configuration d.defined asked.words.arguments left result action
    goes_so requested.Run (does task h ends begun) = run_so task h ends begun
    goes_so requested.Run (plans calls h p) = absurd h.2
    goes_so requested.Run (tells text h same listed) = run_listed text h same listed
    goes_so requested.Plan (does task h ends begun) = absurd h.2
    goes_so requested.Plan (plans calls h p) = plan_so calls h p
    goes_so requested.Plan (tells text h same listed) = plan_listed text h same listed
    goes_so requested.Evaluate (does task h ends begun) = values_done task h ends begun
    goes_so requested.Evaluate (plans calls h p) = absurd (cc h.2)
    goes_so requested.Evaluate (tells text h same listed) = absurd (cc h.2)
    goes_so requested.Command (does task h ends begun) = command_done task h ends begun
    goes_so requested.Command (plans calls h p) = absurd h
    goes_so requested.Command (tells text h same listed) = absurd h
    goes_so requested.Dump (does task h ends begun) = absurd (cc h.1)
    goes_so requested.Dump (plans calls h p) = absurd (cc h.1)
    goes_so requested.Dump (tells text h same told) = let is : text ≡ texts.Dump = cc h.1 in told_dumped one source w compilation told_whole asked.config.os same_os root left result (subst TellsText is told)
    goes_so requested.Format (does task h ends begun) = absurd (cc h.1)
    goes_so requested.Format (plans calls h p) = absurd (cc h.1)
    goes_so requested.Format (tells text h same told) = let is : text ≡ texts.Format = cc h.1 in told_answered one source w compilation told_whole asked.config.os same_os root left result (subst TellsText is told)
    goes_so requested.List (does task h ends begun) = absurd (cc h.1)
    goes_so requested.List (plans calls h p) = absurd (cc h.1)
    goes_so requested.List (tells text h same told) = let is : text ≡ texts.List = cc h.1 in listed_so (subst TellsText is told)

    told_words : TellsPlaced compilation analysis asked root left result → TellsWords source asked root left result w d.defined
    told_words (broken fault is breaks) = broken fault is (d.breaks asked.action fault breaks)
    told_words (clear means other goes) = clear (d.means asked.action means) other (goes_so asked.action goes)

  -- where the justfile's analysis has what is defined in the world
  pub told_defined : Defined → TellsPlaced compilation analysis asked root left result → TellsDefined source asked root left result w
  told_defined d told = record {
    defined = d.defined;
    are = d.are;
    one = defined_once source w stands clear_of_files (overrides_of asked.words.overrides) clear_of_names (string_bytes asked.config.base) (string_bytes asked.config.working_directory) d.defined d.are d.read d.rows;
    read = d.read;
    rows = d.rows;
    words = told_words d told;
  }
