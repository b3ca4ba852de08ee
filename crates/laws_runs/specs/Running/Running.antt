-- Tasks that are done by places, from the opening of modules on, and by names.
use Rattle.std.specs.Prelude.{◌≡◌, ◌≢◌, ℕ, Bool, List, [], Some, map}
use Rattle.std.specs.Borrow.{Bor}
use Rattle.std.specs.Global.{Vec}
use Rattle.std.specs.String.{string_bytes}
use Rattle.just_host.specs.declared.config.Config.{Config}
use Rattle.just_host.specs.declared.entry.Entry.{Entry}
use Rattle.just_value.specs.declared.positional.Override.{Override}
use Rattle.modules_compilation.specs.declared.compilation.Compilation.{Compilation}
use Rattle.resolve_analysis.specs.declared.analysis.Analysis.{Analysis}
use Rattle.just_resolve.specs.Analysis.{IsAnalysis}
use Rattle.just_resolve.specs.Rules.{IsResolvable}
use Rattle.analyze_calls.specs.Calls.{rows}
use Rattle.analyze_calls.specs.declared.call.Call.{Call}
use Rattle.justfile_analyzer.specs.declared.target.EvaluationTarget.{EvaluationTarget}
use Rattle.run_tasks.specs.Performed.{RunEnd, TaskEnd, ends_as, told}
use Rattle.run_tasks.specs.Performed as ends
use Rattle.run_tasks.specs.declared.task.Task.TheVariants.{Command, Evaluate, Run}
use Rattle.run_tasks.specs.Prepared.Performed.{PerformsTask}
use Rattle.meaning_runs.specs.Tallies.{Tally}
use Rattle.meaning_rules.specs.Worlds.Given.{Given, Text, World}
use Rattle.meaning_rules.specs.Worlds.Standing.{StandsFor}
use Rattle.meaning_rules.specs.Overrides.{overrides_of}
use Rattle.just_meaning.specs.Actions.{ActionEnd, CommandGoes, EvaluateGoes, Target, command_failed, done, target_of, writing}
use Rattle.just_meaning.specs.Actions as actions
use Rattle.just_meaning.specs.Runs.{Outcome, Runs, failed, not_opened, ran}
use Rattle.laws_runs.specs.Settings.Settled.{AllSettle}
use Rattle.laws_runs.specs.Menus.Calls.{CallsAreThere}
use Rattle.laws_runs.specs.Menus.Targets.{IsNamedTarget}
use Rattle.just_meaning.specs.Configured.{configuration_of}
use Rattle.laws_runs.specs.Running.Steps.{IsTold, defined, named}
use Rattle.laws_runs.specs.Running.Told.{IsThere}

-- ---- ends

-- how a run by names ends where it ends so by places
abbrev pub outcome_of : {Rule : Type 0} → RunEnd → Outcome Rule
outcome_of (ends.not_opened failure) = not_opened failure
outcome_of (ends.failed failure) = failed failure
outcome_of ends.ran = ran

-- how an action by names that opens modules ends where its task ends so, and its text is written or not
abbrev pub action_end : Bool → TaskEnd → ActionEnd
action_end writes (ends_as (ends.not_opened failure)) = actions.not_opened failure
action_end writes (ends_as (ends.failed failure)) = command_failed failure
action_end writes (ends_as ends.ran) = done
action_end writes (told text) = writing writes text
action_end writes (ends.command_failed failure) = command_failed failure

-- an end but that memory ran out for a recipe
abbrev pub IsToldEnd : RunEnd → Type 0
IsToldEnd (ends.not_opened failure) = Unit {0}
IsToldEnd (ends.failed failure) = IsTold failure
IsToldEnd ends.ran = Unit {0}

-- ---- calls

module _ (w : World) (compilation : Compilation) (given : List Override) (analysis : Analysis) (settled : AllSettle w (overrides_of given) compilation analysis.values.value.settings.items) (calls : Vec Call) where
  -- the calls run by names, with a tally that begins at nothing
  abbrev pub RunsNamed : Type 0 → Config → List ℕ → List Entry → List Entry → RunEnd → Type 0
  RunsNamed Rule config root old new end = (t : Tally) × Runs {Rule = Rule} (configuration_of config root w.expansion) (defined w compilation given (string_bytes config.base) analysis settled config root)
      (map (named w compilation given (string_bytes config.base) analysis settled config root) (rows calls.items)) old (record { calls = 0; entered = 0 }) new t (outcome_of end)

-- Calls of recipes of an analyzed justfile, in a world that arguments stand for, run by names as they run by places, from the opening of modules on, unless memory runs out.
abbrev pub RunsCalledAreNamed : Type 0 → Type 0
RunsCalledAreNamed Rule = (source : Given) (w : World) (compilation : Compilation) → StandsFor source w → IsResolvable w compilation
    → (given : List Override) (config : Config) (analysis : Analysis) → IsAnalysis compilation (string_bytes config.base) given analysis → (settled : AllSettle w (overrides_of given) compilation analysis.values.value.settings.items)
    → (root : List ℕ) (calls : Vec Call) → CallsAreThere analysis.table.value (rows calls.items)
    → (old new : List Entry) (end : RunEnd) → IsToldEnd end → PerformsTask compilation analysis config root (Run calls) old new (ends_as end)
    → RunsNamed w compilation given analysis settled calls Rule config root old new end

-- ---- values and the command

-- Values of an analyzed justfile, in a world that arguments stand for, are told by names as they are told by places, from the opening of modules on, unless memory runs out.
abbrev pub EvaluationsAreNamed : Type 0
EvaluationsAreNamed = (source : Given) (w : World) (compilation : Compilation) → StandsFor source w → IsResolvable w compilation
    → (given : List Override) (config : Config) (analysis : Analysis) → IsAnalysis compilation (string_bytes config.base) given analysis → (settled : AllSettle w (overrides_of given) compilation analysis.values.value.settings.items)
    → (root : List ℕ) (target : EvaluationTarget) → IsThere compilation target
    → (words : List Text) (t : Target) → IsNamedTarget compilation analysis.variables.lists.items (Some target) (Some t)
    → target_of (defined w compilation given (string_bytes config.base) analysis settled config root) words ≡ Some t
    → (writes : Bool) (old new : List Entry) (end : TaskEnd) → PerformsTask compilation analysis config root (Evaluate target) old new end
    → EvaluateGoes (configuration_of config root w.expansion) (defined w compilation given (string_bytes config.base) analysis settled config root) writes words old new (action_end writes end)

-- One or more words are handed over by names as one command as they are by places, from the opening of modules on, unless memory runs out.
abbrev pub CommandsAreNamed : Type 0
CommandsAreNamed = (source : Given) (w : World) (compilation : Compilation) → StandsFor source w → IsResolvable w compilation
    → (given : List Override) (config : Config) (analysis : Analysis) → IsAnalysis compilation (string_bytes config.base) given analysis → (settled : AllSettle w (overrides_of given) compilation analysis.values.value.settings.items)
    → (root : List ℕ) (words : Bor (List Text)) → words.now ≢ []
    → (writes : Bool) (old new : List Entry) (end : TaskEnd) → PerformsTask compilation analysis config root (Command words) old new end
    → CommandGoes (configuration_of config root w.expansion) (defined w compilation given (string_bytes config.base) analysis settled config root) words.now old new (action_end writes end)
