-- How far calls were recorded, however they ended, by places and by names.
use Rattle.std.specs.Prelude.{ℕ, Bool, List, map}
use Rattle.std.specs.Global.{Vec}
use Rattle.std.specs.List.{AllByRecursion}
use Rattle.std.specs.String.{string_bytes}
use Rattle.just_host.specs.declared.config.Config.{Config}
use Rattle.just_host.specs.declared.entry.Entry.{Entry}
use Rattle.just_value.specs.declared.positional.Override.{Override}
use Rattle.modules_compilation.specs.declared.compilation.Compilation.{Compilation}
use Rattle.resolve_analysis.specs.declared.analysis.Analysis.{Analysis}
use Rattle.just_resolve.specs.Analysis.{IsAnalysis}
use Rattle.just_resolve.specs.Rules.{IsResolvable}
use Rattle.analyze_calls.specs.Calls.{CallRow, rows}
use Rattle.analyze_calls.specs.declared.call.Call.{Call}
use Rattle.analyze_calls.specs.declared.plan.Runner.{Runner}
use Rattle.analyze_calls.specs.Runs.Cut as by_place
use Rattle.analyze_calls.specs.Runs.Steps.{parts}
use Rattle.run_tasks.specs.declared.task.Task.TheVariants.{Command, Evaluate, Run}
use Rattle.run_tasks.specs.Prepared.Begun.{BeginsTask}
use Rattle.std.specs.Borrow.{Bor}
use Rattle.justfile_analyzer.specs.declared.target.EvaluationTarget.{EvaluationTarget}
use Rattle.meaning_runs.specs.Tallies.{Tally}
use Rattle.meaning_rules.specs.Worlds.Given.{Given, Text, World}
use Rattle.meaning_rules.specs.Worlds.Standing.{StandsFor}
use Rattle.meaning_rules.specs.Overrides.{overrides_of}
use Rattle.just_meaning.specs.Begun as by_name
use Rattle.just_meaning.specs.Opening.{Opened}
use Rattle.laws_runs.specs.Settings.Settled.{AllSettle}
use Rattle.laws_runs.specs.Menus.Calls.{CallsAreThere}
use Rattle.just_meaning.specs.Configured.{configuration_of}
use Rattle.laws_runs.specs.Alike.Cut.{CutsAlike}
use Rattle.laws_runs.specs.Running.Entered.{IsEnteredAlike}
use Rattle.laws_runs.specs.Running.Steps.{IsRunning, RestsOn, defined, named}

-- What was recorded of a step of a call by places that was cut, or that failed for want of memory, is a beginning of what the step records by names, for calls of recipes that run.
abbrev pub StepsBeginNamed : Type 0
StepsBeginNamed = (w : World) (compilation : Compilation) (given : List Override) (base : Text) (analysis : Analysis) (settled : AllSettle w (overrides_of given) compilation analysis.values.value.settings.items) (config : Config) (root : List ℕ)
    (called : List ℕ) (is_read : ℕ → Bool) (runner : Runner) (opened : List Opened) → RestsOn w compilation given base analysis settled config root called is_read runner opened
    → CutsAlike (parts runner) (by_place.cuts runner) (by_name.cuts (configuration_of config root w.expansion) (defined w compilation given base analysis settled config root) opened)
    (IsRunning w compilation given base analysis settled config root called) (named w compilation given base analysis settled config root) (IsEnteredAlike runner)

-- So it is of a run of such calls, which is counted as the meaning has it.
abbrev pub RunsBeginNamed : Type 0
RunsBeginNamed = (w : World) (compilation : Compilation) (given : List Override) (base : Text) (analysis : Analysis) (settled : AllSettle w (overrides_of given) compilation analysis.values.value.settings.items) (config : Config) (root : List ℕ)
    (called : List ℕ) (is_read : ℕ → Bool) (runner : Runner) (opened : List Opened) → RestsOn w compilation given base analysis settled config root called is_read runner opened
    → (calls : List CallRow) (old new : List Entry) (t : Tally) → AllByRecursion (IsRunning w compilation given base analysis settled config root called) calls → by_place.BeginsRun runner calls old t new
    → by_name.BeginsCalls (configuration_of config root w.expansion) (defined w compilation given base analysis settled config root) opened (map (named w compilation given base analysis settled config root) calls) old t new

-- What was recorded of calls of recipes of an analyzed justfile, in a world that arguments stand for, from the opening of modules on, is the beginning of what a run of them by names records, with a tally that begins at nothing.
abbrev pub CallsBeginNamed : Type 0
CallsBeginNamed = (source : Given) (w : World) (compilation : Compilation) → StandsFor source w → IsResolvable w compilation
    → (given : List Override) (config : Config) (analysis : Analysis) → IsAnalysis compilation (string_bytes config.base) given analysis → (settled : AllSettle w (overrides_of given) compilation analysis.values.value.settings.items)
    → (root : List ℕ) (calls : Vec Call) → CallsAreThere analysis.table.value (rows calls.items)
    → (old new : List Entry) → BeginsTask compilation analysis config root (Run calls) old new
    → by_name.BeginsRun (configuration_of config root w.expansion) (defined w compilation given (string_bytes config.base) analysis settled config root)
    (map (named w compilation given (string_bytes config.base) analysis settled config root) (rows calls.items)) old (record { calls = 0; entered = 0 }) new

-- What was recorded of evaluating in an analyzed justfile, in a world that arguments stand for, is by names a beginning of it as it is by places, however it ended.
abbrev pub EvaluationsBeginNamed : Type 0
EvaluationsBeginNamed = (source : Given) (w : World) (compilation : Compilation) → StandsFor source w → IsResolvable w compilation
    → (given : List Override) (config : Config) (analysis : Analysis) → IsAnalysis compilation (string_bytes config.base) given analysis → (settled : AllSettle w (overrides_of given) compilation analysis.values.value.settings.items)
    → (root : List ℕ) (target : EvaluationTarget) (old new : List Entry) → BeginsTask compilation analysis config root (Evaluate target) old new
    → by_name.BeginsEvaluate (configuration_of config root w.expansion) (defined w compilation given (string_bytes config.base) analysis settled config root) old new

-- What was recorded of handing over words as one command is by names a beginning of it as it is by places, however it ended.
abbrev pub CommandsBeginNamed : Type 0
CommandsBeginNamed = (source : Given) (w : World) (compilation : Compilation) → StandsFor source w → IsResolvable w compilation
    → (given : List Override) (config : Config) (analysis : Analysis) → IsAnalysis compilation (string_bytes config.base) given analysis → (settled : AllSettle w (overrides_of given) compilation analysis.values.value.settings.items)
    → (root : List ℕ) (words : Bor (List Text)) (old new : List Entry) → BeginsTask compilation analysis config root (Command words) old new
    → by_name.BeginsCommand (configuration_of config root w.expansion) (defined w compilation given (string_bytes config.base) analysis settled config root) words.now old new
