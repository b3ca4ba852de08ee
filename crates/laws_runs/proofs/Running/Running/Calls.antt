-- Calls run by names as they run by places.
use Rattle.std.proofs.Common.{◌≡◌, refl, sym, subst, List, map, Ok, ℕ}
use Rattle.std.specs.Prelude.{◌<◌, Contains, length}
use Rattle.std.specs.Global.{Vec}
use Rattle.std.specs.List.{AllByRecursion}
use Rattle.std.specs.Option.{option_map}
use Rattle.std.specs.String.{string_bytes}
use Rattle.just_host.specs.declared.config.Config.{Config}
use Rattle.just_host.specs.declared.entry.Entry.{Entry}
use Rattle.just_value.specs.declared.positional.Override.{Override}
use Rattle.evaluate_context.specs.declared.context.ExecutionContext.{ExecutionContext}
use Rattle.evaluate_variables.specs.Opened.{reads}
use Rattle.modules_compilation.specs.declared.compilation.Compilation.{Compilation}
use Rattle.resolve_order.specs.Flooded.{root}
use Rattle.resolve_analysis.specs.declared.analysis.Analysis.{Analysis}
use Rattle.just_resolve.specs.Analysis.{IsAnalysis}
use Rattle.just_resolve.specs.Rules.{IsResolvable}
use Rattle.analyze_calls.specs.Calls.{CallRow, row_of, rows}
use Rattle.analyze_calls.specs.declared.call.Call.{Call}
use Rattle.analyze_calls.specs.declared.plan.Planned.{Planned}
use Rattle.analyze_calls.specs.declared.plan.Runner.{Runner}
use Rattle.run_tasks.specs.Performed.{RunEnd, ends_as}
use Rattle.run_tasks.specs.Performed as tasks
use Rattle.run_tasks.specs.declared.task.Task.TheVariants.{Run}
use Rattle.run_tasks.specs.declared.task.TaskContext.{TaskContext}
use Rattle.run_tasks.specs.Prepared.Planned.{ArePlanned}
use Rattle.run_tasks.specs.Prepared.Performed.{IsPreparedFor, PerformsIn}
use Rattle.run_tasks.specs.Prepared.Wanted.{called_by}
use Rattle.meaning_runs.specs.Tallies.{Tally}
use Rattle.meaning_rules.specs.Worlds.Given.{Given, Text, World}
use Rattle.meaning_rules.specs.Worlds.Standing.{StandsFor}
use Rattle.meaning_rules.specs.Overrides.{overrides_of}
use Rattle.meaning_evaluation.specs.Named.{Definitions, paths_of}
use Rattle.meaning_evaluation.specs.Named as named_calls
use Rattle.meaning_evaluation.specs.Scopes.{Configuration}
use Rattle.laws_names.proofs.Reading.Lists.{contains_map, contains_mapped}
use Rattle.just_meaning.specs.Opening.{IsOpened, Opened, OpensAll}
use Rattle.just_meaning.specs.Runs.{Runs}
use Rattle.just_meaning.specs.Runs as by_name
use Rattle.laws_runs.specs.Settings.Settled.{AllSettle}
use Rattle.laws_runs.specs.Menus.Calls.{CallsAreThere}
use Rattle.laws_runs.specs.Menus.Named.{name_at}
use Rattle.laws_agreement.specs.Grounds.Alike.{AreOpenAlike}
use Rattle.just_meaning.specs.Configured.{configuration_of}
use Rattle.laws_runs.specs.Running.Opened.{AreReady, OpensNamed}
use Rattle.laws_runs.specs.Running.Steps.{IsRunning, RestsOn, defined, named}
use Rattle.laws_runs.specs.Running.Running.{IsToldEnd, RunsCalledAreNamed, RunsNamed, outcome_of}
use Rattle.laws_runs.proofs.Running.Steps.Runs.{runs_named}
use Rattle.laws_runs.proofs.Running.Running.Ended.{each_called, same_called, same_outcome, told_failure}
use Rattle.laws_runs.proofs.Running.Running.Opened.{ComesTo, comes_to, performed, refused}
use Rattle.laws_runs.proofs.Running.Running.Written.{function_apart, recipe_apart}

module _ (Rule : Type 0) (source : Given) (w : World) (compilation : Compilation) (stands : StandsFor source w) (resolvable : IsResolvable w compilation) (given : List Override) (analysis : Analysis)
    (settled : AllSettle w (overrides_of given) compilation analysis.values.value.settings.items) (calls : Vec Call) (there : CallsAreThere analysis.table.value (rows calls.items))
    (context : TaskContext) (known : IsAnalysis compilation (string_bytes context.config.now.base) given analysis) where
  abbrev base : Text
  base = string_bytes context.config.now.base

  abbrev pub configuration : Configuration
  configuration = configuration_of context.config.now context.root.now w.expansion

  abbrev pub definitions : Definitions
  definitions = defined w compilation given base analysis settled context.config.now context.root.now

  abbrev pub name : CallRow → named_calls.Call
  name = named w compilation given base analysis settled context.config.now context.root.now

  abbrev pub called : List ℕ
  called = called_by (Run calls)

  -- modules that open for the recipes that the task calls open for the calls by their names
  pub opens_named : {r : _} (old new : List Entry) → OpensNamed w compilation given base analysis settled (Run calls) context old new r → by_name.Opens configuration definitions (map name (rows calls.items)) old new r
  opens_named {r} old new opens =
      subst (λ invoked. OpensAll configuration definitions (IsOpened definitions context.config.now.no_dependencies invoked) (paths_of definitions.modules) old new r)
      (same_called (name_at compilation analysis.table.value) name (λ call. refl) calls.items) opens

  -- each call runs
  pub all_running : AllByRecursion (IsRunning w compilation given base analysis settled context.config.now context.root.now called) (rows calls.items)
  all_running = each_called (IsRunning w compilation given base analysis settled context.config.now context.root.now called) calls.items (λ call c. root (contains_map (λ (x : Call). x.recipe) calls.items call c))

  called_there : (place : ℕ) → Contains called place → place < length analysis.table.value.recipes.items
  called_there place c =
      let m = contains_mapped (λ (x : Call). x.recipe) calls.items place c in
      subst (λ p. p < length analysis.table.value.recipes.items) m.2 (there (row_of m.0) (contains_map row_of calls.items m.0 m.1))

  module _ (recipes : List Planned) (planned : ArePlanned compilation analysis.table.value.recipes.items recipes) where
    -- what a run rests on where modules are open
    pub rests_on : (runner : Runner) → runner.recipes.now ≡ recipes → (contexts : List ExecutionContext) → runner.contexts.now ≡ contexts
        → (all : List Opened) → AreOpenAlike compilation analysis contexts all → AreReady w compilation given base analysis settled (Run calls) context contexts all
        → RestsOn w compilation given base analysis settled context.config.now context.root.now called (reads context.wanted) runner all
    rests_on runner recipes_are contexts contexts_are all alike ready =
        let ready_here : AreReady w compilation given base analysis settled (Run calls) context runner.contexts.now all
        = subst (λ cs. AreReady w compilation given base analysis settled (Run calls) context cs all) (sym contexts_are) ready in
        record {
          numbered = resolvable.numbered;
          there = called_there;
          known = known;
          parameters = recipe_apart source w compilation stands resolvable.numbered.of;
          functions = function_apart source w compilation stands resolvable.numbered.of;
          planned = subst (ArePlanned compilation analysis.table.value.recipes.items) (sym recipes_are) planned;
          sorted = ready_here.sorted;
          contexts = subst (λ cs. AreOpenAlike compilation analysis cs all) (sym contexts_are) alike;
          held_only = ready_here.held_only;
          configured = ready_here.configured;
          reads = ready_here.read;
          bound = ready_here.bound;
        }

    -- a run over what is open
    run_opened : (contexts : List ExecutionContext) → (all : List Opened) → AreOpenAlike compilation analysis contexts all
        → AreReady w compilation given base analysis settled (Run calls) context contexts all → (old mid new : List Entry) (t' : Tally) (end : RunEnd)
        → by_name.Opens configuration definitions (map name (rows calls.items)) old mid (Ok all) → IsToldEnd end
        → tasks.RunsIn recipes contexts (rows calls.items) mid (record { calls = 0; entered = 0 }) new t' end
        → Runs configuration definitions (map name (rows calls.items)) old (record { calls = 0; entered = 0 }) new t' (outcome_of {Rule = Rule} end)
    run_opened contexts all alike ready old mid new t' _ opening told (tasks.runs_in {failure} runner recipes_are contexts_are run) =
        subst (λ outcome. Runs configuration definitions (map name (rows calls.items)) old (record { calls = 0; entered = 0 }) new t' outcome) (same_outcome failure)
        (by_name.opened opening
        (runs_named w compilation given base analysis settled context.config.now context.root.now called (reads context.wanted) runner all (rests_on runner recipes_are contexts contexts_are all alike ready)
        (rows calls.items) mid new (record { calls = 0; entered = 0 }) t' failure all_running (told_failure failure told) run))

  run_from : (old new : List Entry) (t' : Tally) (end : RunEnd) → IsToldEnd end
      → ComesTo source w compilation stands resolvable given analysis settled (Run calls) context old (record { calls = 0; entered = 0 }) new t' (ends_as end)
      → Runs configuration definitions (map name (rows calls.items)) old (record { calls = 0; entered = 0 }) new t' (outcome_of {Rule = Rule} end)
  run_from old new _ _ told (refused {failure} opening) = by_name.refused (opens_named old new opening)
  run_from old new t' end told (performed {mid} recipes planned contexts over run) =
      run_opened recipes planned contexts over.all over.alike over.ready old mid new t' end (opens_named old mid over.opens) told run

  run_named : context.overrides.now ≡ analysis.values.value.overrides
      → IsPreparedFor analysis (Run calls) context.config.now.no_dependencies context.opening_order.now (option_map (λ numbers. numbers.now) context.wanted)
      → (old new : List Entry) (end : RunEnd) → IsToldEnd end → PerformsIn compilation analysis context (Run calls) old new (ends_as end) → RunsNamed w compilation given analysis settled calls Rule context.config.now context.root.now old new end
  run_named overrides prepared old new end told run =
      let c = comes_to source w compilation stands resolvable given analysis settled (Run calls) context there known overrides prepared old new (ends_as end) run in
      (c.0, run_from old new c.0 end told c.1)

pub calls_run_named : (Rule : Type 0) → RunsCalledAreNamed Rule
calls_run_named Rule source w compilation stands resolvable given config analysis known settled root_key calls there old new end told run =
    let same : run.context.config.now ≡ config = run.is.config_is in
    subst (λ key. RunsNamed w compilation given analysis settled calls Rule config key old new end) run.is.root_is
    (subst (λ (c : Config). RunsNamed w compilation given analysis settled calls Rule c run.context.root.now old new end) same
    (run_named Rule source w compilation stands resolvable given analysis settled calls there run.context
    (subst (λ (c : Config). IsAnalysis compilation (string_bytes c.base) given analysis) (sym same) known)
    run.is.overrides
    (subst (λ (c : Config). IsPreparedFor analysis (Run calls) c.no_dependencies run.context.opening_order.now (option_map (λ numbers. numbers.now) run.context.wanted)) (sym same) run.is.prepared)
    old new end told run.performs))
