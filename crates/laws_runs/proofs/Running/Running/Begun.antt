-- What was recorded of calls by places, from the opening of modules on, is the beginning of what a run by names records.
use Rattle.std.proofs.Common.{◌≡◌, refl, sym, subst, List, map, Ok, length}
use Rattle.std.specs.Global.{Vec}
use Rattle.std.specs.Option.{option_map}
use Rattle.std.specs.String.{string_bytes}
use Rattle.just_host.specs.declared.entry.Entry.{Entry}
use Rattle.just_host.specs.declared.config.Config.{Config}
use Rattle.just_value.specs.declared.positional.Override.{Override}
use Rattle.evaluate_context.specs.declared.context.ExecutionContext.{ExecutionContext}
use Rattle.evaluate_context.specs.declared.context.ModuleView.{ModuleView}
use Rattle.modules_compilation.specs.declared.compilation.Compilation.{Compilation}
use Rattle.resolve_analysis.specs.Views.{seen, views_of}
use Rattle.resolve_analysis.specs.declared.analysis.Analysis.{Analysis}
use Rattle.just_resolve.specs.Analysis.{IsAnalysis}
use Rattle.just_resolve.specs.Rules.{IsResolvable}
use Rattle.analyze_calls.specs.Calls.{rows}
use Rattle.analyze_calls.specs.declared.call.Call.{Call}
use Rattle.analyze_calls.specs.declared.plan.Planned.{Planned}
use Rattle.run_tasks.specs.Begun.{Begins, RunBegins, in_opening, in_task, nothing}
use Rattle.run_tasks.specs.declared.task.Task.TheVariants.{Run}
use Rattle.run_tasks.specs.declared.task.TaskContext.{TaskContext}
use Rattle.run_tasks.specs.Prepared.Begun.{BeginsIn, begins_in, begins_of, nothing_in, nothing_of}
use Rattle.run_tasks.specs.Prepared.Planned.{ArePlanned}
use Rattle.run_tasks.specs.Prepared.Performed.{IsPreparedFor}
use Rattle.evaluate_variables.specs.Opened.{reads}
use Rattle.meaning_runs.specs.Tallies.{Tally}
use Rattle.meaning_rules.specs.Worlds.Given.{Given, World}
use Rattle.meaning_rules.specs.Worlds.Standing.{StandsFor}
use Rattle.meaning_rules.specs.Overrides.{overrides_of}
use Rattle.meaning_evaluation.specs.Named.{paths_of}
use Rattle.just_meaning.specs.Begun.{BeginsRun}
use Rattle.just_meaning.specs.Begun as by_name
use Rattle.just_meaning.specs.Opening.{IsOpened, Opened}
use Rattle.just_meaning.specs.Runs as named_runs
use Rattle.laws_runs.specs.Settings.Settled.{AllSettle}
use Rattle.laws_runs.specs.Menus.Calls.{CallsAreThere}
use Rattle.laws_runs.specs.Menus.Named.{name_at}
use Rattle.laws_agreement.specs.Grounds.Alike.{AreOpenAlike}
use Rattle.just_meaning.specs.Configured.{configuration_of}
use Rattle.laws_runs.specs.Running.Begun.{CallsBeginNamed}
use Rattle.laws_runs.specs.Running.Opened.{AreReady}
use Rattle.laws_runs.specs.Running.Steps.{defined, named}
use Rattle.laws_runs.proofs.Running.Steps.BegunRuns.{runs_begin}
use Rattle.laws_runs.proofs.Running.Running.Calls.{all_running, called, configuration, definitions, name, opens_named, rests_on}
use Rattle.laws_runs.proofs.Running.Running.Ended.{same_called}
use Rattle.laws_runs.proofs.Running.Running.Opened.{by_names}

module _ (source : Given) (w : World) (compilation : Compilation) (stands : StandsFor source w) (resolvable : IsResolvable w compilation) (given : List Override) (analysis : Analysis)
    (settled : AllSettle w (overrides_of given) compilation analysis.values.value.settings.items) (calls : Vec Call) (there : CallsAreThere analysis.table.value (rows calls.items))
    (context : TaskContext) (known : IsAnalysis compilation (string_bytes context.config.now.base) given analysis) where
  abbrev IsBegun : List Entry → Tally → List Entry → Type 0
  IsBegun = BeginsRun (configuration (Unit {0}) source w compilation stands resolvable given analysis settled calls there context known) (definitions (Unit {0}) source w compilation stands resolvable given analysis settled calls there context known)
      (map (name (Unit {0}) source w compilation stands resolvable given analysis settled calls there context known) (rows calls.items))

  -- nothing of it
  none_of : (old : List Entry) (t : Tally) (new : List Entry) → new ≡ old → IsBegun old t new
  none_of old t new e = subst (λ l. IsBegun old t l) (sym e) (by_name.in_opening by_name.none_begins)

  module _ (recipes : List Planned) (planned : ArePlanned compilation analysis.table.value.recipes.items recipes) where
    -- a run over what is open
    run_begins : (contexts : List ExecutionContext) (all : List Opened) → AreOpenAlike compilation analysis contexts all
        → AreReady w compilation given (string_bytes context.config.now.base) analysis settled (Run calls) context contexts all → (old mid : List Entry) (t : Tally) (new : List Entry)
        → named_runs.Opens (configuration (Unit {0}) source w compilation stands resolvable given analysis settled calls there context known) (definitions (Unit {0}) source w compilation stands resolvable given analysis settled calls there context known)
        (map (name (Unit {0}) source w compilation stands resolvable given analysis settled calls there context known) (rows calls.items)) old mid (Ok all)
        → RunBegins recipes contexts (rows calls.items) mid t new → IsBegun old t new
    run_begins contexts all alike ready old mid t new opening run =
        by_name.in_run opening
        (runs_begin w compilation given (string_bytes context.config.now.base) analysis settled context.config.now context.root.now
        (called (Unit {0}) source w compilation stands resolvable given analysis settled calls there context known) (reads context.wanted) run.runner all
        (rests_on (Unit {0}) source w compilation stands resolvable given analysis settled calls there context known recipes planned run.runner run.recipes_are contexts run.contexts_are all alike ready)
        (rows calls.items) mid new t (all_running (Unit {0}) source w compilation stands resolvable given analysis settled calls there context known) run.begins)

    module _ (overrides : context.overrides.now ≡ analysis.values.value.overrides)
        (prepared : IsPreparedFor analysis (Run calls) context.config.now.no_dependencies context.opening_order.now (option_map (λ numbers. numbers.now) context.wanted))
        (modules : List ModuleView) (views : map seen modules ≡ views_of analysis.modules.now analysis.variables analysis.values.value (length analysis.modules.now)) where
      -- from the opening of modules on
      from_opening : (old : List Entry) (t : Tally) (new : List Entry) → Begins context modules recipes (Run calls) old t new → IsBegun old t new
      from_opening old t new (nothing e) = none_of old t new e
      from_opening old t new (in_opening opens is h) =
          by_name.in_opening
          (subst (λ invoked. by_name.AllBegin (configuration (Unit {0}) source w compilation stands resolvable given analysis settled calls there context known)
          (definitions (Unit {0}) source w compilation stands resolvable given analysis settled calls there context known)
          (IsOpened (definitions (Unit {0}) source w compilation stands resolvable given analysis settled calls there context known) context.config.now.no_dependencies invoked)
          (paths_of (definitions (Unit {0}) source w compilation stands resolvable given analysis settled calls there context known).modules) old new)
          (same_called (name_at compilation analysis.table.value) (name (Unit {0}) source w compilation stands resolvable given analysis settled calls there context known) (λ call. refl) calls.items)
          ((by_names source w compilation stands resolvable given analysis settled (Run calls) context there known overrides prepared modules views recipes planned opens is old new).begun h))
      from_opening old t new (in_task {mid} {rows = opened} {contexts} opens is opening are h) =
          let o = (by_names source w compilation stands resolvable given analysis settled (Run calls) context there known overrides prepared modules views recipes planned opens is old mid).opened opened opening in
          let both = o.2 contexts are in
          run_begins contexts o.0 both.0 both.1 old mid t new (opens_named (Unit {0}) source w compilation stands resolvable given analysis settled calls there context known old mid o.1) h

  -- a task that is done over what evaluation sees of the modules
  run_in : context.overrides.now ≡ analysis.values.value.overrides
      → IsPreparedFor analysis (Run calls) context.config.now.no_dependencies context.opening_order.now (option_map (λ numbers. numbers.now) context.wanted)
      → (old new : List Entry) → BeginsIn compilation analysis context (Run calls) old new → IsBegun old (record { calls = 0; entered = 0 }) new
  run_in overrides prepared old new (nothing_in e) = none_of old (record { calls = 0; entered = 0 }) new e
  run_in overrides prepared old new (begins_in modules views recipes planned h) = from_opening recipes planned overrides prepared modules views old (record { calls = 0; entered = 0 }) new h

-- what was recorded of calls that run is the beginning of a run by names
pub calls_begin_named : CallsBeginNamed
calls_begin_named source w compilation stands resolvable given config analysis known settled root_key calls there old new (nothing_of e) =
    subst (λ l. BeginsRun (configuration_of config root_key w.expansion) (defined w compilation given (string_bytes config.base) analysis settled config root_key)
    (map (named w compilation given (string_bytes config.base) analysis settled config root_key) (rows calls.items)) old (record { calls = 0; entered = 0 }) l) (sym e) (by_name.in_opening by_name.none_begins)
calls_begin_named source w compilation stands resolvable given config analysis known settled root_key calls there old new (begins_of context is h) =
    let same : context.config.now ≡ config = is.config_is in
    subst (λ key. BeginsRun (configuration_of config key w.expansion) (defined w compilation given (string_bytes config.base) analysis settled config key)
    (map (named w compilation given (string_bytes config.base) analysis settled config key) (rows calls.items)) old (record { calls = 0; entered = 0 }) new) is.root_is
    (subst (λ (c : Config). BeginsRun (configuration_of c context.root.now w.expansion) (defined w compilation given (string_bytes c.base) analysis settled c context.root.now)
    (map (named w compilation given (string_bytes c.base) analysis settled c context.root.now) (rows calls.items)) old (record { calls = 0; entered = 0 }) new) same
    (run_in source w compilation stands resolvable given analysis settled calls there context
    (subst (λ (c : Config). IsAnalysis compilation (string_bytes c.base) given analysis) (sym same) known)
    is.overrides
    (subst (λ (c : Config). IsPreparedFor analysis (Run calls) c.no_dependencies context.opening_order.now (option_map (λ numbers. numbers.now) context.wanted)) (sym same) is.prepared)
    old new h))
