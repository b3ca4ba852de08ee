-- A task from its opening on by places: its opening is refused by names, or it is done over modules that are open alike.
use Rattle.std.proofs.Common.{◌≡◌, refl, List, map, Ok, Err, length}
use Rattle.std.specs.Option.{option_map}
use Rattle.std.specs.String.{string_bytes}
use Rattle.just_host.specs.declared.entry.Entry.{Entry}
use Rattle.just_value.specs.declared.positional.Override.{Override}
use Rattle.evaluate_context.specs.declared.context.ExecutionContext.{ExecutionContext}
use Rattle.evaluate_context.specs.declared.context.ModuleView.{ModuleView}
use Rattle.modules_compilation.specs.declared.compilation.Compilation.{Compilation}
use Rattle.resolve_analysis.specs.Views.{seen, views_of}
use Rattle.resolve_analysis.specs.declared.analysis.Analysis.{Analysis}
use Rattle.just_resolve.specs.Analysis.{IsAnalysis}
use Rattle.just_resolve.specs.Rules.{IsResolvable}
use Rattle.analyze_calls.specs.declared.opening.Opening.{Opening as Opens}
use Rattle.analyze_calls.specs.declared.plan.Planned.{Planned}
use Rattle.run_tasks.specs.Opened.{IsOpeningOf}
use Rattle.run_tasks.specs.Performed.{TaskEnd, ends_as}
use Rattle.run_tasks.specs.Performed as tasks
use Rattle.run_tasks.specs.declared.task.Task.{Task}
use Rattle.run_tasks.specs.declared.task.TaskContext.{TaskContext}
use Rattle.run_tasks.specs.Prepared.Performed.{IsPreparedFor, PerformsIn}
use Rattle.run_tasks.specs.Prepared.Planned.{ArePlanned}
use Rattle.meaning_evaluation.specs.Requests.{OpeningFailure}
use Rattle.meaning_runs.specs.Tallies.{Tally}
use Rattle.meaning_rules.specs.Worlds.Given.{Given, World}
use Rattle.meaning_rules.specs.Worlds.Standing.{StandsFor}
use Rattle.meaning_rules.specs.Overrides.{overrides_of}
use Rattle.just_meaning.specs.Opening.{Opened}
use Rattle.laws_runs.specs.Settings.Settled.{AllSettle}
use Rattle.laws_agreement.specs.Grounds.Alike.{AreOpenAlike}
use Rattle.laws_runs.specs.Running.Openings.{CalledAreThere}
use Rattle.laws_runs.specs.Running.Opened.{AreReady, IsTaskOf, OpenByNames, OpensNamed}
use Rattle.laws_runs.proofs.Running.Opening.Whole.{tasks_open_by_names}

module _ (source : Given) (w : World) (compilation : Compilation) (stands : StandsFor source w) (resolvable : IsResolvable w compilation) (given : List Override) (analysis : Analysis)
    (settled : AllSettle w (overrides_of given) compilation analysis.values.value.settings.items) (task : Task) (context : TaskContext) where
  -- modules are open by names, and alike by places
  pub record AreOpenFor (old mid : List Entry) (contexts : List ExecutionContext) : Type 0 where
    pub all : List Opened
    pub opens : OpensNamed w compilation given (string_bytes context.config.now.base) analysis settled task context old mid (Ok all)
    pub alike : AreOpenAlike compilation analysis contexts all
    pub ready : AreReady w compilation given (string_bytes context.config.now.base) analysis settled task context contexts all

  -- what the task comes to: its opening is refused by names, or it is done over what is open
  pub data ComesTo (old : List Entry) (t : Tally) (new : List Entry) : Tally → TaskEnd → Type 0 where
    refused : {failure : OpeningFailure} → OpensNamed w compilation given (string_bytes context.config.now.base) analysis settled task context old new (Err failure) → ComesTo old t new t (ends_as (tasks.not_opened failure))
    performed : {mid : List Entry} {t' : Tally} {end : TaskEnd} (recipes : List Planned) → ArePlanned compilation analysis.table.value.recipes.items recipes
        → (contexts : List ExecutionContext) → AreOpenFor old mid contexts → tasks.PerformsIn recipes contexts task mid t new t' end → ComesTo old t new t' end

  module _ (there : CalledAreThere analysis.table.value task) (known : IsAnalysis compilation (string_bytes context.config.now.base) given analysis) (overrides : context.overrides.now ≡ analysis.values.value.overrides)
      (prepared : IsPreparedFor analysis task context.config.now.no_dependencies context.opening_order.now (option_map (λ numbers. numbers.now) context.wanted)) where
    module _ (modules : List ModuleView) (views : map seen modules ≡ views_of analysis.modules.now analysis.variables analysis.values.value (length analysis.modules.now))
        (recipes : List Planned) (planned : ArePlanned compilation analysis.table.value.recipes.items recipes) (opens : Opens) (opens_are : IsOpeningOf context opens) where
      pub task_of : IsTaskOf w compilation given (string_bytes context.config.now.base) analysis settled task context modules opens
      task_of = record {
        resolvable = resolvable;
        known = known;
        base_is = refl;
        overrides = overrides;
        prepared = prepared;
        views = views;
        opens_are = opens_are;
      }

      pub by_names : (old new : List Entry) → OpenByNames w compilation given (string_bytes context.config.now.base) analysis settled task context modules opens old new
      by_names = tasks_open_by_names w compilation given (string_bytes context.config.now.base) analysis settled task context modules opens task_of source stands there

      comes_from : (old new : List Entry) (t t' : Tally) (end : TaskEnd) → tasks.PerformsFrom context modules recipes task opens old t new t' end → ComesTo old t new t' end
      comes_from old new t _ _ (tasks.refused {failure} opening) = refused ((by_names old new).refused failure opening)
      comes_from old new t _ _ (tasks.opened {mid} {rows} opening performs) =
          let o = (by_names old mid).opened rows opening in
          let both = o.2 performs.contexts performs.are in
          performed recipes planned performs.contexts (record { all = o.0; opens = o.1; alike = both.0; ready = both.1 }) performs.performs

    -- a task that is done over what evaluation sees of the modules
    pub comes_to : (old new : List Entry) (end : TaskEnd) → PerformsIn compilation analysis context task old new end → (t : Tally) × ComesTo old (record { calls = 0; entered = 0 }) new t end
    comes_to old new end run =
        let over = run.performs.1 in
        (run.performs.0, comes_from run.modules run.views run.recipes run.planned over.opens over.is old new (record { calls = 0; entered = 0 }) run.performs.0 end over.performs)
