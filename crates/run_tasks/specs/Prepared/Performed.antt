-- What a task comes to in a resolved justfile.
use Rattle.std.specs.Prelude.{◌≡◌, ℕ, Bool, List, [], ◌∷◌, Option, length, map}
use Rattle.std.specs.BTreeSet.{BTreeSet}
use Rattle.std.specs.Option.{option_map}
use Rattle.just_host.specs.declared.config.Config.{Config}
use Rattle.just_host.specs.declared.entry.Entry.{Entry}
use Rattle.evaluate_context.specs.declared.context.ModuleView.{ModuleView}
use Rattle.modules_compilation.specs.declared.compilation.Compilation.{Compilation}
use Rattle.meaning_runs.specs.Tallies.{Tally}
use Rattle.analyze_calls.specs.declared.plan.Planned.{Planned}
use Rattle.resolve_analysis.specs.Views.{seen, views_of}
use Rattle.resolve_analysis.specs.declared.analysis.Analysis.{Analysis}
use Rattle.run_tasks.specs.Performed.{Performs, TaskEnd}
use Rattle.run_tasks.specs.declared.task.Task.{Task}
use Rattle.run_tasks.specs.declared.task.TaskContext.{TaskContext}
use Rattle.run_tasks.specs.Prepared.Order.{opening_from}
use Rattle.run_tasks.specs.Prepared.Planned.{ArePlanned}
use Rattle.run_tasks.specs.Prepared.Wanted.{IsWanted}

-- what is prepared for a task: the order in which modules open, and which variables lazy ones evaluate
pub record IsPreparedFor (analysis : Analysis) (task : Task) (no_dependencies : Bool) (order : List ℕ) (wanted : Option (BTreeSet ℕ)) : Type 0 where
  pub order_is : order ≡ opening_from (length analysis.modules.now) analysis.modules.now (0 ∷ [])
  pub wanted_are : IsWanted analysis.variables analysis.table.value.recipes.items analysis.values.value.settings.items task no_dependencies wanted

-- the task is done over these modules and recipes, with a tally that begins at nothing
abbrev pub PerformsOver : TaskContext → List ModuleView → List Planned → Task → List Entry → List Entry → TaskEnd → Type 0
PerformsOver context modules recipes task old new end = (tally : Tally) × Performs context modules recipes task old (record { calls = 0; entered = 0 }) new tally end

module _ (compilation : Compilation) (analysis : Analysis) where
  -- the same over what evaluation sees of the modules, and over the recipes
  pub record PerformsIn (context : TaskContext) (task : Task) (old new : List Entry) (end : TaskEnd) : Type 0 where
    pub modules : List ModuleView
    pub views : map seen modules ≡ views_of analysis.modules.now analysis.variables analysis.values.value (length analysis.modules.now)
    pub recipes : List Planned
    pub planned : ArePlanned compilation analysis.table.value.recipes.items recipes
    pub performs : PerformsOver context modules recipes task old new end

  module _ (config : Config) (root : List ℕ) (task : Task) where
    -- what a task rests on: the configuration, the texts given for variables, the root's key, and what is prepared for it
    pub record IsContextOf (context : TaskContext) : Type 0 where
      pub config_is : context.config.now ≡ config
      pub overrides : context.overrides.now ≡ analysis.values.value.overrides
      pub root_is : context.root.now ≡ root
      pub prepared : IsPreparedFor analysis task config.no_dependencies context.opening_order.now (option_map (λ numbers. numbers.now) context.wanted)

    -- the task is done with what it rests on
    pub record PerformsTask (old new : List Entry) (end : TaskEnd) : Type 0 where
      pub context : TaskContext
      pub is : IsContextOf context
      pub performs : PerformsIn context task old new end
