-- Modules that open by places, and by names.
use Rattle.std.specs.Prelude.{◌≡◌, ℕ, Bool, List, ◌∷◌, Some, Contains, map, length, slice_get, Result, Ok, Err}
use Rattle.std.specs.List.{All}
use Rattle.std.specs.Option.{option_map}
use Rattle.std.specs.String.{string_bytes}
use Rattle.just_text.specs.Tokens.{lexeme}
use Rattle.just_host.specs.declared.entry.Entry.{Entry}
use Rattle.just_value.specs.Frames.{BoundRow, ByNumber}
use Rattle.just_value.specs.declared.positional.Override.{Override}
use Rattle.modules_compilation.specs.declared.compilation.Compilation.{Compilation}
use Rattle.evaluate_context.specs.declared.context.AssignmentRef.{AssignmentRef}
use Rattle.evaluate_context.specs.declared.context.ExecutionContext.{ExecutionContext}
use Rattle.evaluate_context.specs.declared.context.ModuleView.{ModuleView}
use Rattle.evaluate_variables.specs.Opened.{reads}
use Rattle.resolve_analysis.specs.Opening.{Runs}
use Rattle.resolve_analysis.specs.Views.{seen, views_of}
use Rattle.resolve_analysis.specs.declared.analysis.Analysis.{Analysis}
use Rattle.resolve_analysis.specs.declared.module_lists.ModuleLists.{ModuleLists}
use Rattle.resolve_analysis.specs.declared.module_reads.ModuleReads.{ModuleReads}
use Rattle.resolve_analysis.specs.declared.recipes.ResolvedRecipe.{ResolvedRecipe}
use Rattle.just_resolve.specs.Analysis.{IsAnalysis}
use Rattle.just_resolve.specs.Rules.{IsResolvable}
use Rattle.analyze_calls.specs.Opening as placed
use Rattle.analyze_calls.specs.declared.opening.Opening.{Opening as Opens}
use Rattle.run_tasks.specs.Opened.{AreContexts, IsOpeningOf}
use Rattle.run_tasks.specs.declared.task.Task.{Task}
use Rattle.run_tasks.specs.declared.task.Task.TheVariants as tasks
use Rattle.run_tasks.specs.declared.task.TaskContext.{TaskContext}
use Rattle.run_tasks.specs.Prepared.Performed.{IsPreparedFor}
use Rattle.run_tasks.specs.Prepared.Wanted.{called_by}
use Rattle.meaning_evaluation.specs.Requests.{OpeningFailure}
use Rattle.meaning_rules.specs.Worlds.Given.{Text, World}
use Rattle.meaning_rules.specs.Overrides.{overrides_of}
use Rattle.meaning_evaluation.specs.Named.{Definitions, RecipeName, VariableName, paths_of}
use Rattle.just_meaning.specs.Actions.{IsKept}
use Rattle.just_meaning.specs.Begun.{AllBegin}
use Rattle.just_meaning.specs.Opening.{Held, IsOpened, Opened, OpensAll}
use Rattle.laws_runs.specs.Resolved.Definitions.{definitions_of}
use Rattle.laws_runs.specs.Settings.Settled.{AllSettle}
use Rattle.laws_runs.specs.Menus.Named.{name_at}
use Rattle.laws_runs.specs.Views.Known.{IsSeenAt}
use Rattle.laws_runs.specs.Views.Read.{AreReadFrom}
use Rattle.laws_runs.specs.Views.Recipes.{AreBoundIn, IsConstantOrRead}
use Rattle.laws_agreement.specs.Grounds.Alike.{AreOpenAlike, IsOpenAlike}
use Rattle.just_meaning.specs.Configured.{configuration_of}

-- Which variables open for a task: all that are defined, where values are asked for; else those that the recipes which it calls read, and those that open in any case.
abbrev pub OpensFor : Definitions → Bool → (ℕ → RecipeName) → Task → VariableName → Type 0
OpensFor defined no_dependencies name (tasks.Run calls) = IsOpened defined no_dependencies (map name (called_by (tasks.Run calls)))
OpensFor defined no_dependencies name (tasks.Evaluate target) = IsKept defined
OpensFor defined no_dependencies name (tasks.Command words) = IsOpened defined no_dependencies (map name (called_by (tasks.Command words)))

module _ (w : World) (compilation : Compilation) (given : List Override) (base : Text) (analysis : Analysis) (settled : AllSettle w (overrides_of given) compilation analysis.values.value.settings.items) where
  -- What a task of a resolved justfile rests on: its configuration, and what is prepared for it.
  pub record IsTaskOf (task : Task) (context : TaskContext) (modules : List ModuleView) (opens : Opens) : Type 0 where
    pub resolvable : IsResolvable w compilation
    pub known : IsAnalysis compilation base given analysis
    pub base_is : base ≡ string_bytes context.config.now.base
    pub overrides : context.overrides.now ≡ analysis.values.value.overrides
    pub prepared : IsPreparedFor analysis task context.config.now.no_dependencies context.opening_order.now (option_map (λ numbers. numbers.now) context.wanted)
    pub views : map seen modules ≡ views_of analysis.modules.now analysis.variables analysis.values.value (length analysis.modules.now)
    pub opens_are : IsOpeningOf context opens

  module _ (task : Task) (context : TaskContext) where
    -- what is defined by name
    abbrev pub defined : Definitions
    defined = definitions_of compilation w.expansion (overrides_of given) settled.settle base (string_bytes context.config.now.working_directory)

    -- modules open by names, for the task
    abbrev pub OpensNamed : List Entry → List Entry → Result (List Opened) OpeningFailure → Type 0
    OpensNamed = OpensAll (configuration_of context.config.now context.root.now w.expansion) defined (OpensFor defined context.config.now.no_dependencies (name_at compilation analysis.table.value) task) (paths_of defined.modules)

    -- what was recorded of the opening of modules is a beginning of it by names
    abbrev pub BeginsNamed : List Entry → List Entry → Type 0
    BeginsNamed = AllBegin (configuration_of context.config.now context.root.now w.expansion) defined (OpensFor defined context.config.now.no_dependencies (name_at compilation analysis.table.value) task) (paths_of defined.modules)

    -- What a run over modules that are open rests on besides: their frames are sorted by numbers, what is held by names is of their variables, they have the task's configuration,
    -- variables are wanted that recipes read which run, and in the frames the constants are bound, and the variables that are wanted.
    pub record AreReady (contexts : List ExecutionContext) (all : List Opened) : Type 0 where
      pub sorted : (k : ℕ) (here : ExecutionContext) → slice_get contexts k ≡ Some here → (frame : List BoundRow) → Contains (here.scope.now.own ∷ here.scope.now.outer) frame → ByNumber frame
      pub held_only : (k : ℕ) (here : ExecutionContext) → slice_get contexts k ≡ Some here → (o : Opened) → Contains all o → (alike : IsOpenAlike compilation analysis k here o) → (h : Held) → Contains o.values h
          → (lent : AssignmentRef) × Contains alike.lists.assignments.items lent × (lexeme lent.assignment.now.name.token ≡ h.name)
      pub configured : All (λ (here : ExecutionContext). (here.config.now ≡ context.config.now) × (here.root.now ≡ context.root.now)) contexts
      pub read : (place : ℕ) (recipe : ResolvedRecipe) → slice_get analysis.table.value.recipes.items place ≡ Some recipe
          → Runs analysis.table.value.recipes.items context.config.now.no_dependencies (called_by task) place
          → (lists : ModuleLists) (home : ModuleReads) → slice_get analysis.variables.lists.items recipe.module ≡ Some lists → slice_get analysis.variables.reads.items recipe.module ≡ Some home
          → AreReadFrom lists home recipe.reads.items (reads context.wanted)
      pub bound : (k : ℕ) (here : ExecutionContext) → slice_get contexts k ≡ Some here → (seen : IsSeenAt analysis.variables k here) → AreBoundIn (IsConstantOrRead seen.lists (reads context.wanted)) here.scope.now

    -- modules that open by places open by names: with the same values where all open, or with the same fault; and a beginning of the opening by places is one by names, however it ended
    pub record OpenByNames (modules : List ModuleView) (opens : Opens) (old new : List Entry) : Type 0 where
      pub opened : (rows : List placed.OpenedRow) → placed.OpensAll opens modules context.opening_order.now old new (Ok rows)
          → (all : List Opened) × OpensNamed old new (Ok all) × ((contexts : List ExecutionContext) → AreContexts context rows 0 modules contexts → AreOpenAlike compilation analysis contexts all × AreReady contexts all)
      pub refused : (failure : OpeningFailure) → placed.OpensAll opens modules context.opening_order.now old new (Err failure) → OpensNamed old new (Err failure)
      pub begun : placed.AllBegin opens modules context.opening_order.now old new → BeginsNamed old new
