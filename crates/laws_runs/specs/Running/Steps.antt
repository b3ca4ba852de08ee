-- Steps of calls by places, and what they rest on.
use Rattle.std.specs.Prelude.{◌≡◌, ◌≢◌, ◌<◌, ◌∷◌, ℕ, Bool, List, Some, Contains, length, slice_get, IfSome, Option, map}
use Rattle.std.specs.List.{All, AllByRecursion}
use Rattle.std.specs.String.{string_bytes}
use Rattle.just_text.specs.Tokens.{lexeme}
use Rattle.just_text.specs.declared.name.Name.{Name}
use Rattle.just_host.specs.declared.config.Config.{Config}
use Rattle.just_host.specs.declared.entry.Entry.{Entry}
use Rattle.tree_items.specs.declared.ast.Item.TheVariants.{Function}
use Rattle.tree_items.specs.declared.item.FunctionDefinition.{FunctionDefinition}
use Rattle.tree_items.specs.declared.recipe.Recipe.{Recipe}
use Rattle.tree_items.specs.declared.recipe.UnresolvedDependency.{UnresolvedDependency}
use Rattle.modules_compilation.specs.Places.{item_at}
use Rattle.modules_compilation.specs.declared.place.Place.{Place}
use Rattle.resolve_recipes.specs.Nodes.{recipe_at}
use Rattle.just_value.specs.declared.positional.Override.{Override}
use Rattle.just_value.specs.Frames.{BoundRow, ByNumber}
use Rattle.modules_compilation.specs.declared.compilation.Compilation.{Compilation}
use Rattle.evaluate_context.specs.declared.context.AssignmentRef.{AssignmentRef}
use Rattle.evaluate_context.specs.declared.context.ExecutionContext.{ExecutionContext}
use Rattle.resolve_analysis.specs.Opening.{Runs}
use Rattle.resolve_analysis.specs.declared.analysis.Analysis.{Analysis}
use Rattle.resolve_analysis.specs.declared.module_lists.ModuleLists.{ModuleLists}
use Rattle.resolve_analysis.specs.declared.module_reads.ModuleReads.{ModuleReads}
use Rattle.resolve_analysis.specs.declared.recipes.ResolvedRecipe.{ResolvedRecipe}
use Rattle.just_resolve.specs.Analysis.{IsAnalysis}
use Rattle.analyze_calls.specs.Calls.{CallRow}
use Rattle.analyze_calls.specs.declared.plan.Runner.{Runner}
use Rattle.analyze_calls.specs.Runs.Steps.{parts}
use Rattle.analyze_calls.specs.Runs.Rest as by_place
use Rattle.run_tasks.specs.Prepared.Planned.{ArePlanned}
use Rattle.meaning_dialogues.specs.Faults.{memory}
use Rattle.meaning_runs.specs.Failures.{Failure, evaluation}
use Rattle.meaning_runs.specs.Tallies.{Tally}
use Rattle.meaning_rules.specs.Worlds.Given.{Text, World}
use Rattle.meaning_rules.specs.Overrides.{overrides_of}
use Rattle.laws_names.specs.Reading.Meant.{IsNumberedWorld}
use Rattle.meaning_evaluation.specs.Named.{Call, Definitions}
use Rattle.just_meaning.specs.Opening.{Held, Opened}
use Rattle.just_meaning.specs.Runs.{HasRun, steps}
use Rattle.laws_runs.specs.Resolved.Definitions.{definitions_of}
use Rattle.laws_runs.specs.Settings.Settled.{AllSettle}
use Rattle.laws_runs.specs.Menus.Named.{name_at}
use Rattle.laws_runs.specs.Views.Known.{IsSeenAt}
use Rattle.laws_runs.specs.Views.Read.{AreReadFrom}
use Rattle.laws_runs.specs.Views.Recipes.{AreBoundIn, IsConstantOrRead}
use Rattle.laws_printing.specs.Distinct.Distinct.{IsOwned}
use Rattle.laws_agreement.specs.Grounds.Alike.{AreOpenAlike, IsOpenAlike}
use Rattle.just_meaning.specs.Configured.{configuration_of}
use Rattle.laws_runs.specs.Alike.Alike.{StepsAlike}
use Rattle.laws_runs.specs.Running.Entered.{AreApart, IsEnteredAlike}

-- a failure but that memory ran out
abbrev pub IsTold : Failure → Type 0
IsTold failure = failure ≢ evaluation memory

module _ (w : World) (compilation : Compilation) (given : List Override) (base : Text) (analysis : Analysis) (settled : AllSettle w (overrides_of given) compilation analysis.values.value.settings.items) (config : Config) (root : List ℕ) where
  -- what is defined by name
  abbrev pub defined : Definitions
  defined = definitions_of compilation w.expansion (overrides_of given) settled.settle base (string_bytes config.working_directory)

  -- the recipe by its path and name, with the same groups
  abbrev pub named : CallRow → Call
  named call = record { recipe = name_at compilation analysis.table.value call.recipe; groups = call.groups }

  -- a call of a recipe that runs where those at these ranks are called
  abbrev pub IsRunning : List ℕ → CallRow → Type 0
  IsRunning called call = Runs analysis.table.value.recipes.items config.no_dependencies called call.recipe

  -- What a run of calls rests on: an analyzed justfile, its recipes, and its modules, which are open by numbers and by names; what recipes that run read is bound.
  pub record RestsOn (called : List ℕ) (is_read : ℕ → Bool) (runner : Runner) (opened : List Opened) : Type 0 where
    pub numbered : IsNumberedWorld w compilation
    pub there : (place : ℕ) → Contains called place → place < length analysis.table.value.recipes.items
    pub known : IsAnalysis compilation base given analysis
    pub parameters : (place : Place) → IsOwned compilation place → (recipe : Recipe UnresolvedDependency) → recipe_at compilation place ≡ Some recipe → AreApart recipe.parameters.items
    pub functions : (place : Place) → IsOwned compilation place → (f : FunctionDefinition) → item_at compilation place ≡ Some (Function f)
        → (i j : ℕ) (p q : Name × ℕ) → slice_get f.parameters.items i ≡ Some p → slice_get f.parameters.items j ≡ Some q → lexeme p.0.token ≡ lexeme q.0.token → i ≡ j
    pub planned : ArePlanned compilation analysis.table.value.recipes.items runner.recipes.now
    pub sorted : (k : ℕ) (context : ExecutionContext) → slice_get runner.contexts.now k ≡ Some context → (frame : List BoundRow) → Contains (context.scope.now.own ∷ context.scope.now.outer) frame → ByNumber frame
    pub contexts : AreOpenAlike compilation analysis runner.contexts.now opened
    pub held_only : (k : ℕ) (context : ExecutionContext) → slice_get runner.contexts.now k ≡ Some context → (o : Opened) → Contains opened o → (alike : IsOpenAlike compilation analysis k context o) → (h : Held) → Contains o.values h
        → (lent : AssignmentRef) × Contains alike.lists.assignments.items lent × (lexeme lent.assignment.now.name.token ≡ h.name)
    pub configured : All (λ (context : ExecutionContext). (context.config.now ≡ config) × (context.root.now ≡ root)) runner.contexts.now
    pub reads : (place : ℕ) (recipe : ResolvedRecipe) → slice_get analysis.table.value.recipes.items place ≡ Some recipe → Runs analysis.table.value.recipes.items config.no_dependencies called place
        → (lists : ModuleLists) (reads : ModuleReads) → slice_get analysis.variables.lists.items recipe.module ≡ Some lists → slice_get analysis.variables.reads.items recipe.module ≡ Some reads → AreReadFrom lists reads recipe.reads.items is_read
    pub bound : (k : ℕ) (context : ExecutionContext) → slice_get runner.contexts.now k ≡ Some context → (seen : IsSeenAt analysis.variables k context) → AreBoundIn (IsConstantOrRead seen.lists is_read) context.scope.now

-- Steps of calls by places are steps by names, for calls of recipes that run: what they are bound to is the same, and so is a failure but that memory ran out.
abbrev pub StepsAreNamed : Type 0
StepsAreNamed = (w : World) (compilation : Compilation) (given : List Override) (base : Text) (analysis : Analysis) (settled : AllSettle w (overrides_of given) compilation analysis.values.value.settings.items) (config : Config) (root : List ℕ)
    (called : List ℕ) (is_read : ℕ → Bool) (runner : Runner) (opened : List Opened) → RestsOn w compilation given base analysis settled config root called is_read runner opened
    → StepsAlike (parts runner) (steps (configuration_of config root w.expansion) (defined w compilation given base analysis settled config root) opened) (IsRunning w compilation given base analysis settled config root called)
    (named w compilation given base analysis settled config root) (IsEnteredAlike runner) IsTold

-- So is a run of such calls, which is counted as the meaning has it.
abbrev pub RunsAreNamed : Type 0
RunsAreNamed = (w : World) (compilation : Compilation) (given : List Override) (base : Text) (analysis : Analysis) (settled : AllSettle w (overrides_of given) compilation analysis.values.value.settings.items) (config : Config) (root : List ℕ)
    (called : List ℕ) (is_read : ℕ → Bool) (runner : Runner) (opened : List Opened) → RestsOn w compilation given base analysis settled config root called is_read runner opened
    → (calls : List CallRow) (old new : List Entry) (t t' : Tally) (failure : Option Failure) → AllByRecursion (IsRunning w compilation given base analysis settled config root called) calls → IfSome failure IsTold
    → by_place.HasRun (parts runner) calls old t new t' failure
    → HasRun (configuration_of config root w.expansion) (defined w compilation given base analysis settled config root) opened (map (named w compilation given base analysis settled config root) calls) old t new t' failure
