-- Which variables of a module are read.
use Rattle.std.specs.Prelude.{◌≡◌, ◌↔◌, ◌≤◌, ℕ, Bool, true, List, Option, Some, None, String, Contains, length, slice_get}
use Rattle.std.specs.BTreeMap.{BTreeMap}
use Rattle.evaluate_context.specs.declared.settings.Settings.{Settings}
use Rattle.evaluate_variables.specs.Opened.{overridden}
use Rattle.modules_compilation.specs.declared.compilation.Compilation.{Compilation}
use Rattle.resolve_order.specs.Needs.{rows}
use Rattle.resolve_order.specs.Reads.{ReadsThrough}
use Rattle.resolve_analysis.specs.Lists.{numbers_in}
use Rattle.resolve_analysis.specs.Opening.{IsEvaluated, Runs}
use Rattle.resolve_analysis.specs.declared.module_lists.ModuleLists.{ModuleLists}
use Rattle.resolve_analysis.specs.declared.module_reads.ModuleReads.{ModuleReads}
use Rattle.resolve_analysis.specs.declared.recipes.ResolvedRecipe.{ResolvedRecipe}
use Rattle.resolve_analysis.specs.declared.variables.ModuleVariables.{ModuleVariables}
use Rattle.just_resolve.specs.Variables.{AreVariables}
use Rattle.meaning_rules.specs.Worlds.Given.{World}
use Rattle.laws_names.specs.Reading.Meant.{IsNumberedWorld}

-- with a variable that is read and not overridden, the variables are read that it reads, directly or through functions
abbrev pub IsClosedIn : ModuleLists → ModuleReads → (ℕ → Option (List ℕ)) → (ℕ → Bool) → Type 0
IsClosedIn lists reads overrides is_read = (place other number read : ℕ) → slice_get (numbers_in lists.assignments.items) place ≡ Some number → slice_get (numbers_in lists.assignments.items) other ≡ Some read
    → is_read number ≡ true → overrides number ≡ None → ReadsThrough (rows reads.graph.items) (length lists.assignments.items) place other → is_read read ≡ true

-- the same of the module at a place
abbrev pub IsClosedAt : ModuleVariables → ℕ → (ℕ → Option (List ℕ)) → (ℕ → Bool) → Type 0
IsClosedAt variables k overrides is_read = (lists : ModuleLists) (reads : ModuleReads) → slice_get variables.lists.items k ≡ Some lists → slice_get variables.reads.items k ≡ Some reads → IsClosedIn lists reads overrides is_read

-- those are read that a run evaluates
abbrev pub AreEvaluated : ModuleVariables → List ResolvedRecipe → List Settings → List ℕ → Bool → (ℕ → Bool) → Type 0
AreEvaluated variables recipes settings called no_dependencies is_read = (number : ℕ) → (is_read number ≡ true) ↔ IsEvaluated variables recipes settings called no_dependencies number

-- what a variable reads is evaluated by a run that evaluates the variable
abbrev pub EvaluatedAreClosed : {A : Type 0} → BTreeMap ℕ (String A) → Type 0
EvaluatedAreClosed overrides = (w : World) (compilation : Compilation) → IsNumberedWorld w compilation → (variables : ModuleVariables) → AreVariables overrides compilation variables
    → (recipes : List ResolvedRecipe) (settings : List Settings) (called : List ℕ) (no_dependencies : Bool) (is_read : ℕ → Bool) → AreEvaluated variables recipes settings called no_dependencies is_read
    → (k : ℕ) → IsClosedAt variables k (overridden overrides) is_read

-- what is read from these places is read: the variables at them, and those that the functions at them read
pub record AreReadFrom (lists : ModuleLists) (reads : ModuleReads) (places : List ℕ) (is_read : ℕ → Bool) : Type 0 where
  pub variable : (place number : ℕ) → Contains places place → slice_get (numbers_in lists.assignments.items) place ≡ Some number → is_read number ≡ true
  pub function : (place other number : ℕ) → Contains places place → length lists.assignments.items ≤ place → ReadsThrough (rows reads.graph.items) (length lists.assignments.items) place other
      → slice_get (numbers_in lists.assignments.items) other ≡ Some number → is_read number ≡ true

-- what a recipe that runs reads is evaluated by the run
abbrev pub RunningAreRead : {A : Type 0} → BTreeMap ℕ (String A) → Type 0
RunningAreRead overrides = (compilation : Compilation) (variables : ModuleVariables) → AreVariables overrides compilation variables
    → (recipes : List ResolvedRecipe) (settings : List Settings) (called : List ℕ) (no_dependencies : Bool) (is_read : ℕ → Bool) → AreEvaluated variables recipes settings called no_dependencies is_read
    → (place : ℕ) (recipe : ResolvedRecipe) → slice_get recipes place ≡ Some recipe → Runs recipes no_dependencies called place
    → (lists : ModuleLists) (reads : ModuleReads) → slice_get variables.lists.items recipe.module ≡ Some lists → slice_get variables.reads.items recipe.module ≡ Some reads → AreReadFrom lists reads recipe.reads.items is_read
