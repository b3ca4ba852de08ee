-- The variables that a run of recipes evaluates where modules are lazy.
use Rattle.std.specs.Prelude.{◌≡◌, ◌<◌, ℕ, suc, ◌++◌, Bool, true, false, ◌||◌, if◌then◌else◌, nat_eq, nat_lt, List, [], ◌∷◌, length, map, Option, Some, None, slice_get, Contains}
use Rattle.tree_expressions.specs.declared.expression.Expression.{Expression}
use Rattle.tree_items.specs.declared.item.Binding.{Binding}
use Rattle.evaluate_context.specs.declared.context.AssignmentRef.{AssignmentRef}
use Rattle.evaluate_context.specs.declared.settings.Settings.{Settings}
use Rattle.resolve_order.specs.Flooded.{Reaches, followed}
use Rattle.resolve_order.specs.Needs.{rows}
use Rattle.resolve_analysis.specs.Lists.{numbers_in}
use Rattle.resolve_analysis.specs.declared.module_lists.ModuleLists.{ModuleLists}
use Rattle.resolve_analysis.specs.declared.module_reads.ModuleReads.{ModuleReads}
use Rattle.resolve_analysis.specs.declared.recipes.ResolvedRecipe.{ResolvedRecipe}
use Rattle.resolve_analysis.specs.declared.variables.ModuleVariables.{ModuleVariables}

-- what a recipe depends on, nothing where dependencies don't run
abbrev pub needs_of : Bool → ResolvedRecipe → List ℕ
needs_of no_dependencies recipe = if no_dependencies then [] else recipe.priors.items ++ recipe.subsequents.items

-- the recipe at a place runs where those at these places are called
abbrev pub Runs : List ResolvedRecipe → Bool → List ℕ → ℕ → Type 0
Runs recipes no_dependencies called place = Reaches (map (needs_of no_dependencies) recipes) [] called place

-- a recipe that runs reads a place of the module
pub record IsReadByRecipe (recipes : List ResolvedRecipe) (no_dependencies : Bool) (called : List ℕ) (home read : ℕ) : Type 0 where
  pub place : ℕ
  pub recipe : ResolvedRecipe
  pub here : slice_get recipes place ≡ Some recipe
  pub runs : Runs recipes no_dependencies called place
  pub inside : recipe.module ≡ home
  pub reads : Contains recipe.reads.items read

-- the variable is evaluated whether or not something reads it: it is eager, or exported
abbrev pub is_wanted : Bool → Binding Expression → Bool
is_wanted exports_all variable = variable.eager || variable.export || exports_all

-- a module without settings doesn't export all its variables
abbrev pub exports_all : Option Settings → Bool
exports_all None = false
exports_all (Some settings) = settings.export

-- the places of the variables that are evaluated anyway, those that are read from there, and what the variables and functions at such places read, overridden ones not looked into
pub data IsOpened (all : Bool) (lists : ModuleLists) (reads : ModuleReads) (IsRead : ℕ → Type 0) : ℕ → Type 0 where
  anyway : {place : ℕ} (variable : AssignmentRef) → slice_get lists.assignments.items place ≡ Some variable → is_wanted all variable.assignment.now ≡ true → IsOpened all lists reads IsRead place
  by_recipe : {place : ℕ} → IsRead place → IsOpened all lists reads IsRead place
  by_variable : {place other : ℕ} → IsOpened all lists reads IsRead place → Contains (followed (rows reads.graph.items) reads.overridden.items place) other → IsOpened all lists reads IsRead other

-- the number of a variable at such a place of the module's graph
pub record IsOpenedNumber (all : Bool) (lists : ModuleLists) (reads : ModuleReads) (IsRead : ℕ → Type 0) (number : ℕ) : Type 0 where
  pub place : ℕ
  pub here : slice_get (numbers_in lists.assignments.items) place ≡ Some number
  pub there : place < length reads.graph.items
  pub opened : IsOpened all lists reads IsRead place

-- a run of these recipes evaluates a variable of this number
pub record IsEvaluated (variables : ModuleVariables) (recipes : List ResolvedRecipe) (settings : List Settings) (called : List ℕ) (no_dependencies : Bool) (number : ℕ) : Type 0 where
  pub home : ℕ
  pub lists : ModuleLists
  pub kept : slice_get variables.lists.items home ≡ Some lists
  pub reads : ModuleReads
  pub known : slice_get variables.reads.items home ≡ Some reads
  pub opened : IsOpenedNumber (exports_all (slice_get settings home)) lists reads (IsReadByRecipe recipes no_dependencies called home) number

-- ---- by rows of places, one for each module

-- the places of the variables that are evaluated anyway, where the first is at a place
abbrev pub wanted_from : Bool → ℕ → List AssignmentRef → List ℕ
wanted_from all place [] = []
wanted_from all place (variable ∷ variables) = if is_wanted all variable.assignment.now then place ∷ wanted_from all (suc place) variables else wanted_from all (suc place) variables

-- what a recipe reads in a module
abbrev pub reads_at : ℕ → ResolvedRecipe → List ℕ
reads_at home recipe = if nat_eq recipe.module home then recipe.reads.items else []

abbrev pub reads_if_marked : ℕ → ResolvedRecipe → Option ℕ → List ℕ
reads_if_marked home recipe None = []
reads_if_marked home recipe (Some mark) = reads_at home recipe

-- what the recipes that are marked read in a module
abbrev pub marked_reads : ℕ → List ResolvedRecipe → List (Option ℕ) → List ℕ
marked_reads home [] marks = []
marked_reads home (recipe ∷ recipes) [] = []
marked_reads home (recipe ∷ recipes) (mark ∷ marks) = reads_if_marked home recipe mark ++ marked_reads home recipes marks

-- so many rows, each of which is what this gives for its module
abbrev pub AreRows : ℕ → (ℕ → List ℕ) → List (List ℕ) → Type 0
AreRows count row_of rows = (home : ℕ) → slice_get rows home ≡ (if nat_lt home count then Some (row_of home) else None)

-- so many rows, each of which has just the places that are read in its module
pub record AreReadRows (count : ℕ) (IsRead : ℕ → ℕ → Type 0) (rows : List (List ℕ)) : Type 0 where
  pub many : length rows ≡ count
  pub sound : (home place : ℕ) (row : List ℕ) → slice_get rows home ≡ Some row → Contains row place → IsRead home place
  pub complete : (home place : ℕ) (row : List ℕ) → slice_get rows home ≡ Some row → IsRead home place → Contains row place

-- the number of a variable that is opened where the places of its module's row are read
pub record IsNumberOf (all_lists : List ModuleLists) (all_reads : List ModuleReads) (settings : List Settings) (all_rows : List (List ℕ)) (number : ℕ) : Type 0 where
  pub home : ℕ
  pub lists : ModuleLists
  pub kept : slice_get all_lists home ≡ Some lists
  pub reads : ModuleReads
  pub known : slice_get all_reads home ≡ Some reads
  pub row : List ℕ
  pub listed : slice_get all_rows home ≡ Some row
  pub opened : IsOpenedNumber (exports_all (slice_get settings home)) lists reads (Contains row) number
