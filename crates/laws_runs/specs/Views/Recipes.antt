-- Recipes of modules name what is known.
use Rattle.std.specs.Prelude.{◌≡◌, ◌<◌, ◌⊎◌, ℕ, Bool, true, List, Some, Ok, String, Contains, IsSome, length, map, slice_get}
use Rattle.std.specs.BTreeMap.{BTreeMap}
use Rattle.tree_items.specs.declared.ast.Item.TheVariants.{Recipe as recipe_item}
use Rattle.tree_items.specs.declared.recipe.Recipe.{Recipe}
use Rattle.tree_items.specs.declared.recipe.UnresolvedDependency.{UnresolvedDependency}
use Rattle.just_value.specs.Constants.{constant_rows}
use Rattle.just_value.specs.Frames.{Frames, look_up}
use Rattle.evaluate_context.specs.declared.context.ExecutionContext.{ExecutionContext}
use Rattle.evaluate_expressions.specs.Situations.{functions_in}
use Rattle.evaluate_variables.specs.Known.{ParametersKnown}
use Rattle.modules_compilation.specs.Places.{item_at}
use Rattle.modules_compilation.specs.declared.compilation.Compilation.{Compilation}
use Rattle.modules_compilation.specs.declared.module_node.ModuleNode.{ModuleNode}
use Rattle.resolve_references.specs.ItemReferences.{references_of_recipe}
use Rattle.resolve_references.specs.Places.{places_of}
use Rattle.resolve_references.specs.Seen.{Seen, seen_in}
use Rattle.resolve_analysis.specs.Lists.{numbers_in}
use Rattle.resolve_analysis.specs.declared.module_lists.ModuleLists.{ModuleLists}
use Rattle.resolve_analysis.specs.declared.module_reads.ModuleReads.{ModuleReads}
use Rattle.resolve_analysis.specs.declared.recipes.RecipeTable.{RecipeTable}
use Rattle.resolve_analysis.specs.declared.recipes.ResolvedRecipe.{ResolvedRecipe}
use Rattle.resolve_analysis.specs.declared.variables.ModuleVariables.{ModuleVariables}
use Rattle.just_resolve.specs.Table.{IsTable}
use Rattle.just_resolve.specs.Variables.{AreVariables}
use Rattle.meaning_dialogues.specs.Calls.{DefinedFunction}
use Rattle.meaning_dialogues.specs.Evaluation.{Value}
use Rattle.meaning_dialogues.specs.Terms.{term_of}
use Rattle.meaning_evaluation.proofs.Stages.Depth.{HasNumber}
use Rattle.laws_evaluation.specs.Soundness.Known.{BodiesKnown, NamesKnown}
use Rattle.laws_evaluation.specs.Soundness.Opening.{IsNumbered}
use Rattle.meaning_rules.specs.Worlds.Given.{World}
use Rattle.laws_modules.specs.Names.Names.{HasNode}
use Rattle.laws_names.specs.Reading.Meant.{IsNumberedWorld}
use Rattle.laws_names.specs.Reading.Places.{IsItemOf}
use Rattle.laws_runs.specs.Views.Known.{IsSeenAt}
use Rattle.laws_runs.specs.Views.Read.{AreReadFrom}

-- the number of a variable of the module that is read
pub record IsReadNumber (lists : ModuleLists) (is_read : ℕ → Bool) (number : ℕ) : Type 0 where
  pub place : ℕ
  pub here : slice_get (numbers_in lists.assignments.items) place ≡ Some number
  pub read : is_read number ≡ true

-- that of a constant of the language, or of such a variable
abbrev pub IsConstantOrRead : ModuleLists → (ℕ → Bool) → ℕ → Type 0
IsConstantOrRead lists is_read number = (number < length constant_rows) ⊎ IsReadNumber lists is_read number

-- what the expressions of a recipe name is known: parameters that they see, and such numbers; and so it is in the bodies of the functions that they reach
pub record ExpressionsKnown (context : ExecutionContext) (N : ℕ → Type 0) (recipe : Recipe UnresolvedDependency) : Type 0 where
  pub reached : DefinedFunction → Bool
  pub bodies : BodiesKnown (functions_in context) (λ f. reached f ≡ true) (λ x. IsNumbered N x.number)
  pub names : (s : Seen) → Contains (seen_in (recipe_item recipe)) s
      → NamesKnown (functions_in context) (λ f. reached f ≡ true) (λ x. HasNumber (map (λ p. p.1) s.parameters) x.number ⊎ IsNumbered N x.number) (term_of s.expression)

-- where what a recipe reads is read, what its expressions name is known
abbrev pub RecipesAreKnown : {A : Type 0} → BTreeMap ℕ (String A) → Type 0
RecipesAreKnown overrides = (w : World) (compilation : Compilation) → IsNumberedWorld w compilation → (variables : ModuleVariables) → AreVariables overrides compilation variables
    → (k : ℕ) (node : ModuleNode) → HasNode w compilation k node → (context : ExecutionContext) (seen : IsSeenAt variables k context) (reads : ModuleReads) → slice_get variables.reads.items k ≡ Some reads
    → (recipe : Recipe UnresolvedDependency) → IsItemOf compilation node (recipe_item recipe) → (places : List ℕ) → places_of reads.resolver (references_of_recipe recipe) ≡ Ok places
    → (is_read : ℕ → Bool) → AreReadFrom seen.lists reads places is_read → ExpressionsKnown context (IsConstantOrRead seen.lists is_read) recipe

-- the recipe stands in the files where one of the table does, and where what this reads is read, what its expressions name is known
pub record IsKnownRecipe (compilation : Compilation) (variables : ModuleVariables) (recipe : ResolvedRecipe) : Type 0 where
  pub written : Recipe UnresolvedDependency
  pub there : item_at compilation recipe.place ≡ Some (recipe_item written)
  pub known : (context : ExecutionContext) (seen : IsSeenAt variables recipe.module context) (reads : ModuleReads) → slice_get variables.reads.items recipe.module ≡ Some reads
      → (is_read : ℕ → Bool) → AreReadFrom seen.lists reads recipe.reads.items is_read → ExpressionsKnown context (IsConstantOrRead seen.lists is_read) written

-- so is each recipe of the table
abbrev pub TableRecipesAreKnown : {A : Type 0} → BTreeMap ℕ (String A) → Type 0
TableRecipesAreKnown overrides = (w : World) (compilation : Compilation) → IsNumberedWorld w compilation → (variables : ModuleVariables) → AreVariables overrides compilation variables
    → (table : RecipeTable) → IsTable compilation variables.reads.items table → (place : ℕ) (recipe : ResolvedRecipe) → slice_get table.recipes.items place ≡ Some recipe → IsKnownRecipe compilation variables recipe

-- such numbers are bound in frames
abbrev pub AreBoundIn : (ℕ → Type 0) → Frames → Type 0
AreBoundIn N frames = (number : ℕ) → N number → IsSome (look_up frames number)

-- where the numbers are bound in the module's frames and where the recipe stands, and each parameter has a group, what parameters and `env` attributes name is known
abbrev pub ParametersAreKnown : Type 0
ParametersAreKnown = (context : ExecutionContext) (lists : ModuleLists) (is_read : ℕ → Bool) (recipe : Recipe UnresolvedDependency) → ExpressionsKnown context (IsConstantOrRead lists is_read) recipe
    → AreBoundIn (IsConstantOrRead lists is_read) context.scope.now → (here : Frames) → AreBoundIn (IsConstantOrRead lists is_read) here
    → (groups : List Value) → length groups ≡ length recipe.parameters.items → ParametersKnown context recipe groups here
