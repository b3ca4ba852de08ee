-- Orders of recipes and of variables, and the names of what stands in a cycle.
use Rattle.std.specs.Prelude.{◌≡◌, ℕ, List, Option, Result, Ok, Err, length, slice_get}
use Rattle.std.specs.List.{filter_map}
use Rattle.std.specs.Option.{option_map}
use Rattle.just_text.specs.declared.name.Name.{Name}
use Rattle.evaluate_context.specs.declared.context.AssignmentRef.{AssignmentRef}
use Rattle.resolve_analysis.specs.declared.module_lists.ModuleLists.{ModuleLists}
use Rattle.resolve_order.specs.Cycles.{IsReadCycle}
use Rattle.resolve_order.specs.Needs.{IsCycle}
use Rattle.resolve_recipes.specs.declared.recipe_node.RecipeNode.{RecipeNode}
use Rattle.just_resolve.specs.declared.error.Error.{Error}
use Rattle.just_resolve.specs.declared.error.Error.TheVariants.{OutOfMemory, CircularRecipe, CircularVariable}

-- the names of the recipes at these places
abbrev pub recipe_name : List RecipeNode → ℕ → Option Name
recipe_name nodes place = option_map (λ (node : RecipeNode). node.recipe.now.name) (slice_get nodes place)

abbrev pub recipe_names : List RecipeNode → List ℕ → List Name
recipe_names nodes places = filter_map (recipe_name nodes) places

-- the names of the variables at these places
abbrev pub variable_name : List AssignmentRef → ℕ → Option Name
variable_name variables place = option_map (λ (lent : AssignmentRef). lent.assignment.now.name) (slice_get variables place)

abbrev pub variable_names : List AssignmentRef → List ℕ → List Name
variable_names variables places = filter_map (variable_name variables) places

-- a refusal that tells the names, or want of memory
abbrev pub with_names : {E : Type 0} → (List Name → Error) → Result (List Name) E → Error
with_names refusal (Ok names) = refusal names
with_names refusal (Err refused) = OutOfMemory

-- a true cycle of what recipes depend on is told by its names
pub record IsCircularRecipe (nodes : List RecipeNode) (needs : List (List ℕ)) (error : Error) : Type 0 where
  pub places : List ℕ
  pub cycle : IsCycle needs places
  pub tells : error ≡ CircularRecipe (recipe_names nodes places)

-- a true cycle of what the module's variables read is told by its names
pub record IsCircularVariable (lists : ModuleLists) (graph : List (List ℕ)) (error : Error) : Type 0 where
  pub places : List ℕ
  pub cycle : IsReadCycle graph (length lists.assignments.items) places
  pub tells : error ≡ CircularVariable (variable_names lists.assignments.items places)
