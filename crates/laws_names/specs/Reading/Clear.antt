-- Where nothing is refused, no rule of reading is broken.
use Rattle.std.specs.Prelude.{◌≡◌, ℕ, List, Some, Ok, Contains}
use Rattle.tree_items.specs.declared.ast.Item.TheVariants.{Recipe as recipe_item, Set as set_item}
use Rattle.tree_items.specs.declared.recipe.Recipe.{Recipe}
use Rattle.tree_items.specs.declared.recipe.UnresolvedDependency.{UnresolvedDependency}
use Rattle.tree_items.specs.declared.set.Set.{Set}
use Rattle.modules_compilation.specs.Places.{item_at}
use Rattle.modules_compilation.specs.declared.compilation.Compilation.{Compilation}
use Rattle.modules_compilation.specs.declared.module_node.ModuleNode.{ModuleNode}
use Rattle.modules_compilation.specs.declared.place.Place.{Place}
use Rattle.resolve_references.specs.ItemReferences.{references_of_recipe, references_of_set}
use Rattle.resolve_references.specs.Places.{places_of}
use Rattle.resolve_references.specs.declared.variable_resolver.VariableResolver.{VariableResolver}
use Rattle.resolve_analysis.specs.Lists.{kept_by}
use Rattle.resolve_analysis.specs.Reads.{IsResolverOf, expressions_of, rows_of}
use Rattle.meaning_rules.specs.Worlds.Given.{Overrides, Text, World}
use Rattle.meaning_rules.specs.Rules.{Broken, function_argument_count, undefined_variable, unknown_function}
use Rattle.laws_modules.specs.Names.Names.{HasNode}
use Rattle.laws_names.specs.Reading.Meant.{IsNumberedWorld}

-- no expression of what a module keeps is refused
pub record IsClear (compilation : Compilation) (node : ModuleNode) : Type 0 where
  pub resolver : VariableResolver
  pub of : IsResolverOf (kept_by compilation node) resolver
  pub graph : List (List ℕ)
  pub rows : rows_of resolver (expressions_of (kept_by compilation node)) ≡ Ok graph
  pub recipes : (place : Place) (r : Recipe UnresolvedDependency) → Contains node.recipes.items place → item_at compilation place ≡ Some (recipe_item r) → (places : List ℕ) × (places_of resolver (references_of_recipe r) ≡ Ok places)
  pub sets : (place : Place) (s : Set) → Contains node.sets.items place → item_at compilation place ≡ Some (set_item s) → (places : List ℕ) × (places_of resolver (references_of_set s) ≡ Ok places)

-- no rule of what expressions read and call is broken
pub record NoReadBroken (w : World) (o : Overrides) : Type 0 where
  pub variables : (name : Text) → Broken w o (undefined_variable name) → ⊥
  pub functions : (name : Text) → Broken w o (unknown_function name) → ⊥
  pub counts : (name : Text) (count : ℕ) → Broken w o (function_argument_count name count) → ⊥

-- where no module is refused, none is broken
abbrev pub ReadsAreClear : Type 0
ReadsAreClear = (w : World) (o : Overrides) (compilation : Compilation) → IsNumberedWorld w compilation
    → ((k : ℕ) (node : ModuleNode) → HasNode w compilation k node → IsClear compilation node) → NoReadBroken w o
