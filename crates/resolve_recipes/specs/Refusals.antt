-- Why dependencies and aliases stand for no recipe, with the names that are told.
use Rattle.std.specs.Prelude.{ℕ, List}
use Rattle.just_text.specs.declared.name.Name.{Name}
use Rattle.resolve_recipes.specs.declared.fault.DependencyFault.{DependencyFault}
use Rattle.resolve_recipes.specs.declared.fault.DependencyFault.TheVariants.{OutOfMemory, ArgumentCount, ModuleAsRecipe, UnknownAliasTarget, UnknownDependency}
use Rattle.resolve_recipes.specs.declared.recipe_resolver.Reason.{Reason}
use Rattle.resolve_recipes.specs.declared.recipe_resolver.Reason.TheVariants.{ArgumentCount as CountReason, ModuleAsRecipe as ModuleReason, Unknown}

pub data Refusal : Type 0 where
  out_of_memory : Refusal
  -- the recipe that depends, its dependency's path, and how many values this gives
  argument_count : Name → List Name → ℕ → Refusal
  module_as_recipe : List Name → Refusal
  unknown_alias_target : Name → List Name → Refusal
  unknown_dependency : Name → List Name → Refusal

abbrev pub told : DependencyFault → Refusal
told OutOfMemory = out_of_memory
told (ArgumentCount recipe dependency found) = argument_count recipe dependency.now found
told (ModuleAsRecipe path) = module_as_recipe path.now
told (UnknownAliasTarget alias target) = unknown_alias_target alias target.now
told (UnknownDependency recipe dependency) = unknown_dependency recipe dependency.now

-- the refusal of a recipe's dependency by this path
abbrev pub refused : Reason → Name → List Name → Refusal
refused (CountReason found) recipe path = argument_count recipe path found
refused ModuleReason recipe path = module_as_recipe path
refused Unknown recipe path = unknown_dependency recipe path
