-- What the dependencies of disabled recipes name: recipes that are kept, or else disabled ones.
use Rattle.std.specs.Prelude.{ℕ, cond, List, [], ◌∷◌, length, Option, Some, None, Result, Ok, Err, slice_get}
use Rattle.std.specs.Option.{option_and_then, option_map, option_or}
use Rattle.just_text.specs.Tokens.{lexeme}
use Rattle.just_text.specs.declared.name.Name.{Name}
use Rattle.tree_items.specs.declared.recipe.UnresolvedDependency.{UnresolvedDependency}
use Rattle.modules_compilation.specs.declared.compilation.Compilation.{Compilation}
use Rattle.modules_compilation.specs.declared.module_node.ModuleNode.{ModuleNode}
use Rattle.modules_compilation.specs.declared.place.Place.{Place}
use Rattle.resolve_recipes.specs.Named.{first_named, submodule_in, text_at}
use Rattle.resolve_recipes.specs.Counts.{are_taken, count_of}
use Rattle.resolve_recipes.specs.Nodes.{recipe_at}
use Rattle.resolve_recipes.specs.Refusals.{Refusal, refused}
use Rattle.resolve_recipes.specs.Resolving.{place_of}
use Rattle.resolve_recipes.specs.declared.recipe_node.ValueCount.{ValueCount}
use Rattle.resolve_recipes.specs.declared.recipe_resolver.Reason.{Reason}
use Rattle.resolve_recipes.specs.declared.recipe_resolver.Reason.TheVariants.{ArgumentCount, ModuleAsRecipe, Unknown}
use Rattle.resolve_recipes.specs.declared.recipe_resolver.RecipeResolver.{RecipeResolver}

-- how many values the recipe at a place takes, if there is one
abbrev pub count_at : Compilation → Place → Option ValueCount
count_at compilation item = option_map (λ recipe. count_of recipe.parameters.items) (recipe_at compilation item)

abbrev pub disabled_by : Option ModuleNode → List Place
disabled_by None = []
disabled_by (Some node) = node.disabled.items

-- where the first disabled recipe of the name stands in a module that may be there
abbrev pub disabled_in : Compilation → Option ℕ → List ℕ → Option Place
disabled_in compilation place name = first_named (text_at compilation) (disabled_by (option_and_then (λ place. slice_get compilation.modules.items place) place)) name

-- where the first disabled recipe stands that the path names: submodules' names and its own
abbrev pub disabled_from : Compilation → Option ℕ → List Name → Option Place
disabled_from compilation place [] = None
disabled_from compilation place (name ∷ []) = disabled_in compilation place (lexeme name.token)
disabled_from compilation place (name ∷ other ∷ names) = disabled_from compilation (option_and_then (λ place. submodule_in compilation.modules.items place (lexeme name.token)) place) (other ∷ names)

-- why a disabled recipe, if there is one, doesn't take so many values
abbrev pub reason_of_count : ℕ → Option ValueCount → Option Reason
reason_of_count count None = Some Unknown
reason_of_count count (Some taken) = cond (are_taken taken count) None (Some (ArgumentCount count))

-- disabled recipes count where nothing that is kept has the name
abbrev pub reason_or : Result ℕ Reason → Option Reason → Option Reason
reason_or (Ok place) disabled = None
reason_or (Err (ArgumentCount count)) disabled = Some (ArgumentCount count)
reason_or (Err ModuleAsRecipe) disabled = Some ModuleAsRecipe
reason_or (Err Unknown) disabled = disabled

module _ (compilation : Compilation) (resolver : RecipeResolver) (place : ℕ) where
  -- why a disabled recipe's dependency names no recipe that takes its values, if it names none
  abbrev pub reason_of : UnresolvedDependency → Option Reason
  reason_of dependency = reason_or (place_of compilation resolver place dependency)
      (reason_of_count (length dependency.arguments.items) (option_and_then (count_at compilation) (disabled_from compilation (Some place) dependency.recipe)))

  -- the refusal of the first dependency that names none, if there is one
  abbrev pub first_refusal : Name → List UnresolvedDependency → Option Refusal
  first_refusal recipe [] = None
  first_refusal recipe (dependency ∷ dependencies) = option_or (option_map (λ reason. refused reason recipe dependency.recipe) (reason_of dependency)) (first_refusal recipe dependencies)
