-- What paths of names lead to.
use Rattle.std.specs.Prelude.{ℕ, List, [], ◌∷◌, Option, Some, None, map, slice_get}
use Rattle.std.specs.Option.{option_and_then}
use Rattle.just_text.specs.Tokens.{lexeme}
use Rattle.just_text.specs.declared.name.Name.{Name}
use Rattle.modules_compilation.specs.declared.compilation.Compilation.{Compilation}
use Rattle.modules_compilation.specs.declared.compilation.Target.{Target}
use Rattle.modules_compilation.specs.declared.compilation.Target.TheVariants.{Recipe, Module, Nothing}
use Rattle.modules_compilation.specs.declared.module_node.ModuleNode.{ModuleNode}
use Rattle.modules_compilation.specs.declared.place.Place.{Place}
use Rattle.resolve_recipes.specs.Named.{first_named, recipe_of, submodule_in, text_at}

abbrev pub name_texts : List Name → List (List ℕ)
name_texts names = map (λ name. lexeme name.token) names

-- the module to which names of submodules lead from the one at a place
abbrev pub module_from : List ModuleNode → Option ℕ → List (List ℕ) → Option ℕ
module_from modules place [] = place
module_from modules place (name ∷ names) = module_from modules (option_and_then (λ place. submodule_in modules place name) place) names

abbrev pub variable_of : Compilation → Option ModuleNode → List ℕ → Option Place
variable_of compilation None name = None
variable_of compilation (Some node) name = first_named (text_at compilation) node.assignments.items name

-- where the variable of this name stands that the module at a place keeps
abbrev pub variable_in : Compilation → Option ℕ → List ℕ → Option Place
variable_in compilation place name = variable_of compilation (option_and_then (λ place. slice_get compilation.modules.items place) place) name

-- where the variable stands to which names lead: those of submodules, and its own
abbrev pub variable_from : Compilation → Option ℕ → List (List ℕ) → Option Place
variable_from compilation place [] = None
variable_from compilation place (name ∷ []) = variable_in compilation place name
variable_from compilation place (name ∷ other ∷ names) = variable_from compilation (option_and_then (λ place. submodule_in compilation.modules.items place name) place) (other ∷ names)

-- a recipe of the module at a place, or else a submodule
abbrev pub recipe_or_module : ℕ → Option Place → Option ℕ → Target
recipe_or_module place (Some recipe) submodule = Recipe place recipe
recipe_or_module place None (Some submodule) = Module submodule
recipe_or_module place None None = Nothing

-- what a name stands for in the module at a place
abbrev pub named_in : Compilation → ℕ → List ℕ → Target
named_in compilation place name = recipe_or_module place (recipe_of compilation (slice_get compilation.modules.items place) name) (submodule_in compilation.modules.items place name)

-- a further name leads on from a module alone
abbrev pub leads_on : Compilation → Target → List ℕ → Target
leads_on compilation (Module place) name = named_in compilation place name
leads_on compilation (Recipe place recipe) name = Nothing
leads_on compilation Nothing name = Nothing

-- where the names lead from there, one after the other
abbrev pub leads_from : Compilation → Target → List Name → Target
leads_from compilation target [] = target
leads_from compilation target (name ∷ names) = leads_from compilation (leads_on compilation target (lexeme name.token)) names

-- what the names lead to from the module at a place
abbrev pub target_in : Compilation → ℕ → List Name → Target
target_in compilation place names = leads_from compilation (Module place) names
