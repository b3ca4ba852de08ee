-- The lists of a module, and what they gain by the definitions that it keeps.
use Rattle.std.specs.Prelude.{◌≡◌, ◌==◌, ◌++◌, ℕ, Bool, true, false, List, Option, Some, None, map, filter, filter_map}
use Rattle.just_text.specs.declared.name.Name.{Name}
use Rattle.modules_compilation.specs.declared.module_node.ModuleNode.{ModuleNode}
use Rattle.modules_compilation.specs.declared.place.Place.{Place}
use Rattle.modules_compilation.specs.declared.recipe_name.RecipeName.{RecipeName}
use Rattle.modules_definitions.specs.declared.definition.Definition.{Definition}
use Rattle.modules_definitions.specs.declared.definition.Kind.{Kind}
use Rattle.modules_definitions.specs.declared.definition.Kind.TheVariants.{Alias, Disabled, Function, Module, Recipe, Set, Unexport, Variable}

abbrev pub is_same_kind : Kind → Kind → Bool
is_same_kind Alias Alias = true
is_same_kind Disabled Disabled = true
is_same_kind Function Function = true
is_same_kind (Module one) (Module other) = one == other
is_same_kind Recipe Recipe = true
is_same_kind Set Set = true
is_same_kind Unexport Unexport = true
is_same_kind Variable Variable = true
is_same_kind one other = false

-- those of a kind, in their order
abbrev pub of_kind : Kind → List Definition → List Definition
of_kind kind definitions = filter (λ d. is_same_kind kind d.kind) definitions

abbrev pub places_of : Kind → List Definition → List Place
places_of kind definitions = map (λ d. d.place) (of_kind kind definitions)

-- the names of recipes: their fronts and places
abbrev pub recipe_names_of : List Definition → List RecipeName
recipe_names_of definitions = map (λ d. record { front = d.front; place = d.place }) (of_kind Recipe definitions)

-- the names that are not to be exported
abbrev pub unexports_of : List Definition → List Name
unexports_of definitions = map (λ d. d.name.now) (of_kind Unexport definitions)

abbrev pub submodule_of : Kind → Option ℕ
submodule_of (Module submodule) = Some submodule
submodule_of other = None

-- the places of submodules among all modules
abbrev pub submodules_of : List Definition → List ℕ
submodules_of definitions = filter_map (λ d. submodule_of d.kind) definitions

-- what a module is but for its lists
pub record IsSameModule (before after : ModuleNode) : Type 0 where
  pub parent : after.parent ≡ before.parent
  pub name : after.name ≡ before.name
  pub item : after.item ≡ before.item
  pub source : after.source ≡ before.source
  pub first_file : after.first_file ≡ before.first_file
  pub end_file : after.end_file ≡ before.end_file

-- The module's lists gain these definitions after what stood in them; its submodules, after these.
pub record Gains (submodules : List ℕ) (before after : ModuleNode) (gained : List Definition) : Type 0 where
  pub same : IsSameModule before after
  pub aliases : after.aliases.items ≡ before.aliases.items ++ places_of Alias gained
  pub assignments : after.assignments.items ≡ before.assignments.items ++ places_of Variable gained
  pub disabled : after.disabled.items ≡ before.disabled.items ++ places_of Disabled gained
  pub functions : after.functions.items ≡ before.functions.items ++ places_of Function gained
  pub recipes : after.recipes.items ≡ before.recipes.items ++ places_of Recipe gained
  pub recipe_names : after.recipe_names.items ≡ before.recipe_names.items ++ recipe_names_of gained
  pub sets : after.sets.items ≡ before.sets.items ++ places_of Set gained
  pub unexports : after.unexports.items ≡ before.unexports.items ++ unexports_of gained
  pub inner : after.submodules.items ≡ submodules ++ submodules_of gained
