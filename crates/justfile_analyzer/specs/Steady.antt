-- Which justfiles are steady, by what is written at places.
use Rattle.std.specs.Prelude.{◌≡◌, ℕ, Bool, List, [], ◌∷◌, ◌++◌, map, codes, Option, Some, None, Contains, slice_get, if◌then◌else◌}
use Rattle.std.specs.List.{flat_map}
use Rattle.just_text.specs.Tokens.{lexeme}
use Rattle.just_text.specs.declared.name.Name.{Name}
use Rattle.tree_expressions.specs.declared.expression.Expression.{Expression}
use Rattle.tree_attributes.specs.declared.attribute.Attribute.{Attribute}
use Rattle.tree_attributes.specs.declared.attribute.Attribute.TheVariants.{Confirm, Env}
use Rattle.tree_attributes.specs.Sets.Sets.{items_of}
use Rattle.tree_attributes.specs.declared.attribute_item.AttributeItem.{AttributeItem}
use Rattle.tree_items.specs.declared.item.FunctionDefinition.{FunctionDefinition}
use Rattle.tree_items.specs.declared.recipe.DependencyArgument.{DependencyArgument}
use Rattle.tree_items.specs.declared.recipe.Parameter.{Parameter}
use Rattle.tree_items.specs.declared.recipe.Recipe.{Recipe}
use Rattle.tree_items.specs.declared.recipe.UnresolvedDependency.{UnresolvedDependency}
use Rattle.evaluate_context.specs.Functions.{first_named}
use Rattle.evaluate_context.specs.declared.context.FunctionRef.{FunctionRef}
use Rattle.evaluate_context.specs.declared.settings.Settings.{Settings}
use Rattle.modules_compilation.specs.declared.compilation.Compilation.{Compilation}
use Rattle.modules_compilation.specs.declared.module_node.ModuleNode.{ModuleNode}
use Rattle.modules_compilation.specs.declared.place.Place.{Place}
use Rattle.resolve_references.specs.References.{references_of}
use Rattle.resolve_references.specs.declared.references.Reference.{Reference}
use Rattle.resolve_references.specs.declared.references.Reference.TheVariants.{Call}
use Rattle.resolve_recipes.specs.Nodes.{recipe_at}
use Rattle.resolve_analysis.specs.declared.module_lists.ModuleLists.{ModuleLists}
use Rattle.resolve_analysis.specs.declared.recipes.ResolvedRecipe.{ResolvedRecipe}

-- ---- what is evaluated first

-- a prompt, the key and the value of an `env`
abbrev pub first_of_attribute : Attribute → List Expression
first_of_attribute (Confirm (Some prompt)) = prompt ∷ []
first_of_attribute (Env key value) = key ∷ value.value ∷ []
first_of_attribute attribute = []

abbrev pub first_of_item : AttributeItem → List Expression
first_of_item item = first_of_attribute item.attribute

abbrev pub if_there : Option Expression → List Expression
if_there None = []
if_there (Some e) = e ∷ []

-- a default
abbrev pub first_of_parameter : Parameter → List Expression
first_of_parameter parameter = if_there parameter.default

abbrev pub argument_of : DependencyArgument → Expression
argument_of argument = argument.expression

abbrev pub arguments_of : UnresolvedDependency → List Expression
arguments_of dependency = map argument_of dependency.arguments.items

-- the arguments of the subsequents, where these share the recipe's table
abbrev pub shared_arguments : Bool → List UnresolvedDependency → List Expression
shared_arguments shares subsequents = if shares then flat_map arguments_of subsequents else []

-- what a recipe evaluates before its body
abbrev pub first_of_front : Recipe UnresolvedDependency → List Expression
first_of_front recipe = flat_map first_of_item (items_of recipe.attributes) ++ (flat_map first_of_parameter recipe.parameters.items ++ flat_map arguments_of recipe.priors.items)

-- the same, and the arguments of the subsequents that share its table
abbrev pub first_of_recipe : Bool → Recipe UnresolvedDependency → List Expression
first_of_recipe shares recipe = first_of_front recipe ++ shared_arguments shares recipe.subsequents.items

abbrev pub first_if_there : Bool → Option (Recipe UnresolvedDependency) → List Expression
first_if_there shares None = []
first_if_there shares (Some recipe) = first_of_recipe shares recipe

-- the same of the recipe that stands at a place
abbrev pub first_at : Compilation → Bool → Place → List Expression
first_at compilation shares place = first_if_there shares (recipe_at compilation place)

-- ---- what asks for the flag of dependencies

-- what is read and called in references, and in the bodies of the functions that are called from there, through any chain; a name calls the first function of the name
pub data IsReached (functions : List FunctionRef) (references : List Reference) : Reference → Type 0 where
  written : {r : Reference} → Contains references r → IsReached functions references r
  through : {name : Name} {count : ℕ} {f : FunctionDefinition} {r : Reference} → IsReached functions references (Call name count) → first_named (lexeme name.token) functions ≡ Some f → Contains (references_of f.body) r
      → IsReached functions references r

-- the built-in `is_dependency` is called there, which a function of that name hides
pub record AsksAmong (functions : List FunctionRef) (references : List Reference) : Type 0 where
  pub name : Name
  pub count : ℕ
  pub reached : IsReached functions references (Call name count)
  pub is : lexeme name.token ≡ codes "is_dependency"
  pub free : first_named (codes "is_dependency") functions ≡ None

-- the same of an expression
abbrev pub Asks : List FunctionRef → Expression → Type 0
Asks functions e = AsksAmong functions (references_of e)

-- one of the expressions that the recipes at these places evaluate first asks for it
abbrev pub AskFirst : Compilation → List FunctionRef → Bool → List Place → Type 0
AskFirst compilation functions shares places = (e : Expression) × Contains (flat_map (first_at compilation shares) places) e × Asks functions e

-- ---- steady justfiles

module _ (compilation : Compilation) (lists : List ModuleLists) (settings : List Settings) where
  -- a recipe of the module at a place asks for the flag, with the functions and the settings that the module has
  pub record ModuleAsks (home : ℕ) : Type 0 where
    pub node : ModuleNode
    pub here : slice_get compilation.modules.items home ≡ Some node
    pub kept : ModuleLists
    pub keeps : slice_get lists home ≡ Some kept
    pub own : Settings
    pub set : slice_get settings home ≡ Some own
    pub asks : AskFirst compilation kept.functions.items own.share_subsequents node.recipes.items

-- a parameter's value is replaced where words call its recipe, which is one of these
pub record HasValue (compilation : Compilation) (recipes : List ResolvedRecipe) : Type 0 where
  pub resolved : ResolvedRecipe
  pub among : Contains recipes resolved
  pub recipe : Recipe UnresolvedDependency
  pub stands : recipe_at compilation resolved.place ≡ Some recipe
  pub parameter : Parameter
  pub has : Contains recipe.parameters.items parameter
  pub value : Expression
  pub is : parameter.value ≡ Some value

-- no recipe asks before its body whether it is a dependency, and no parameter has a value of its own
pub record AreSteadyAt (compilation : Compilation) (recipes : List ResolvedRecipe) (lists : List ModuleLists) (settings : List Settings) : Type 0 where
  pub unasked : (home : ℕ) → ModuleAsks compilation lists settings home → ⊥
  pub unvalued : HasValue compilation recipes → ⊥
