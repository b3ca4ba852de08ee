-- What is defined, by what modules keep: the rows of recipes, variables, functions and modules.
use Rattle.std.specs.Prelude.{◌≡◌, ◌⊎◌, ◌↔◌, ◌<◌, ◌≤◌, ◌||◌, ℕ, Bool, true, List, [], ◌∷◌, ◌++◌, map, Some, Contains, codes}
use Rattle.std.specs.List.Sorted.{IsStrictlySortedBy}
use Rattle.tree_attributes.specs.Attributes.{AttributeShape}
use Rattle.tree_attributes.specs.Settings.{SetShape}
use Rattle.tree_attributes.specs.declared.attribute.AttributeKind.TheVariants.{Default, Private}
use Rattle.modules_compilation.specs.Tables.{text_cmp}
use Rattle.tree_expressions.specs.Cutting.{begins}
use Rattle.tree_expressions.specs.Shape.{Shape}
use Rattle.tree_items.specs.Files.{alias_item, assignment_item, function_item, recipe_item}
use Rattle.tree_items.specs.Items.{AliasShape, AssignmentShape, FunctionShape}
use Rattle.tree_items.specs.Recipes.{RecipeShape}
use Rattle.meaning_dialogues.specs.Evaluation.{Value}
use Rattle.meaning_rules.specs.Worlds.Given.{Text, World, Overrides}
use Rattle.meaning_rules.specs.Worlds.Modules.{IsModule}
use Rattle.meaning_rules.specs.Worlds.Keeping.{an_alias, a_function, a_recipe, a_variable, an_unexport, IsDefined, IsOn, KeepsAt, Keeps}
use Rattle.meaning_rules.specs.Naming.{Part}
use Rattle.meaning_rules.specs.Overriding.{IsOverriddenBy}
use Rattle.meaning_rules.specs.Constants.{HasSetting, IsPartOf, HasValue}
use Rattle.meaning_rules.specs.Rules.{has}
use Rattle.meaning_evaluation.specs.Named.{RecipeName, VariableName, RecipeRow, VariableRow, FunctionRow, ModuleRow, Modules, no_module, a_module, paths_of, Definitions}
use Rattle.just_meaning.specs.Rows.{recipe_row, module_row}

-- ---- names

-- the last name of a path, and those before it
abbrev pub last_name : List Text → Text
last_name [] = []
last_name (name ∷ []) = name
last_name (name ∷ other ∷ others) = last_name (other ∷ others)

abbrev pub names_before : List Text → List Text
names_before [] = []
names_before (name ∷ []) = []
names_before (name ∷ other ∷ others) = name ∷ names_before (other ∷ others)

-- the recipe that a path of names means from a module on
abbrev pub named_from : List Text → List Text → RecipeName
named_from path names = record { path = path ++ names_before names; recipe = last_name names }

-- ---- modules

abbrev pub names_beside : Modules → List Text
names_beside no_module = []
names_beside (a_module name inner others) = name ∷ names_beside others

-- submodules stand in byte order of their names
abbrev pub AreSorted : Modules → Type 0
AreSorted no_module = Unit {0}
AreSorted (a_module name inner others) = IsStrictlySortedBy text_cmp (name ∷ names_beside others) × AreSorted inner × AreSorted others

-- private by its attribute, or by a name that begins with `_`
abbrev pub is_private : List AttributeShape → Text → Bool
is_private attributes name = has Private attributes || begins name (codes "_")

module _ (w : World) (o : Overrides) where
  -- ---- recipes

  -- the row of a recipe that its module keeps
  pub record IsRecipeRow (r : RecipeName) (row : RecipeRow) : Type 0 where
    pub own : Text
    pub is : IsModule w r.path own
    pub key : Text
    pub place : ℕ
    pub attributes : List AttributeShape
    pub shape : RecipeShape
    pub kept : KeepsAt w own a_recipe r.recipe key place (recipe_item attributes shape)
    pub passes : Bool
    pub passing : (passes ≡ true) ↔ IsOn w own (codes "positional-arguments")
    pub says : row ≡ recipe_row w.expansion key passes (λ dependency. named_from r.path dependency.path) attributes shape

  -- the recipe that an alias stands for, which its module keeps
  pub record IsAliasOf (r target : RecipeName) : Type 0 where
    pub own : Text
    pub is : IsModule w r.path own
    pub attributes : List AttributeShape
    pub shape : AliasShape
    pub kept : Keeps w own an_alias r.recipe (alias_item attributes shape)
    pub says : target ≡ named_from r.path shape.target

  -- a recipe with the attribute `default` that the module keeps, by the place of its file in reading order, and its own place in that
  pub record IsMarked (own name : Text) (file place : ℕ) : Type 0 where
    pub key : Text
    pub attributes : List AttributeShape
    pub shape : RecipeShape
    pub kept : KeepsAt w own a_recipe name key place (recipe_item attributes shape)
    pub stands : kept.at ≡ file
    pub marked : has Default attributes ≡ true

  -- a recipe that the module keeps, whose definition stands at this place of the module's own file
  pub record IsOwn (own name : Text) (place : ℕ) : Type 0 where
    pub attributes : List AttributeShape
    pub shape : RecipeShape
    pub kept : KeepsAt w own a_recipe name own place (recipe_item attributes shape)

  -- The recipe that runs where none is named: of those with the attribute `default` the first in reading order, else the first of the module's own file.
  pub data IsDefault (own : Text) : Text → Type 0 where
    by_attribute : {name : Text} {file place : ℕ} → IsMarked own name file place
        → ((other : Text) (file' place' : ℕ) → IsMarked own other file' place' → (file < file') ⊎ ((file ≡ file') × (place ≤ place'))) → IsDefault own name
    by_place : {name : Text} {place : ℕ} → ((other : Text) (file' place' : ℕ) → IsMarked own other file' place' → ⊥) → IsOwn own name place
        → ((other : Text) (place' : ℕ) → IsOwn own other place' → place ≤ place') → IsDefault own name

  pub record IsDefaultOf (path : List Text) (r : RecipeName) : Type 0 where
    pub own : Text
    pub is : IsModule w path own
    pub inside : r.path ≡ path
    pub default : IsDefault own r.recipe

  -- ---- variables and functions

  -- the row of a variable that its module keeps
  pub record IsVariableRow (x : VariableName) (row : VariableRow) : Type 0 where
    pub own : Text
    pub is : IsModule w x.path own
    pub key : Text
    pub place : ℕ
    pub attributes : List AttributeShape
    pub shape : AssignmentShape
    pub kept : KeepsAt w own a_variable x.name key place (assignment_item attributes shape)
    pub says : row ≡ record { file = key; value = shape.value; export = shape.export; eager = shape.eager; private = is_private attributes x.name }

  -- the text that the last override of a variable gives it
  pub record IsOverrideOf (x : VariableName) (text : Text) : Type 0 where
    pub own : Text
    pub overridden : IsOverriddenBy w o x.path own x.name text

  -- the names of a module's variables, in byte order
  pub record AreNames (own : Text) (names : List Text) : Type 0 where
    pub sorted : IsStrictlySortedBy text_cmp names
    pub each : (name : Text) → Contains names name ↔ IsDefined w own a_variable name

  -- the row of a function that a module keeps
  pub record IsFunctionRow (own : Text) (row : FunctionRow) : Type 0 where
    pub key : Text
    pub place : ℕ
    pub shape : FunctionShape
    pub kept : KeepsAt w own a_function row.name key place (function_item shape)
    pub says : row ≡ record { file = key; name = shape.name; parameters = shape.parameters; body = shape.body }

  -- the functions of a module, in byte order of their names
  pub record AreFunctions (own : Text) (rows : List FunctionRow) : Type 0 where
    pub sorted : IsStrictlySortedBy text_cmp (map (λ row. row.name) rows)
    pub each : (row : FunctionRow) → Contains rows row ↔ IsFunctionRow own row

  -- ---- rows of modules

  -- the names that a module doesn't export, in byte order
  pub record AreUnexported (own : Text) (names : List Text) : Type 0 where
    pub sorted : IsStrictlySortedBy text_cmp names
    pub each : (name : Text) → Contains names name ↔ IsDefined w own an_unexport name

  -- The row of a module: what its settings say, each of whose expressions has the value that stands for it.
  pub record IsModuleRow (base working : Text) (path : List Text) (row : ModuleRow) : Type 0 where
    pub own : Text
    pub is : IsModule w path own
    pub unexports : List Text
    pub unexported : AreUnexported own unexports
    pub sets : List SetShape
    pub settings : (s : SetShape) → Contains sets s ↔ HasSetting w o path own s
    pub value : Shape → Value
    pub values : (s : SetShape) (p : Part) → Contains sets s → IsPartOf w o path own s p → HasValue w o path own p.said (value p.said)
    pub is_root : Bool
    pub rooted : (is_root ≡ true) ↔ (path ≡ [])
    pub says : row ≡ module_row value base working is_root own unexports sets

  -- ---- all of it

  -- What is defined, by name, is what the modules of a world keep, with these overrides, the folder that keys stand in and the one that the root works in.
  pub record AreDefined (base working : Text) (defined : Definitions) : Type 0 where
    pub tree : (path : List Text) → Contains (paths_of defined.modules) path ↔ ((own : Text) × IsModule w path own)
    pub sorted : AreSorted defined.modules
    pub recipes : (r : RecipeName) (row : RecipeRow) → (defined.recipe r ≡ Some row) ↔ IsRecipeRow r row
    pub aliases : (r target : RecipeName) → (defined.alias r ≡ Some target) ↔ IsAliasOf r target
    pub defaults : (path : List Text) (r : RecipeName) → (defined.default path ≡ Some r) ↔ IsDefaultOf path r
    pub names : (path : List Text) (own : Text) → IsModule w path own → AreNames own (defined.names path)
    pub variables : (x : VariableName) (row : VariableRow) → (defined.variable x ≡ Some row) ↔ IsVariableRow x row
    pub overrides : (x : VariableName) (text : Text) → (defined.override x ≡ Some text) ↔ IsOverrideOf x text
    pub functions : (path : List Text) (own : Text) → IsModule w path own → AreFunctions own (defined.functions path)
    pub nowhere : (path : List Text) → ((own : Text) → IsModule w path own → ⊥) → (defined.names path ≡ []) × (defined.functions path ≡ [])
    pub modules : (path : List Text) (row : ModuleRow) → (defined.inside path ≡ Some row) ↔ IsModuleRow base working path row
