-- Recipes, variables and modules by name, and what they say to a run.
use Rattle.std.specs.Prelude.{ℕ, List, [], ◌∷◌, ◌++◌, Bool, ◌&&◌, Option}
use Rattle.std.specs.Str.{bytes_eq}
use Rattle.std.specs.Cmp.Lexicographic.{pointwise}
use Rattle.tree_items.specs.declared.recipe.ParameterKind.{ParameterKind}
use Rattle.tree_items.specs.Lines.{Piece}
use Rattle.tree_items.specs.Recipes.{ArgumentShape}
use Rattle.tree_expressions.specs.Shape.{Shape}
use Rattle.just_host.specs.declared.job.DotenvRequest.{DotenvRequest}
use Rattle.tree_attributes.specs.Settings.{InterpreterShape}

-- a recipe, or a variable, by the path of its module and its name
pub record RecipeName : Type 0 where
  pub path : List (List ℕ)
  pub recipe : List ℕ

pub record VariableName : Type 0 where
  pub path : List (List ℕ)
  pub name : List ℕ

-- a call: a recipe and a group of values for each of its parameters
pub record Call : Type 0 where
  pub recipe : RecipeName
  pub groups : List (List (List ℕ))

abbrev pub same_recipe : RecipeName → RecipeName → Bool
same_recipe a b = pointwise bytes_eq a.path b.path && bytes_eq a.recipe b.recipe

-- one recipe with equal groups: another split of the same text is another call
abbrev pub same_call : Call → Call → Bool
same_call a b = same_recipe a.recipe b.recipe && pointwise (pointwise bytes_eq) a.groups b.groups

-- a parameter, with what its option attribute says
pub record ParameterRow : Type 0 where
  pub name : List ℕ
  pub kind : ParameterKind
  pub export : Bool
  pub default : Option Shape
  pub long : Option (List ℕ)
  pub short : Option (List ℕ)
  pub flag : Bool
  pub multiple : Bool
  pub value : Option Shape
  pub min : Option ℕ
  pub max : Option ℕ

-- a dependency: the recipe that it names, and its arguments
pub record DependencyRow : Type 0 where
  pub on : RecipeName
  pub arguments : List ArgumentShape

-- a recipe, with what its attributes say to a run, in their order, and the path of the file that it stands in
pub record RecipeRow : Type 0 where
  pub file : List ℕ
  pub parameters : List ParameterRow
  pub env : List (Shape × Shape)
  pub confirm : Option (Option Shape)
  pub priors : List DependencyRow
  pub subsequents : List DependencyRow
  pub body : List (List Piece)
  pub quiet : Bool
  pub script : Option (Option InterpreterShape)
  pub extension : Option (List ℕ)
  pub folder : Option (List ℕ)
  pub no_cd : Bool
  pub no_quiet : Bool
  pub passes_words : Bool

-- a variable, with its file; whether it is exported by its keyword alone
pub record VariableRow : Type 0 where
  pub file : List ℕ
  pub value : Shape
  pub export : Bool
  pub eager : Bool
  pub private : Bool

-- a function, with its file
pub record FunctionRow : Type 0 where
  pub file : List ℕ
  pub name : List ℕ
  pub parameters : List (List ℕ)
  pub body : Shape

-- a module: the key of its file, the folder in which it runs, the names that are not exported, and what its settings say to a run; whether its subsequents share the table; what it asks for of files of variables
pub record ModuleRow : Type 0 where
  pub source : List ℕ
  pub folder : List ℕ
  pub unexports : List (List ℕ)
  pub shell : Option (List (List ℕ))
  pub script_interpreter : Option (List (List ℕ))
  pub guards : Bool
  pub ignore_comments : Bool
  pub quiet : Bool
  pub no_cd : Bool
  pub default_script : Bool
  pub lists : Bool
  pub export : Bool
  pub lazy : Bool
  pub shares : Bool
  pub default_list : Bool
  pub request : Option DotenvRequest

-- submodules by name, each with its own, and those after it
pub data Modules : Type 0 where
  no_module : Modules
  a_module : List ℕ → Modules → Modules → Modules

-- their paths: each before its own submodules, and these before those after it
abbrev pub paths_below : List (List ℕ) → Modules → List (List (List ℕ))
paths_below path no_module = []
paths_below path (a_module name inner others) = (path ++ name ∷ []) ∷ (paths_below (path ++ name ∷ []) inner ++ paths_below path others)

-- the root first
abbrev pub paths_of : Modules → List (List (List ℕ))
paths_of modules = [] ∷ paths_below [] modules

-- What is defined, by name: of each name the definition that is kept; the recipe that an alias stands for, and the one that runs in a module where none is named. Submodules stand in byte order, and so do the names of a module's variables.
pub record Definitions : Type 0 where
  pub modules : Modules
  pub recipe : RecipeName → Option RecipeRow
  pub alias : RecipeName → Option RecipeName
  pub default : List (List ℕ) → Option RecipeName
  pub names : List (List ℕ) → List (List ℕ)
  pub variable : VariableName → Option VariableRow
  pub override : VariableName → Option (List ℕ)
  pub functions : List (List ℕ) → List FunctionRow
  pub inside : List (List ℕ) → Option ModuleRow
