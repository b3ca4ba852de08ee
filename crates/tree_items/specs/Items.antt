-- Items but recipes and settings: what they say, and how they are printed.
use Rattle.std.specs.Prelude.{ℕ, Bool, if◌then◌else◌, List, [], ◌∷◌, ◌++◌, map, Option, Some, None, codes}
use Rattle.std.specs.List.{flat_map}
use Rattle.std.specs.Option.{option_map}
use Rattle.just_text.specs.Tokens.{lexeme}
use Rattle.just_text.specs.declared.name.Name.{Name}
use Rattle.tree_expressions.specs.declared.expression.Expression.{Expression}
use Rattle.tree_items.specs.declared.item.Alias.{Alias}
use Rattle.tree_items.specs.declared.item.Binding.{Binding}
use Rattle.tree_items.specs.declared.item.FunctionDefinition.{FunctionDefinition}
use Rattle.tree_items.specs.declared.item.Import.{Import}
use Rattle.tree_items.specs.declared.item.Module.{Module}
use Rattle.tree_items.specs.declared.item.Unexport.{Unexport}
use Rattle.tree_expressions.specs.Shape.{Shape, shape_of, written}
use Rattle.tree_expressions.specs.Printing.{text_of}
use Rattle.tree_attributes.specs.Settings.{SetShape, value_shape}
use Rattle.tree_items.specs.declared.set.Set.{Set}
use Rattle.tree_items.specs.Paths.{path_names}
use Rattle.just_text.specs.Names.{joined_names}

-- an alias: its name and the names of its target's path
pub record AliasShape : Type 0 where
  pub name : List ℕ
  pub target : List (List ℕ)

abbrev pub alias_shape : Alias (List Name) → AliasShape
alias_shape a = record { name = lexeme a.name.token; target = path_names a.target }

-- an alias whose recipe is known: the recipe's own name in place of its path
abbrev pub recipe_alias_shape : Alias Name → AliasShape
recipe_alias_shape a = record { name = lexeme a.name.token; target = lexeme a.target.token ∷ [] }

abbrev pub alias_text : AliasShape → List ℕ
alias_text a = codes "alias " ++ a.name ++ codes " := " ++ joined_names a.target

-- an assignment: its words, whatever their order, its name and its expression
pub record AssignmentShape : Type 0 where
  pub export : Bool
  pub eager : Bool
  pub name : List ℕ
  pub value : Shape

abbrev pub assignment_shape : Binding Expression → AssignmentShape
assignment_shape a = record { export = a.export; eager = a.eager; name = lexeme a.name.token; value = shape_of a.value }

abbrev pub assignment_text : AssignmentShape → List ℕ
assignment_text a = (if a.export then codes "export " else codes "") ++ (if a.eager then codes "eager " else codes "") ++ a.name ++ codes " := " ++ text_of a.value

-- a function: its name, its parameters' names and its body
pub record FunctionShape : Type 0 where
  pub name : List ℕ
  pub parameters : List (List ℕ)
  pub body : Shape

abbrev pub name_of : {N : Type 0} → Name × N → List ℕ
name_of parameter = lexeme parameter.0.token

abbrev pub names_of : {N : Type 0} → List (Name × N) → List (List ℕ)
names_of parameters = map name_of parameters

abbrev pub comma_row : List ℕ → List ℕ
comma_row name = codes ", " ++ name

-- the names after the first one
abbrev pub more_names : List (List ℕ) → List ℕ
more_names names = flat_map comma_row names

-- names with a comma and a space between two
abbrev pub names_text : List (List ℕ) → List ℕ
names_text [] = []
names_text (name ∷ names) = name ++ more_names names

abbrev pub function_shape : FunctionDefinition → FunctionShape
function_shape f = record { name = lexeme f.name.token; parameters = names_of f.parameters.items; body = shape_of f.body }

abbrev pub function_text : FunctionShape → List ℕ
function_text f = f.name ++ codes "(" ++ names_text f.parameters ++ codes ") := " ++ text_of f.body

-- an import: its path as it is written
pub record ImportShape : Type 0 where
  pub optional : Bool
  pub path : List ℕ

abbrev pub import_shape : Import → ImportShape
import_shape i = record { optional = i.optional; path = written i.path }

-- `?` where the file may be missing
abbrev pub question_mark : Bool → List ℕ
question_mark optional = if optional then codes "?" else codes ""

abbrev pub import_text : ImportShape → List ℕ
import_text i = codes "import" ++ question_mark i.optional ++ codes " " ++ i.path

-- a submodule: its name, and its file as it is written
pub record ModuleShape : Type 0 where
  pub optional : Bool
  pub name : List ℕ
  pub path : Option (List ℕ)

abbrev pub module_shape : Module → ModuleShape
module_shape m = record { optional = m.optional; name = lexeme m.name.token; path = option_map written m.path }

-- a path after a space
abbrev pub behind_space : Option (List ℕ) → List ℕ
behind_space None = []
behind_space (Some path) = codes " " ++ path

abbrev pub module_text : ModuleShape → List ℕ
module_text m = codes "mod" ++ question_mark m.optional ++ codes " " ++ m.name ++ behind_space m.path

-- a setting: its name and its value
abbrev pub set_shape : Set → SetShape
set_shape s = record { name = lexeme s.name.token; value = value_shape s.value }

-- a name that is not exported
abbrev pub unexport_shape : Unexport → List ℕ
unexport_shape u = lexeme u.name.token

abbrev pub unexport_text : List ℕ → List ℕ
unexport_text name = codes "unexport " ++ name
