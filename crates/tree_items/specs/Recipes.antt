-- Recipes: what they say, and how they are printed.
use Rattle.std.specs.Prelude.{ℕ, Bool, true, false, if◌then◌else◌, List, [], ◌∷◌, ◌++◌, map, Option, Some, None, codes}
use Rattle.std.specs.List.{flat_map}
use Rattle.std.specs.Option.{option_map}
use Rattle.just_text.specs.Tokens.{lexeme}
use Rattle.tree_items.specs.declared.line.Line.{Line}
use Rattle.tree_items.specs.declared.recipe.ParameterKind.{ParameterKind}
use Rattle.tree_items.specs.declared.recipe.ParameterKind.TheVariants.{Plus, Singular, Star}
use Rattle.tree_items.specs.declared.recipe.Parameter.{Parameter}
use Rattle.tree_items.specs.declared.recipe.DependencyArgument.{DependencyArgument}
use Rattle.tree_items.specs.declared.recipe.UnresolvedDependency.{UnresolvedDependency}
use Rattle.tree_items.specs.declared.recipe.Recipe.{Recipe}
use Rattle.tree_expressions.specs.Shape.{Shape, shape_of}
use Rattle.tree_expressions.specs.Printing.{text_of}
use Rattle.tree_items.specs.Lines.{Piece, pieces_of, line_text}
use Rattle.tree_items.specs.Paths.{path_names}
use Rattle.just_text.specs.Names.{joined_names}

-- a parameter takes all values that remain
abbrev pub is_variadic : ParameterKind → Bool
is_variadic Plus = true
is_variadic Singular = false
is_variadic Star = true

abbrev pub kind_mark : ParameterKind → List ℕ
kind_mark Plus = codes "+"
kind_mark Singular = codes ""
kind_mark Star = codes "*"

-- a parameter as it is written
pub record ParameterShape : Type 0 where
  pub kind : ParameterKind
  pub export : Bool
  pub name : List ℕ
  pub default : Option Shape

abbrev pub parameter_shape : Parameter → ParameterShape
parameter_shape p = record { kind = p.kind; export = p.export; name = lexeme p.name.token; default = option_map shape_of p.default }

abbrev pub parameter_shapes : List Parameter → List ParameterShape
parameter_shapes = map parameter_shape

-- a default after `=`
abbrev pub default_text : Option Shape → List ℕ
default_text None = []
default_text (Some e) = codes "=" ++ text_of e

abbrev pub parameter_text : ParameterShape → List ℕ
parameter_text p = kind_mark p.kind ++ (if p.export then codes "$" else codes "") ++ p.name ++ default_text p.default

abbrev pub parameter_row : ParameterShape → List ℕ
parameter_row p = codes " " ++ parameter_text p

-- parameters, each after a space
abbrev pub parameters_text : List ParameterShape → List ℕ
parameters_text = flat_map parameter_row

-- a name and parameters
abbrev pub signature_text : List ℕ → List ParameterShape → List ℕ
signature_text name parameters = name ++ parameters_text parameters

-- an argument of a dependency
pub record ArgumentShape : Type 0 where
  pub expression : Shape
  pub starred : Bool

abbrev pub argument_shape : DependencyArgument → ArgumentShape
argument_shape a = record { expression = shape_of a.expression; starred = a.starred }

abbrev pub argument_shapes : List DependencyArgument → List ArgumentShape
argument_shapes = map argument_shape

abbrev pub argument_text : ArgumentShape → List ℕ
argument_text a = (if a.starred then codes "*" else codes "") ++ text_of a.expression

abbrev pub argument_row : ArgumentShape → List ℕ
argument_row a = codes " " ++ argument_text a

-- arguments, each after a space
abbrev pub arguments_text : List ArgumentShape → List ℕ
arguments_text = flat_map argument_row

-- a dependency: the names of its path, and its arguments
pub record DependencyShape : Type 0 where
  pub path : List (List ℕ)
  pub arguments : List ArgumentShape

abbrev pub dependency_shape : UnresolvedDependency → DependencyShape
dependency_shape d = record { path = path_names d.recipe; arguments = argument_shapes d.arguments.items }

abbrev pub dependency_shapes : List UnresolvedDependency → List DependencyShape
dependency_shapes = map dependency_shape

-- the path of a dependency, and its arguments in parentheses if there are any
abbrev pub called_text : List ℕ → List ArgumentShape → List ℕ
called_text path [] = path
called_text path (a ∷ as') = codes "(" ++ path ++ arguments_text (a ∷ as') ++ codes ")"

abbrev pub dependency_text : DependencyShape → List ℕ
dependency_text d = called_text (joined_names d.path) d.arguments

abbrev pub dependency_row : DependencyShape → List ℕ
dependency_row d = codes " " ++ dependency_text d

-- dependencies, each after a space
abbrev pub dependencies_text : List DependencyShape → List ℕ
dependencies_text = flat_map dependency_row

-- those after the body, after ` &&` if there are any
abbrev pub subsequents_text : List DependencyShape → List ℕ
subsequents_text [] = []
subsequents_text (d ∷ ds) = codes " &&" ++ dependencies_text (d ∷ ds)

-- a line after the indentation; a blank line is empty
abbrev pub indented : List ℕ → List Piece → List ℕ
indented indentation [] = []
indented indentation (p ∷ ps) = indentation ++ line_text (p ∷ ps)

abbrev pub body_shape : List Line → List (List Piece)
body_shape = map pieces_of

abbrev pub body_row : List ℕ → List Piece → List ℕ
body_row indentation line = codes "\n" ++ indented indentation line

-- a body, each line after a newline
abbrev pub body_text : List ℕ → List (List Piece) → List ℕ
body_text indentation lines = flat_map (body_row indentation) lines

-- a recipe, without its attributes
pub record RecipeShape : Type 0 where
  pub quiet : Bool
  pub name : List ℕ
  pub parameters : List ParameterShape
  pub priors : List DependencyShape
  pub subsequents : List DependencyShape
  pub body : List (List Piece)

abbrev pub recipe_shape : Recipe UnresolvedDependency → RecipeShape
recipe_shape r = record {
  quiet = r.quiet;
  name = lexeme r.name.token;
  parameters = parameter_shapes r.parameters.items;
  priors = dependency_shapes r.priors.items;
  subsequents = dependency_shapes r.subsequents.items;
  body = body_shape r.body.items;
}

-- a recipe's first line
abbrev pub header_text : RecipeShape → List ℕ
header_text r = (if r.quiet then codes "@" else codes "") ++ r.name ++ parameters_text r.parameters ++ codes ":" ++ dependencies_text r.priors ++ subsequents_text r.subsequents

-- a recipe at an indentation
abbrev pub recipe_text : List ℕ → RecipeShape → List ℕ
recipe_text indentation r = header_text r ++ body_text indentation r.body
