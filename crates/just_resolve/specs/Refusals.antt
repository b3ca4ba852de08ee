-- The printed texts of refusals, and where they stand.
use Rattle.std.specs.Prelude.{ℕ, List, [], ◌∷◌, ◌++◌, codes, map, Option, Some, None}
use Rattle.std.specs.Fmt.{decimal}
use Rattle.just_text.specs.Fields.{fields_behind}
use Rattle.just_text.specs.Names.{path_text}
use Rattle.just_text.specs.Tokens.{lexeme}
use Rattle.just_text.specs.declared.name.Name.{Name}
use Rattle.just_text.specs.declared.token.Token.{Token}
use Rattle.just_value.specs.Faults.{const_eval_place}
use Rattle.modules_compilation.specs.Refusals.{refusal_place as compile_place, refusal_text as compile_text}
use Rattle.evaluate_context.specs.Errors.{error_text}
use Rattle.evaluate_context.specs.declared.error.Error as evaluations
use Rattle.evaluate_context.specs.declared.error.Error.TheVariants as evaluation
use Rattle.just_resolve.specs.declared.error.Error.{Error}
use Rattle.just_resolve.specs.declared.error.Error.TheVariants.{OutOfMemory, Compile, CircularVariable, CircularRecipe, ConstEval, DependencyArgumentCount, FunctionArgumentCount, ModuleAsRecipe, UndefinedVariable, UnknownDependency, UnknownFunction, UnknownOverride}

-- the name of a refusal; that of files and modules and that of a constant have none of their own
abbrev pub refusal_name : Error → List ℕ
refusal_name OutOfMemory = codes "out of memory"
refusal_name (Compile _) = []
refusal_name (CircularVariable _) = codes "circular variable"
refusal_name (CircularRecipe _) = codes "circular recipe"
refusal_name (ConstEval _) = []
refusal_name (DependencyArgumentCount _ _ _) = codes "dependency argument count"
refusal_name (FunctionArgumentCount _ _) = codes "function argument count"
refusal_name (ModuleAsRecipe _) = codes "module as recipe"
refusal_name (UndefinedVariable _) = codes "undefined variable"
refusal_name (UnknownDependency _ _) = codes "unknown dependency"
refusal_name (UnknownFunction _) = codes "unknown function"
refusal_name (UnknownOverride _) = codes "unknown override"

abbrev pub name_text : Name → List ℕ
name_text name = lexeme name.token

-- what a refusal names, in order
abbrev pub refusal_fields : Error → List (List ℕ)
refusal_fields OutOfMemory = []
refusal_fields (Compile _) = []
refusal_fields (CircularVariable names) = map name_text names
refusal_fields (CircularRecipe names) = map name_text names
refusal_fields (ConstEval _) = []
refusal_fields (DependencyArgumentCount recipe dependency found) = name_text recipe ∷ path_text dependency ∷ decimal found ∷ []
refusal_fields (FunctionArgumentCount name found) = name_text name ∷ decimal found ∷ []
refusal_fields (ModuleAsRecipe path) = path_text path ∷ []
refusal_fields (UndefinedVariable name) = name_text name ∷ []
refusal_fields (UnknownDependency recipe dependency) = name_text recipe ∷ path_text dependency ∷ []
refusal_fields (UnknownFunction name) = name_text name ∷ []
refusal_fields (UnknownOverride name) = name ∷ []

-- the text after the name: what is named, or the other refusal
abbrev pub behind_name : Error → List ℕ
behind_name (Compile refusal) = compile_text refusal
behind_name (ConstEval refusal) = error_text refusal
behind_name refusal = fields_behind (refusal_fields refusal)

-- the whole text
abbrev pub refusal_text : Error → List ℕ
refusal_text refusal = refusal_name refusal ++ behind_name refusal

-- the token of the first name
abbrev pub first_of : List Name → Option Token
first_of [] = None
first_of (name ∷ names) = Some name.token

-- where a constant is refused
abbrev pub const_place : evaluations.Error → Option Token
const_place (evaluation.Const error) = Some (const_eval_place error)
const_place _ = None

-- the token at whose beginning a refusal stands, if it has a place
abbrev pub refusal_place : Error → Option Token
refusal_place OutOfMemory = None
refusal_place (Compile refusal) = compile_place refusal
refusal_place (CircularVariable names) = first_of names
refusal_place (CircularRecipe names) = first_of names
refusal_place (ConstEval refusal) = const_place refusal
refusal_place (DependencyArgumentCount _ dependency _) = first_of dependency
refusal_place (FunctionArgumentCount name _) = Some name.token
refusal_place (ModuleAsRecipe _) = None
refusal_place (UndefinedVariable name) = Some name.token
refusal_place (UnknownDependency _ dependency) = first_of dependency
refusal_place (UnknownFunction name) = Some name.token
refusal_place (UnknownOverride _) = None
