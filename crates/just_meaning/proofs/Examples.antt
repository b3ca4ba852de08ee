-- Small justfiles, and the commands that their naive runs hand over, as the definitions compute them. (tests/scripted/runs has the same files with what is handed over when they are driven.)
use Rattle.std.proofs.Common.{refl}
use Rattle.std.specs.Prelude.{◌≡◌, ℕ, List, [], ◌∷◌, ◌++◌, true, false, cond, map, Option, Some, None, Ok, codes}
use Rattle.std.specs.Str.{bytes_eq}
use Rattle.just_text.specs.declared.os.Os.TheVariants.{Linux}
use Rattle.tree_expressions.specs.Cooking.{cooked}
use Rattle.tree_expressions.specs.Kinds.{kind_of}
use Rattle.tree_expressions.specs.Operators.{concatenation}
use Rattle.tree_expressions.specs.Parts.{halved_behind}
use Rattle.tree_expressions.specs.Shape.{Shape, literal, command, variable, call, choice, listing, binary, end, more}
use Rattle.tree_expressions.specs.Operators.{comparison}
use Rattle.tree_expressions.specs.declared.operator.ConditionalOperator.TheVariants.{Equality}
use Rattle.just_host.specs.declared.entry.Entry.{Entry}
use Rattle.just_host.specs.declared.entry.Entry.TheVariants.{Line}
use Rattle.just_host.specs.declared.host.Status.TheVariants.{Code}
use Rattle.tree_items.specs.Lines.{Piece, text, interpolation, read_sigils}
use Rattle.tree_items.specs.Recipes.{ArgumentShape}
use Rattle.tree_items.specs.declared.recipe.ParameterKind.{ParameterKind}
use Rattle.tree_items.specs.declared.recipe.ParameterKind.TheVariants.{Singular, Star}
use Rattle.evaluate_functions.specs.Names.{function_names}
use Rattle.meaning_dialogues.specs.Faults.{function_failed}
use Rattle.meaning_runs.specs.Failures.{Failure, by_code, evaluation}
use Rattle.meaning_runs.specs.Told.{Answers}
use Rattle.meaning_runs.specs.Naive.{End, went, failed, tree}
use Rattle.meaning_evaluation.specs.Named.{Call, ParameterRow, DependencyRow, RecipeRow, VariableRow, FunctionRow, ModuleRow, no_module, Definitions}
use Rattle.meaning_evaluation.specs.Scopes.{Configuration}
use Rattle.just_meaning.specs.Meanings.{naive_run}

-- ---- justfiles

abbrev configuration : Configuration
configuration = record {
  arch = [];
  base = codes "/w";
  working_directory = codes "/w";
  invocation_directory = codes "/w";
  dry_run = false;
  yes = false;
  no_dependencies = false;
  quiet = true;
  loquacious = false;
  jobs = None;
  shell = None;
  shell_args = None;
  limit = 4;
  os = Linux;
  version = codes "1.58.0";
  root = codes "justfile";
  expansion = λ text. Ok text;
}

-- `false` ends with code 1, all other commands with 0; no question has an answer
abbrev answers : Answers
answers = record {
  variable = λ question. None;
  recipe = λ question. None;
  dotenv = λ request. None;
  line = λ job. Some (Code (cond (bytes_eq job.command (codes "false")) 1 0));
  script = λ job. None;
  confirm = λ prompt. None;
}

abbrev row_named : {A : Type 0} → List ℕ → List (List ℕ × A) → Option A
row_named name [] = None
row_named name ((other, row) ∷ rows) = cond (bytes_eq other name) (Some row) (row_named name rows)

abbrev settings : ModuleRow
settings = record {
  source = codes "justfile";
  folder = codes "/w";
  unexports = [];
  shell = None;
  script_interpreter = None;
  guards = false;
  ignore_comments = false;
  quiet = false;
  no_cd = false;
  default_script = false;
  lists = false;
  export = false;
  lazy = false;
  shares = false;
  default_list = false;
  request = None;
}

abbrev justfile : ModuleRow → List (List ℕ × Shape) → List FunctionRow → List (List ℕ × List ℕ) → List (List ℕ × RecipeRow) → Definitions
justfile row variables functions overrides recipes = record {
  modules = no_module;
  recipe = λ r. row_named r.recipe recipes;
  alias = λ r. None;
  default = λ path. None;
  names = λ path. map (λ entry. entry.0) variables;
  variable = λ x. row_named x.name (map (λ entry. let v : VariableRow = record { file = codes "justfile"; value = entry.1; export = false; eager = false; private = false } in (entry.0, v)) variables);
  override = λ x. row_named x.name overrides;
  functions = λ path. functions;
  inside = λ path. Some row;
}

abbrev parameter : ParameterKind → Option Shape → List ℕ → ParameterRow
parameter kind default name = record { name = name; kind = kind; export = false; default = default; long = None; short = None; flag = false; multiple = false; value = None; min = None; max = None }

abbrev recipe_of : List ParameterRow → List DependencyRow → List DependencyRow → List (List Piece) → RecipeRow
recipe_of parameters priors subsequents body = record {
  file = codes "justfile";
  parameters = parameters;
  env = [];
  confirm = None;
  priors = priors;
  subsequents = subsequents;
  body = body;
  quiet = false;
  script = None;
  extension = None;
  folder = None;
  no_cd = false;
  no_quiet = false;
  passes_words = false;
}

-- a dependency with these arguments, none of them starred
abbrev on : List ℕ → List Shape → DependencyRow
on name arguments = record { on = record { path = []; recipe = name }; arguments = map (λ e. let a : ArgumentShape = record { expression = e; starred = false } in a) arguments }

abbrev on_each : List ℕ → Shape → DependencyRow
on_each name argument = record { on = record { path = []; recipe = name }; arguments = record { expression = argument; starred = true } ∷ [] }

-- `TEXT`, and `echo {{..}}`
abbrev says : List ℕ → List Piece
says line = text line ∷ []

abbrev echoes : Shape → List Piece
echoes e = text (codes "echo ") ∷ interpolation e ∷ []

abbrev name_of : List ℕ → Shape
name_of name = variable name

abbrev quoted : List ℕ → Shape
quoted characters = literal (codes "'" ++ (characters ++ codes "'"))

-- `b v:` with the line `echo {{v}}`
abbrev echo_recipe : List ParameterRow → RecipeRow
echo_recipe parameters = recipe_of parameters [] [] (echoes (name_of (codes "v")) ∷ [])

abbrev call_named : List ℕ → Call
call_named name = record { recipe = record { path = []; recipe = name }; groups = [] }

-- ---- what is handed over

abbrev commands_in : List Entry → List (List ℕ)
commands_in [] = []
commands_in (Line job status ∷ entries) = job.command ∷ commands_in entries
commands_in (entry ∷ entries) = commands_in entries

-- the commands, and how the run ends
abbrev naive_of : Definitions → List (List ℕ) → List (List ℕ) × End (Unit {0}) Failure
naive_of defined names = let part = naive_run configuration defined answers 4 (map call_named names) in (commands_in part.events, part.end)

abbrev handed : List (List ℕ) → List (List ℕ) × End (Unit {0}) Failure
handed commands = (commands, went tt)

-- ---- examples

-- dependencies come first, each once
pub dependencies_first :
    naive_of (justfile settings [] [] []
    ((codes "a", recipe_of [] (on (codes "b") [] ∷ on (codes "c") [] ∷ []) [] (says (codes "echo a") ∷ []))
    ∷ (codes "b", recipe_of [] (on (codes "c") [] ∷ []) [] (says (codes "echo b") ∷ []))
    ∷ (codes "c", recipe_of [] [] [] (says (codes "echo c") ∷ [])) ∷ [])) (codes "a" ∷ [])
    ≡ handed (codes "echo c" ∷ codes "echo b" ∷ codes "echo a" ∷ [])
unfolding tree read_sigils halved_behind
dependencies_first = refl

-- a subsequent runs again
pub subsequents_again :
    naive_of (justfile settings [] [] []
    ((codes "a", recipe_of [] (on (codes "b") [] ∷ []) (on (codes "b") [] ∷ []) (says (codes "echo a") ∷ []))
    ∷ (codes "b", recipe_of [] [] [] (says (codes "echo b") ∷ [])) ∷ [])) (codes "a" ∷ [])
    ≡ handed (codes "echo b" ∷ codes "echo a" ∷ codes "echo b" ∷ [])
unfolding tree read_sigils halved_behind
subsequents_again = refl

-- but not where subsequents share what is done
pub subsequents_share :
    naive_of (justfile (record settings { shares = true }) [] [] []
    ((codes "a", recipe_of [] (on (codes "b") [] ∷ []) (on (codes "b") [] ∷ []) (says (codes "echo a") ∷ []))
    ∷ (codes "b", recipe_of [] [] [] (says (codes "echo b") ∷ [])) ∷ [])) (codes "a" ∷ [])
    ≡ handed (codes "echo b" ∷ codes "echo a" ∷ [])
unfolding tree read_sigils halved_behind
subsequents_share = refl

-- and then one that two recipes name runs once for all words
pub subsequents_share_between_words :
    naive_of (justfile (record settings { shares = true }) [] [] []
    ((codes "a", recipe_of [] [] (on (codes "c") [] ∷ []) (says (codes "echo a") ∷ []))
    ∷ (codes "b", recipe_of [] [] (on (codes "c") [] ∷ []) (says (codes "echo b") ∷ []))
    ∷ (codes "c", recipe_of [] [] [] (says (codes "echo c") ∷ [])) ∷ [])) (codes "a" ∷ codes "b" ∷ [])
    ≡ handed (codes "echo a" ∷ codes "echo c" ∷ codes "echo b" ∷ [])
unfolding tree read_sigils halved_behind
subsequents_share_between_words = refl

-- calls are told apart by the values of their arguments, whatever these are written as
abbrev with_values : List (List ℕ × List ℕ) → Definitions
with_values overrides = justfile settings ((codes "x", quoted (codes "one")) ∷ []) [] overrides
    ((codes "a", recipe_of [] (on (codes "b") (name_of (codes "x") ∷ []) ∷ on (codes "b") (quoted (codes "one") ∷ []) ∷ on (codes "b") (quoted (codes "two") ∷ []) ∷ []) [] [])
    ∷ (codes "b", echo_recipe (parameter Singular None (codes "v") ∷ [])) ∷ [])

pub calls_by_values : naive_of (with_values []) (codes "a" ∷ []) ≡ handed (codes "echo one" ∷ codes "echo two" ∷ [])
unfolding tree read_sigils halved_behind cooked kind_of
calls_by_values = refl

pub calls_by_overridden_values : naive_of (with_values ((codes "x", codes "two") ∷ [])) (codes "a" ∷ []) ≡ handed (codes "echo two" ∷ codes "echo one" ∷ [])
unfolding tree read_sigils halved_behind cooked kind_of
calls_by_overridden_values = refl

-- a default that is left out, and the same value written out, are two calls
pub default_left_out :
    naive_of (justfile settings [] [] []
    ((codes "a", recipe_of [] (on (codes "b") [] ∷ on (codes "b") (quoted (codes "z") ∷ []) ∷ []) [] (says (codes "echo a") ∷ []))
    ∷ (codes "b", echo_recipe (parameter Singular (Some (quoted (codes "z"))) (codes "v") ∷ [])) ∷ [])) (codes "a" ∷ [])
    ≡ handed (codes "echo z" ∷ codes "echo z" ∷ codes "echo a" ∷ [])
unfolding tree read_sigils halved_behind cooked kind_of
default_left_out = refl

-- so are one text with a space in it and two texts
pub lists_are_no_joins :
    naive_of (justfile (record settings { lists = true })
    ((codes "x", listing (more (quoted (codes "a b")) end)) ∷ (codes "y", listing (more (quoted (codes "a")) (more (quoted (codes "b")) end))) ∷ []) [] []
    ((codes "a", recipe_of [] (on (codes "b") (name_of (codes "x") ∷ []) ∷ on (codes "b") (name_of (codes "y") ∷ []) ∷ []) [] [])
    ∷ (codes "b", echo_recipe (parameter Star None (codes "v") ∷ [])) ∷ [])) (codes "a" ∷ [])
    ≡ handed (codes "echo a b" ∷ codes "echo a b" ∷ [])
unfolding tree read_sigils halved_behind cooked kind_of
lists_are_no_joins = refl

-- a starred argument without an element calls nothing
pub starred_empty :
    naive_of (justfile (record settings { lists = true }) ((codes "xs", listing end) ∷ []) [] []
    ((codes "a", recipe_of [] (on_each (codes "b") (name_of (codes "xs")) ∷ []) [] (says (codes "echo a") ∷ []))
    ∷ (codes "b", echo_recipe (parameter Singular None (codes "v") ∷ [])) ∷ [])) (codes "a" ∷ [])
    ≡ handed (codes "echo a" ∷ [])
unfolding tree read_sigils halved_behind
starred_empty = refl

-- a variable is unfolded where it is read
pub variables_unfold :
    naive_of (justfile settings ((codes "x", binary concatenation (name_of (codes "y")) (quoted (codes "b"))) ∷ (codes "y", quoted (codes "a")) ∷ []) [] []
    ((codes "a", recipe_of [] [] [] (echoes (name_of (codes "x")) ∷ [])) ∷ [])) (codes "a" ∷ [])
    ≡ handed (codes "echo ab" ∷ [])
unfolding tree read_sigils halved_behind cooked kind_of
variables_unfold = refl

-- what a condition leaves out is not asked
pub unasked_side :
    naive_of (justfile settings ((codes "x", choice (binary (comparison Equality) (quoted (codes "a")) (quoted (codes "a"))) (quoted (codes "yes")) (command (codes "`boom`"))) ∷ []) [] []
    ((codes "a", recipe_of [] [] [] (echoes (name_of (codes "x")) ∷ [])) ∷ [])) (codes "a" ∷ [])
    ≡ handed (codes "echo yes" ∷ [])
unfolding tree read_sigils halved_behind cooked kind_of
unasked_side = refl

-- the body of a function knows the recipe that calls it
pub function_knows_recipe :
    naive_of (justfile settings [] (record { file = codes "justfile"; name = codes "f"; parameters = []; body = call (codes "recipe_name") end } ∷ []) []
    ((codes "a", recipe_of [] [] [] (echoes (call (codes "f") end) ∷ [])) ∷ [])) (codes "a" ∷ [])
    ≡ handed (codes "echo a" ∷ [])
unfolding tree read_sigils halved_behind function_names
function_knows_recipe = refl

-- a guard ends the body with success, and the subsequents run
pub guard_ends_body :
    naive_of (justfile (record settings { guards = true }) [] [] []
    ((codes "a", recipe_of [] [] (on (codes "c") [] ∷ []) (says (codes "?false") ∷ says (codes "echo a") ∷ []))
    ∷ (codes "c", recipe_of [] [] [] (says (codes "echo c") ∷ [])) ∷ [])) (codes "a" ∷ [])
    ≡ handed (codes "false" ∷ codes "echo c" ∷ [])
unfolding tree read_sigils halved_behind
guard_ends_body = refl

-- the first failure ends the run
pub failure_ends_run :
    naive_of (justfile settings [] [] []
    ((codes "a", recipe_of [] (on (codes "b") [] ∷ []) [] (says (codes "echo a") ∷ []))
    ∷ (codes "b", recipe_of [] [] [] (says (codes "false") ∷ says (codes "echo b") ∷ [])) ∷ [])) (codes "a" ∷ [])
    ≡ (codes "false" ∷ [], failed (by_code (codes "b") 1))
unfolding tree read_sigils halved_behind
failure_ends_run = refl

-- a recipe runs once for its words, with the flag that it has where it stands first
pub dependency_flag :
    naive_of (justfile settings [] [] []
    ((codes "a", recipe_of [] (on (codes "b") [] ∷ []) [] (echoes (call (codes "is_dependency") end) ∷ []))
    ∷ (codes "b", recipe_of [] [] [] (echoes (call (codes "is_dependency") end) ∷ [])) ∷ [])) (codes "a" ∷ codes "b" ∷ [])
    ≡ handed (codes "echo true" ∷ codes "echo false" ∷ [])
unfolding tree read_sigils halved_behind function_names
dependency_flag = refl

-- an argument is evaluated for the recipe that names it
pub argument_flag :
    naive_of (justfile settings [] [] []
    ((codes "a", recipe_of [] (on (codes "b") (call (codes "is_dependency") end ∷ []) ∷ []) [] (says (codes "echo a") ∷ []))
    ∷ (codes "b", echo_recipe (parameter Singular None (codes "v") ∷ [])) ∷ [])) (codes "a" ∷ [])
    ≡ handed (codes "echo false" ∷ codes "echo a" ∷ [])
unfolding tree read_sigils halved_behind function_names
argument_flag = refl

-- all arguments of a block come before its first call
pub arguments_first :
    naive_of (justfile settings [] [] []
    ((codes "a", recipe_of [] (on (codes "b") (quoted (codes "x") ∷ []) ∷ on (codes "b") (call (codes "error") (more (quoted (codes "no")) end) ∷ []) ∷ []) [] (says (codes "echo a") ∷ []))
    ∷ (codes "b", echo_recipe (parameter Singular None (codes "v") ∷ [])) ∷ [])) (codes "a" ∷ [])
    ≡ ([], failed (evaluation (function_failed (codes "error") (codes "no"))))
unfolding tree read_sigils halved_behind cooked kind_of function_names
arguments_first = refl
