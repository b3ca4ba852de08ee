-- A small justfile: a variable that a command gives, and a recipe with one line.
use Rattle.std.specs.Prelude.{List, [], ◌∷◌, true, false, cond, Option, Some, None, Ok, codes}
use Rattle.std.specs.Str.{bytes_eq}
use Rattle.just_text.specs.declared.os.Os.TheVariants.{Linux}
use Rattle.just_host.specs.declared.host.Answer.{Answer}
use Rattle.just_host.specs.declared.host.Answer.TheVariants as answer
use Rattle.just_host.specs.declared.host.HostFault.TheVariants as fault
use Rattle.just_host.specs.declared.host.Question.{Question}
use Rattle.just_host.specs.declared.host.Question.TheVariants.{Environment}
use Rattle.just_host.specs.declared.host.Status.TheVariants.{Code}
use Rattle.tree_expressions.specs.Shape.{command}
use Rattle.tree_items.specs.Files.{ItemShape, assignment_item, recipe_item}
use Rattle.tree_items.specs.Items.{AssignmentShape}
use Rattle.tree_items.specs.Lines.{text}
use Rattle.tree_items.specs.Recipes.{RecipeShape}
use Rattle.meaning_dialogues.specs.Dialogue.{Dialogue, Ends, Asks, Reads}
use Rattle.meaning_dialogues.specs.Written.{term_in, unnumbered}
use Rattle.meaning_rules.specs.Worlds.Given.{Text, World}
use Rattle.meaning_runs.specs.Told.{Answers}
use Rattle.meaning_evaluation.specs.Named.{Call, Definitions, ModuleRow, RecipeName, RecipeRow, VariableRow, no_module}
use Rattle.meaning_evaluation.specs.Scopes.{Configuration}
use Rattle.just_meaning.specs.Defining.{named_from}
use Rattle.just_meaning.specs.Opening.{evaluates, scene_in, side_dialogue}
use Rattle.just_meaning.specs.Rows.{module_row, recipe_row}

abbrev pub root : Text
root = codes "justfile"

-- v := `x`
abbrev pub assignment : AssignmentShape
assignment = record { export = false; eager = false; name = codes "v"; value = command (codes "`x`") }

-- a:
--   echo a
abbrev pub recipe : RecipeShape
recipe = record { quiet = false; name = codes "a"; parameters = []; priors = []; subsequents = []; body = (text (codes "echo a") ∷ []) ∷ [] }

abbrev pub items : List ItemShape
items = assignment_item [] assignment ∷ recipe_item [] recipe ∷ []

abbrev pub world : World
world = record {
  os = Linux;
  unstable = false;
  expansion = λ text. Ok text;
  root = root;
  there = λ key. bytes_eq key root;
  said = λ key. cond (bytes_eq key root) (Some items) None;
  refused = λ key kind. false;
}

abbrev pub configuration : Configuration
configuration = record {
  arch = [];
  base = codes "/w";
  working_directory = codes "/w";
  invocation_directory = codes "/w";
  dry_run = false;
  yes = false;
  no_dependencies = false;
  quiet = true;
  loquacious = false;
  jobs = None;
  shell = None;
  shell_args = None;
  limit = 4;
  os = Linux;
  version = codes "1.58.0";
  root = root;
  expansion = λ text. Ok text;
}

-- ---- what is defined

abbrev pub of_root : {X : Type 0} → List Text → Option X → Option X
of_root [] x = x
of_root (name ∷ names) x = None

abbrev pub names_in : List Text → List Text
names_in [] = codes "v" ∷ []
names_in (name ∷ names) = []

abbrev pub variable : VariableRow
variable = record { file = root; value = command (codes "`x`"); export = false; eager = false; private = false }

abbrev pub row : RecipeRow
row = recipe_row (λ text. Ok text) root false (λ dependency. named_from [] dependency.path) [] recipe

abbrev pub settings : ModuleRow
settings = module_row (λ e. []) (codes "/w") (codes "/w") true root [] []

abbrev pub a : RecipeName
a = record { path = []; recipe = codes "a" }

abbrev pub defined : Definitions
defined = record {
  modules = no_module;
  recipe = λ r. of_root r.path (cond (bytes_eq r.recipe (codes "a")) (Some row) None);
  alias = λ r. None;
  default = λ path. of_root path (Some a);
  names = names_in;
  variable = λ x. of_root x.path (cond (bytes_eq x.name (codes "v")) (Some variable) None);
  override = λ x. None;
  functions = λ path. [];
  inside = λ path. of_root path (Some settings);
}

abbrev pub call : Call
call = record { recipe = a; groups = [] }

-- ---- answers

-- each question of a variable has this answer, and each command ends with code 0
abbrev pub answers : Answer → Answers
answers given = record {
  variable = λ question. Some given;
  recipe = λ question. None;
  dotenv = λ request. None;
  line = λ job. Some (Code 0);
  script = λ job. None;
  confirm = λ prompt. None;
}

abbrev pub told : Answer
told = answer.Text (codes "y")

abbrev pub failed : Answer
failed = answer.Fault (fault.Code 1)

-- ---- what is asked

abbrev pub first_question : {A : Type 0} → Dialogue A → Question
first_question (Asks question next) = question
first_question (Ends end) = Environment []
first_question (Reads place x next) = Environment []

abbrev pub question : Question
question = first_question (side_dialogue configuration (scene_in configuration defined [] settings [] []) (evaluates (term_in (λ text. Ok text) root unnumbered (command (codes "`x`")))))

-- ---- a second input

-- what is defined, with one more recipe, `z`, which nothing reaches
abbrev pub other : Definitions
other = record defined { recipe = λ r. of_root r.path (cond (bytes_eq r.recipe (codes "a")) (Some row) (cond (bytes_eq r.recipe (codes "z")) (Some row) None)) }
