-- What a module and the configuration give to its recipes, and what recipes' expressions see.
use Rattle.std.specs.Prelude.{ℕ, suc, Bool, true, false, not, ◌&&◌, ◌||◌, List, [], ◌∷◌, ◌++◌, map, Option, Some, None, slice_get}
use Rattle.std.proofs.Common.{nat_lt}
use Rattle.std.specs.Option.{option_map}
use Rattle.just_text.specs.declared.os.Os.{Os}
use Rattle.just_text.specs.Names.{joined_names}
use Rattle.evaluate_context.specs.Shells.{shell_words}
use Rattle.just_host.specs.declared.job.Pair.{Pair}
use Rattle.just_value.specs.Values.{joined}
use Rattle.tree_items.specs.Lines.{Piece}
use Rattle.tree_items.specs.Lines as pieces
use Rattle.tree_items.specs.Recipes.{is_variadic}
use Rattle.tree_expressions.specs.Shape.{Shape}
use Rattle.parse_expressions.specs.Literals.{Expansion}
use Rattle.meaning_dialogues.specs.Dialogue.{Dialogue, ◌>>=◌}
use Rattle.meaning_dialogues.specs.Evaluation.{Value, Stage, dialogue}
use Rattle.meaning_dialogues.specs.Terms.{Term}
use Rattle.meaning_evaluation.specs.Stages.Lines.{TermPiece as TermPiece, text, interpolation}
use Rattle.evaluate_context.specs.Surroundings.{Surroundings, Standing, sorted_names}
use Rattle.meaning_dialogues.specs.Calls.{DefinedFunction, Frame, empty, with_parameters}
use Rattle.meaning_evaluation.specs.Stages.Stages.{run_stage, calls_allowed}
use Rattle.meaning_evaluation.specs.Stages.Parameters.{Formal, Bound, is_star, under, bound_value, bound_dialogue}
use Rattle.meaning_evaluation.specs.Named.{ParameterRow, FunctionRow, RecipeRow, ModuleRow}
use Rattle.meaning_dialogues.specs.Written.{term_in, numbered, unnumbered, numbers_from}

-- a part of a line, by what strings expand to, the file, and the numbers of names
abbrev pub piece_in : Expansion → List ℕ → (List ℕ → Option ℕ) → Piece → TermPiece
piece_in expansion file numbers (pieces.text t) = text t
piece_in expansion file numbers (pieces.interpolation e) = interpolation (term_in expansion file numbers e)

-- a function, whose body sees its parameters
abbrev pub defined_in : Expansion → FunctionRow → DefinedFunction
defined_in expansion f = record { name = f.name; parameters = numbers_from 0 f.parameters; body = term_in expansion f.file (numbered f.parameters) f.body }

-- what is configured for a run, with the key of the root file
pub record Configuration : Type 0 where
  pub arch : List ℕ
  pub base : List ℕ
  pub working_directory : List ℕ
  pub invocation_directory : List ℕ
  pub dry_run : Bool
  pub yes : Bool
  pub no_dependencies : Bool
  pub quiet : Bool
  pub loquacious : Bool
  pub jobs : Option ℕ
  pub shell : Option (List ℕ)
  pub shell_args : Option (List (List ℕ))
  pub limit : ℕ
  pub os : Os
  pub version : List ℕ
  pub root : List ℕ
  pub expansion : Expansion

-- A module as recipes see it: its row, its functions, the pairs of its files of variables, and the exported bindings of its frame.
pub record Scene : Type 0 where
  pub path : List (List ℕ)
  pub row : ModuleRow
  pub functions : List DefinedFunction
  pub dotenv : List Pair
  pub exported : List Pair

abbrev pub surroundings_in : Configuration → Scene → Surroundings
surroundings_in c scene = record {
  arch = c.arch;
  base = c.base;
  dotenv = scene.dotenv;
  dry_run = c.dry_run;
  export = scene.row.export;
  folder = scene.row.folder;
  invocation_directory = c.invocation_directory;
  jobs = c.jobs;
  limit = c.limit;
  lists = scene.row.lists;
  module_path = joined_names scene.path;
  os = c.os;
  quiet = c.quiet;
  root = c.root;
  source = scene.row.source;
  shell = shell_words c.shell c.shell_args scene.row.shell;
  unexports = sorted_names scene.row.unexports;
  version = c.version;
}

-- whether so many elements are as many as `min` and `max` allow
abbrev pub at_least : Option ℕ → ℕ → Bool
at_least None n = true
at_least (Some least) n = not (nat_lt n least)

abbrev pub at_most : Option ℕ → ℕ → Bool
at_most None n = true
at_most (Some most) n = not (nat_lt most n)

abbrev pub may_count : Option ParameterRow → ℕ → Bool
may_count None n = true
may_count (Some parameter) n = at_least parameter.min n && at_most parameter.max n

-- a binding as a pair, where it is exported
abbrev pub exported_pair : Bool → List ℕ → Value → List Pair
exported_pair true name value = record { name = name; value = joined value } ∷ []
exported_pair false name value = []

abbrev pub exported_by : Bool → List ParameterRow → List Value → List Pair
exported_by export [] values = []
exported_by export (parameter ∷ parameters) [] = []
exported_by export (parameter ∷ parameters) (value ∷ values) = exported_pair (parameter.export || export) parameter.name value ++ exported_by export parameters values

abbrev pub parameter_names : RecipeRow → List (List ℕ)
parameter_names recipe = map (λ parameter. parameter.name) recipe.parameters

-- a recipe of a module, which runs as a dependency or not
module _ (c : Configuration) (scene : Scene) (name : List ℕ) (recipe : RecipeRow) (flag : Bool) where
  abbrev pub around : Surroundings
  around = surroundings_in c scene

  -- where an expression stands: the exported bindings of the frames around it, outermost first, and the pairs of `env` attributes
  abbrev pub standing : List Pair → List Pair → Standing
  standing own env = record { exported = scene.exported ++ own; env = env; is_dependency = flag; recipe = Some name }

  -- the body of a function stands in the module alone
  abbrev pub stage_at : List Pair → List Pair → Stage
  stage_at own env = run_stage around scene.functions (standing own env) (calls_allowed around scene.functions (standing [] []))

  -- what is written in the recipe, its parameters numbered
  abbrev pub term : Shape → Term
  term = term_in c.expansion recipe.file (numbered (parameter_names recipe))

  abbrev pub free_term : Shape → Term
  free_term = term_in c.expansion recipe.file unnumbered

  abbrev pub formal_in : ℕ → ParameterRow → Formal
  formal_in number p = record {
    name = p.name;
    number = number;
    default = option_map term p.default;
    value = option_map term p.value;
    takes_none = is_star p.kind || p.flag;
    is_each = is_variadic p.kind || p.multiple;
  }

  abbrev pub formals_from : ℕ → List ParameterRow → List Formal
  formals_from n [] = []
  formals_from n (p ∷ ps) = formal_in n p ∷ formals_from (suc n) ps

  abbrev pub formals : List Formal
  formals = formals_from 0 recipe.parameters

  -- what the parameters' groups bind the recipe to
  abbrev pub binding : List Value → Dialogue Bound
  binding groups = bound_dialogue (stage_at []) (λ formal n. may_count (slice_get recipe.parameters formal.number) n) scene.row.lists flag name (map (λ pair. (free_term pair.0, free_term pair.1)) recipe.env) formals groups

  abbrev pub frame_of : Bound → Frame
  frame_of bound = with_parameters empty (numbers_from 0 recipe.parameters) (map (bound_value scene.row.lists) bound.values)

  abbrev pub own_pairs : Bound → List Pair
  own_pairs bound = exported_by scene.row.export recipe.parameters bound.values

  -- after the binding: confirmations, dependencies' arguments and the body see the parameters, and then the module
  abbrev pub body_standing : Bound → Standing
  body_standing bound = standing (own_pairs bound) bound.env

  abbrev pub body_stage : Bound → Stage
  body_stage bound = stage_at (own_pairs bound) bound.env

  abbrev pub valued : Bound → Shape → Dialogue Value
  valued bound e = under (frame_of bound) (dialogue (body_stage bound) (term e))
