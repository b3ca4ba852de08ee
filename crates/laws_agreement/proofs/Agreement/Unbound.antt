-- Why what is bound has to fit: a body that is bound to no value reads its parameter as a variable, which isn't there.
use Rattle.std.proofs.Common.{◌≡◌, [], ◌∷◌, true, false, codes, Some, None, Ok, Err}
use Rattle.just_text.specs.declared.os.Os.TheVariants.{Linux}
use Rattle.tree_expressions.specs.Shape.{variable}
use Rattle.tree_items.specs.Lines.{interpolation, read_sigils}
use Rattle.tree_items.specs.declared.recipe.ParameterKind.TheVariants.{Singular}
use Rattle.tree_expressions.specs.Parts.{halved_behind}
use Rattle.meaning_dialogues.specs.Dialogue.{Lookup, Variable, around}
use Rattle.meaning_dialogues.specs.Evaluation.{Value}
use Rattle.meaning_dialogues.specs.Meaning.{Meaning}
use Rattle.meaning_dialogues.proofs.Unfolding.{IsMeant}
use Rattle.meaning_evaluation.specs.Stages.Parameters.{Bound}
use Rattle.meaning_runs.specs.Acts.{finish}
use Rattle.meaning_runs.proofs.Tasks.{Sound}
use Rattle.meaning_runs.proofs.Acting.{AreSound}
use Rattle.meaning_evaluation.specs.Named.{Call, ParameterRow, RecipeRow, ModuleRow, no_module, Definitions}
use Rattle.meaning_evaluation.specs.Scopes.{Configuration}
use Rattle.meaning_evaluation.specs.Calling.{Ground, acts}
use Rattle.just_meaning.specs.Opening.{reading_in}

abbrev configuration : Configuration
configuration = record {
  arch = [];
  base = [];
  working_directory = [];
  invocation_directory = [];
  dry_run = false;
  yes = false;
  no_dependencies = false;
  quiet = true;
  loquacious = false;
  jobs = None;
  shell = None;
  shell_args = None;
  limit = 4;
  os = Linux;
  version = [];
  root = [];
  expansion = λ text. Ok text;
}

-- `r v:` with the line `{{v}}`
abbrev parameter : ParameterRow
parameter = record { name = codes "v"; kind = Singular; export = false; default = None; long = None; short = None; flag = false; multiple = false; value = None; min = None; max = None }

abbrev recipe : RecipeRow
recipe = record {
  file = [];
  parameters = parameter ∷ [];
  env = [];
  confirm = None;
  priors = [];
  subsequents = [];
  body = (interpolation (variable (codes "v")) ∷ []) ∷ [];
  quiet = false;
  script = None;
  extension = None;
  folder = None;
  no_cd = false;
  no_quiet = false;
  passes_words = false;
}

abbrev settings : ModuleRow
settings = record {
  source = [];
  folder = [];
  unexports = [];
  shell = None;
  script_interpreter = None;
  guards = false;
  ignore_comments = false;
  quiet = false;
  no_cd = false;
  default_script = false;
  lists = false;
  export = false;
  lazy = false;
  shares = false;
  default_list = false;
  request = None;
}

abbrev defined : Definitions
defined = record {
  modules = no_module;
  recipe = λ r. Some recipe;
  alias = λ r. None;
  default = λ path. None;
  names = λ path. [];
  variable = λ x. None;
  override = λ x. None;
  functions = λ path. [];
  inside = λ path. Some settings;
}

abbrev ground : Ground
ground = record { configuration = configuration; defined = defined; dotenv = λ path. []; exported = λ path. [] }

abbrev call : Call
call = record { recipe = record { path = []; recipe = codes "r" }; groups = (codes "x" ∷ []) ∷ [] }

abbrev unbound : Bound
unbound = record { env = []; values = [] }

abbrev variable_v : Variable
variable_v = record { name = codes "v"; number = Some 0 }

unread : (variables : Lookup → Variable → Meaning Value) → IsMeant (reading_in []) variables around variable_v → ⊥
unread variables m = let e : Err (_) ≡ Ok m.value = m.read in cc

-- The tasks of a kind that the call is of are not sound for all that calls could be bound to, whatever variables mean.
pub unbound_unsound : (variables : Call → Lookup → Variable → Meaning Value) (Of : Call → Type 0) → Of call → AreSound (acts ground) (λ c. reading_in []) variables Of → ⊥
unfolding read_sigils halved_behind
unbound_unsound variables Of those sound = let s : Sound (IsMeant (reading_in []) (variables call)) (finish (acts ground) call false unbound) = sound.finish call false unbound those in unread (variables call) s.0
