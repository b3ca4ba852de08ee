-- Small expressions, and the dialogues that they are.
use Rattle.std.proofs.Common.{refl}
use Rattle.std.specs.Prelude.{◌≡◌, ℕ, List, [], ◌∷◌, Bool, true, false, Some, None, Ok, Err, codes}
use Rattle.just_text.specs.declared.os.Os.TheVariants.{Linux}
use Rattle.just_host.specs.declared.host.Answer.TheVariants.{Absent}
use Rattle.just_host.specs.declared.job.Pair.{Pair}
use Rattle.evaluate_functions.specs.Names.{function_names}
use Rattle.meaning_dialogues.specs.Faults.{too_deep, empty_argument}
use Rattle.meaning_dialogues.specs.Dialogue.{Ends}
use Rattle.meaning_dialogues.specs.Terms.{Term, command, literal, call, end, more}
use Rattle.meaning_dialogues.specs.Evaluation.{Stage, dialogue}
use Rattle.meaning_dialogues.specs.Calls.{DefinedFunction}
use Rattle.meaning_dialogues.specs.Meaning.{meaning}
use Rattle.evaluate_context.specs.Surroundings.{Surroundings, Standing}
use Rattle.meaning_evaluation.specs.Stages.Stages.{run_stage, calls_allowed}
use Rattle.meaning_evaluation.specs.Stages.Parameters.{Formal, bound_dialogue}

-- in a dry run or not, with these pairs of files of variables
abbrev around : Bool → List Pair → Surroundings
around dry_run dotenv = record {
  arch = [];
  base = codes "/w";
  dotenv = dotenv;
  dry_run = dry_run;
  export = false;
  folder = codes "/w";
  invocation_directory = codes "/w";
  jobs = None;
  limit = 4;
  lists = false;
  module_path = [];
  os = Linux;
  quiet = false;
  root = codes "justfile";
  source = codes "justfile";
  shell = codes "sh" ∷ codes "-cu" ∷ [];
  unexports = [];
  version = codes "1.58.0";
}

abbrev in_recipe : Standing
in_recipe = record { exported = []; env = []; is_dependency = false; recipe = Some (codes "a") }

abbrev stage : Bool → List Pair → List DefinedFunction → Stage
stage dry_run dotenv functions = run_stage (around dry_run dotenv) functions in_recipe (calls_allowed (around dry_run dotenv) functions in_recipe)

abbrev quoted : List ℕ → List ℕ → Term
quoted characters written = literal characters written

-- a command stands for itself in a dry run
pub unrun_command : dialogue (stage true [] []) (command (codes "echo x") (codes "`echo x`")) ≡ Ends (Ok (codes "`echo x`" ∷ []))
unrun_command = refl

-- `shell('a', 'b')` does so too
pub unrun_shell : dialogue (stage true [] []) (call (codes "shell") (codes "justfile") (more (quoted (codes "a") (codes "'a'")) (more (quoted (codes "b") (codes "'b'")) end))) ≡ Ends (Ok (codes "shell(\"a\", \"b\")" ∷ []))
unfolding function_names
unrun_shell = refl

-- `env('A', 'd')`
abbrev asked_for : Term
asked_for = call (codes "env") (codes "justfile") (more (quoted (codes "A") (codes "'A'")) (more (quoted (codes "d") (codes "'d'")) end))

-- the files of variables are looked into first, and then nothing is asked
pub variable_of_files : dialogue (stage false ((record { name = codes "A"; value = codes "1" }) ∷ []) []) asked_for ≡ Ends (Ok (codes "1" ∷ []))
unfolding function_names
variable_of_files = refl

-- where the environment has none the default stands
pub default_value : meaning (λ question. Some Absent) (λ place x. None) (dialogue (stage false [] []) asked_for) ≡ Some (Ok (codes "d" ∷ []))
unfolding function_names
default_value = refl

-- `f() := f()` is too deep
abbrev itself : DefinedFunction
itself = record { name = codes "f"; parameters = []; body = call (codes "f") (codes "justfile") end }

pub too_many_calls : dialogue (stage false [] (itself ∷ [])) (call (codes "f") (codes "justfile") end) ≡ Ends (Err (too_deep (codes "f")))
too_many_calls = refl

-- `a +x:` without a word
abbrev needed : Formal
needed = record { name = codes "x"; number = 0; default = None; value = None; takes_none = false; is_each = true }

pub nothing_given : bound_dialogue (λ env. stage false [] []) (λ formal n. true) false false (codes "a") [] (needed ∷ []) ([] ∷ []) ≡ Ends (Err (empty_argument (codes "a") (codes "x")))
nothing_given = refl
