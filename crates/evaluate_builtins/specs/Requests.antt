-- What the functions ask of the host.
use Rattle.std.specs.Prelude.{⊤, ℕ, List, [], Option, Some, None, Result, Ok, Err, ◌++◌, codes}
use Rattle.std.specs.Option.{option_map, option_or}
use Rattle.just_host.specs.declared.entry.Entry.{Entry}
use Rattle.just_host.specs.declared.host.Question.TheVariants.{Read as ReadOf, Canonicalize as CanonicalizeOf}
use Rattle.evaluate_context.specs.Surroundings.{Surroundings, Standing}
use Rattle.evaluate_functions.specs.Functions.{text_at}
use Rattle.evaluate_functions.specs.declared.fault.FunctionFault.{FunctionFault}
use Rattle.evaluate_functions.specs.declared.function.Function.{Function}
use Rattle.evaluate_functions.specs.declared.function.Function.TheVariants.{Canonicalize, Env, EnvVar, EnvVarOrDefault, PathExists, Read, Require, Shell, Which}
use Rattle.meaning_dialogues.specs.Dialogue.{Dialogue, Evaluates, Reading}
use Rattle.meaning_dialogues.specs.Evaluation.{Value, ticked}
use Rattle.meaning_dialogues.specs.Faults.{function_failed}
use Rattle.evaluate_builtins.specs.declared.call.Request.{Request}
use Rattle.evaluate_builtins.specs.declared.call.Request.TheVariants.{CanonicalPath, Contents, Existence, Output, Program, RequiredProgram, Variable}
use Rattle.evaluate_builtins.specs.Builtins.{at_path, environment_dialogue, exists_dialogue, machine_fact, machine_folder, program_dialogue, shell_dialogue}
use Rattle.evaluate_builtins.specs.Facts.{fact_of, folder_of}
use Rattle.evaluate_builtins.specs.Named.{named}

abbrev pub request_of : Function → Option Request
request_of Canonicalize = Some CanonicalPath
request_of Env = Some Variable
request_of EnvVar = Some Variable
request_of EnvVarOrDefault = Some Variable
request_of PathExists = Some Existence
request_of Read = Some Contents
request_of Require = Some RequiredProgram
request_of Shell = Some Output
request_of Which = Some Program
request_of _ = None

-- the dialogue of a request, by this name
abbrev pub requested : Surroundings → Standing → List ℕ → Request → List Value → Dialogue Value
requested around standing name CanonicalPath values = at_path name CanonicalizeOf (codes "canonicalizing") around (text_at values 0)
requested around standing name Contents values = at_path name ReadOf (codes "reading") around (text_at values 0)
requested around standing name Existence values = exists_dialogue name around (text_at values 0)
requested around standing name Output values = shell_dialogue name around standing values around.dry_run
requested around standing name Program values = program_dialogue name around (text_at values 0) (Ok [])
requested around standing name RequiredProgram values = program_dialogue name around (text_at values 0) (Err (function_failed name (codes "could not find executable " ++ ticked (text_at values 0))))
requested around standing name Variable values = environment_dialogue name around.dotenv values

-- the dialogue of a function that asks the host
abbrev pub asked_of : Surroundings → Standing → List ℕ → Function → List Value → Option (Dialogue Value)
asked_of around standing name function values =
    option_or (option_map (λ row. machine_folder name row.0 row.1) (folder_of function))
    (option_or (option_map (λ fact. machine_fact name fact) (fact_of function)) (option_map (λ request. requested around standing name request values) (request_of function)))

-- the result is what the dialogue leads to, or there is neither
abbrev pub LeadsAny : List ℕ → Reading → Option (Dialogue Value) → List Entry → List Entry → Option (Result Value FunctionFault) → Type 0
LeadsAny name reading (Some dialogue) old new (Some given) = Evaluates reading dialogue old new (named name given)
LeadsAny name reading (Some dialogue) old new None = ⊥
LeadsAny name reading None old new (Some given) = ⊥
LeadsAny name reading None old new None = ⊤
