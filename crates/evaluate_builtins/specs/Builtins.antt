-- What the built-in functions answer.
use Rattle.std.specs.Prelude.{ℕ, List, [], ◌∷◌, ◌++◌, map, Option, Some, None, Result, Ok, Err, Bool, true, false, codes}
use Rattle.std.specs.Fmt.{decimal}
use Rattle.just_host.specs.declared.job.Pair.{Pair}
use Rattle.just_host.specs.declared.host.HostFault.{HostFault}
use Rattle.just_host.specs.declared.host.HostFault.TheVariants.{NotUnicode}
use Rattle.just_host.specs.declared.host.MachineFact.{MachineFact}
use Rattle.just_host.specs.declared.host.Question.{Question}
use Rattle.just_host.specs.declared.host.Question.TheVariants.{Command, Environment, Read as ReadOf, Exists, Canonicalize as CanonicalizeOf, Which as WhichOf, Fact}
use Rattle.just_host.specs.Faults.{fault_text}
use Rattle.just_value.specs.Lists.{list_text}
use Rattle.just_value.specs.Paths.{join, parent}
use Rattle.just_value.specs.Values.{value_text}
use Rattle.evaluate_context.specs.Environment.{last_of}
use Rattle.evaluate_functions.specs.Values.{boolean}
use Rattle.evaluate_functions.specs.declared.function.Function.{Function}
use Rattle.evaluate_functions.specs.declared.function.Function.TheVariants.{Arch, Canonicalize, InvocationDirectory, InvocationDirectoryNative, IsDependency, JustVersion, Justfile, JustfileDirectory, ModuleDirectory, ModuleFile, ModulePath, NumJobs, Os, OsFamily, PathExists, Read, RecipeName, Require, Shell, SourceDirectory, SourceFile, Which}
use Rattle.evaluate_builtins.specs.Facts.{os_name, folder_of, fact_of}
use Rattle.meaning_dialogues.specs.Faults.{Fault, function_failed, no_parent}
use Rattle.meaning_dialogues.specs.Dialogue.{Dialogue, Ends, Asks}
use Rattle.meaning_dialogues.specs.Evaluation.{Value, ticked}
use Rattle.evaluate_context.specs.Surroundings.{Surroundings, Standing, job_of}
use Rattle.meaning_dialogues.specs.Answers.{text_in, optional_in, truth_in, without_line_end, faulted}
use Rattle.evaluate_functions.specs.Functions.{first_text, text_at, pure}

-- one text, or the refusal with what the function says
abbrev pub says : List ℕ → Result Value (List ℕ) → Result Value Fault
says name (Ok value) = Ok value
says name (Err message) = Err (function_failed name message)

-- the host's text, or its fault after these words
abbrev pub text_told : List ℕ → List ℕ → Result (List ℕ) HostFault → Result Value Fault
text_told name words (Ok text) = Ok (text ∷ [])
text_told name words (Err fault) = Err (faulted name words fault)

-- the host's text, or what stands for its absence, or its fault
abbrev pub optional_told : List ℕ → Result Value Fault → Result (Option (List ℕ)) HostFault → Result Value Fault
optional_told name absent (Ok (Some text)) = Ok (text ∷ [])
optional_told name absent (Ok None) = absent
optional_told name absent (Err fault) = Err (faulted name [] fault)

abbrev pub truth_told : List ℕ → Bool → Result Bool HostFault → Result Value Fault
truth_told name lists (Ok holds) = Ok (boolean lists holds)
truth_told name lists (Err fault) = Err (faulted name [] fault)

-- a file of the justfile, or its folder
abbrev pub file_told : Surroundings → List ℕ → Dialogue Value
file_told around file = Ends (Ok (join around.base file ∷ []))

abbrev pub folder_told : List ℕ → Option (List ℕ) → Result Value Fault
folder_told path (Some folder) = Ok (folder ∷ [])
folder_told path None = Err (no_parent path)

abbrev pub file_folder : Surroundings → List ℕ → Dialogue Value
file_folder around file = Ends (folder_told (join around.base file) (parent (join around.base file)))

abbrev pub machine_folder : List ℕ → MachineFact → List ℕ → Dialogue Value
machine_folder name fact words = Asks (Fact fact) (λ answer. Ends (optional_told name (Err (function_failed name (words ++ codes " directory not found"))) (optional_in answer)))

abbrev pub machine_fact : List ℕ → MachineFact → Dialogue Value
machine_fact name fact = Asks (Fact fact) (λ answer. Ends (text_told name [] (text_in answer)))

-- what is said of a path in the module's folder
abbrev pub at_path : List ℕ → (List ℕ → Question) → List ℕ → Surroundings → List ℕ → Dialogue Value
at_path name question doing around path = Asks (question (join around.folder path)) (λ answer. Ends (text_told name (codes "I/O error " ++ (doing ++ (codes " " ++ (ticked path ++ codes ": ")))) (text_in answer)))

abbrev pub exists_dialogue : List ℕ → Surroundings → List ℕ → Dialogue Value
exists_dialogue name around [] = Ends (Ok (boolean around.lists false))
exists_dialogue name around (b ∷ bs) = Asks (Exists (join around.folder (b ∷ bs))) (λ answer. Ends (truth_told name around.lists (truth_in answer)))

abbrev pub program_dialogue : List ℕ → Surroundings → List ℕ → Result Value Fault → Dialogue Value
program_dialogue name around program absent = Asks (WhichOf program around.folder) (λ answer. Ends (optional_told name absent (optional_in answer)))

-- a command by `shell`: in a dry run the call stands for itself, and nothing is asked
abbrev pub more_printed : List Value → List ℕ
more_printed [] = codes ")"
more_printed (value ∷ values) = codes ", " ++ (value_text value ++ more_printed values)

abbrev pub unrun_call : List Value → List ℕ
unrun_call [] = codes "shell()"
unrun_call (value ∷ values) = codes "shell(" ++ (value_text value ++ more_printed values)

abbrev pub shell_told : List ℕ → Result (List ℕ) HostFault → Result Value Fault
shell_told name (Ok text) = Ok (without_line_end text ∷ [])
shell_told name (Err fault) = Err (faulted name [] fault)

abbrev pub shell_dialogue : List ℕ → Surroundings → Standing → List Value → Bool → Dialogue Value
shell_dialogue name around standing values true = Ends (Ok (unrun_call values ∷ []))
shell_dialogue name around standing values false = Asks (Command (job_of around standing (text_at values 0) (map first_text values))) (λ answer. Ends (shell_told name (text_in answer)))

-- why a variable of the environment can't be told
abbrev pub untold : List ℕ → HostFault → List ℕ
untold variable (NotUnicode text) = codes "environment variable " ++ (ticked variable ++ (codes " is not unicode: " ++ ticked text))
untold variable fault = fault_text fault

abbrev pub looked_up : List ℕ → List ℕ → Dialogue Value → Result (Option (List ℕ)) HostFault → Dialogue Value
looked_up name variable else_ (Ok (Some text)) = Ends (Ok (text ∷ []))
looked_up name variable else_ (Ok None) = else_
looked_up name variable else_ (Err fault) = Ends (Err (function_failed name (untold variable fault)))

abbrev pub in_files : Option (List ℕ) → Dialogue Value → Dialogue Value
in_files (Some text) else_ = Ends (Ok (text ∷ []))
in_files None else_ = else_

-- the first of these variables that files have, or else the environment, one after another
abbrev pub first_variable : List ℕ → List Pair → Dialogue Value → List (List ℕ) → Dialogue Value
first_variable name dotenv else_ [] = else_
first_variable name dotenv else_ (variable ∷ variables) =
    in_files (last_of variable dotenv)
    (Asks (Environment variable) (λ answer. looked_up name variable (first_variable name dotenv else_ variables) (optional_in answer)))

abbrev pub not_present : Value → List ℕ
not_present [] = codes "empty environment variable list with no default"
not_present (variable ∷ []) = codes "environment variable " ++ (ticked variable ++ codes " not present")
not_present (variable ∷ other ∷ others) = codes "environment variables " ++ (list_text (codes "and") (map ticked (variable ∷ other ∷ others)) ++ codes " not present")

abbrev pub environment_dialogue : List ℕ → List Pair → List Value → Dialogue Value
environment_dialogue name dotenv [] = Ends (Ok [])
environment_dialogue name dotenv (variables ∷ []) = first_variable name dotenv (Ends (Err (function_failed name (not_present variables)))) variables
environment_dialogue name dotenv (variables ∷ default ∷ others) = first_variable name dotenv (Ends (Ok default)) variables

abbrev pub number_told : Option ℕ → Value
number_told (Some number) = decimal number ∷ []
number_told None = []

abbrev pub recipe_told : List ℕ → Option (List ℕ) → Result Value Fault
recipe_told name (Some recipe) = Ok (recipe ∷ [])
recipe_told name None = Err (function_failed name (codes "`recipe_name()` can only be used within a recipe"))

-- a function that its arguments don't determine, called by this name in this file
abbrev pub sited : Surroundings → Standing → List ℕ → List ℕ → Function → List Value → Dialogue Value
sited around standing name file Arch values = Ends (Ok (around.arch ∷ []))
sited around standing name file InvocationDirectory values = Ends (Ok (around.invocation_directory ∷ []))
sited around standing name file InvocationDirectoryNative values = Ends (Ok (around.invocation_directory ∷ []))
sited around standing name file IsDependency values = Ends (Ok (boolean around.lists standing.is_dependency))
sited around standing name file JustVersion values = Ends (Ok (around.version ∷ []))
sited around standing name file Justfile values = file_told around around.root
sited around standing name file JustfileDirectory values = file_folder around around.root
sited around standing name file ModuleFile values = file_told around around.source
sited around standing name file ModuleDirectory values = file_folder around around.source
sited around standing name file ModulePath values = Ends (Ok (around.module_path ∷ []))
sited around standing name file NumJobs values = Ends (Ok (number_told around.jobs))
sited around standing name file Os values = Ends (Ok (os_name around.os ∷ []))
sited around standing name file OsFamily values = Ends (Ok (codes "unix" ∷ []))
sited around standing name file RecipeName values = Ends (recipe_told name standing.recipe)
sited around standing name file SourceFile values = file_told around file
sited around standing name file SourceDirectory values = file_folder around file
sited around standing name file Canonicalize values = at_path name CanonicalizeOf (codes "canonicalizing") around (text_at values 0)
sited around standing name file Read values = at_path name ReadOf (codes "reading") around (text_at values 0)
sited around standing name file PathExists values = exists_dialogue name around (text_at values 0)
sited around standing name file Which values = program_dialogue name around (text_at values 0) (Ok [])
sited around standing name file Require values = program_dialogue name around (text_at values 0) (Err (function_failed name (codes "could not find executable " ++ ticked (text_at values 0))))
sited around standing name file Shell values = shell_dialogue name around standing values around.dry_run
sited around standing name file function values = environment_dialogue name around.dotenv values

abbrev pub told_by : List ℕ → Option MachineFact → Dialogue Value → Dialogue Value
told_by name (Some fact) else_ = machine_fact name fact
told_by name None else_ = else_

abbrev pub told_folder : List ℕ → Option (MachineFact × List ℕ) → Dialogue Value → Dialogue Value
told_folder name (Some (fact, words)) else_ = machine_folder name fact words
told_folder name None else_ = else_

abbrev pub determined : List ℕ → Option (Result Value (List ℕ)) → Dialogue Value → Dialogue Value
determined name (Some answer) else_ = Ends (says name answer)
determined name None else_ = else_

-- what a built-in function answers to its arguments, called by this name in this file
abbrev pub builtin : Surroundings → Standing → List ℕ → List ℕ → Function → List Value → Dialogue Value
builtin around standing name file function values =
    determined name (pure around.lists function values)
    (told_folder name (folder_of function) (told_by name (fact_of function) (sited around standing name file function values)))
