-- No built-in function and no command ends with `internal`.
use Rattle.std.proofs.Common.{ℕ, List, [], ◌∷◌, ◌++◌, Bool, true, false, Option, Some, None, Result, Ok, Err, refl}
use Rattle.std.specs.Prelude.{IsSome, codes}
use Rattle.just_host.specs.declared.host.HostFault.{HostFault}
use Rattle.just_host.specs.declared.host.MachineFact.{MachineFact}
use Rattle.just_host.specs.declared.host.Question.{Question}
use Rattle.just_host.specs.declared.host.Question.TheVariants.{Read as ReadOf, Canonicalize as CanonicalizeOf}
use Rattle.just_host.specs.declared.job.Pair.{Pair}
use Rattle.evaluate_functions.specs.Arguments.{takes_text}
use Rattle.evaluate_functions.specs.Functions.{pure, text_at}
use Rattle.evaluate_functions.specs.declared.function.Function.{Function}
use Rattle.evaluate_functions.specs.declared.function.Function.TheVariants.{Arch, Canonicalize, InvocationDirectory, InvocationDirectoryNative, IsDependency, JustVersion, Justfile, JustfileDirectory, ModuleDirectory, ModuleFile, ModulePath, NumJobs, Os, OsFamily, PathExists, Read, RecipeName, Require, Shell, SourceDirectory, SourceFile, Which}
use Rattle.evaluate_context.specs.Environment.{last_of}
use Rattle.evaluate_context.specs.Surroundings.{Surroundings, Standing}
use Rattle.evaluate_builtins.specs.Facts.{folder_of, fact_of}
use Rattle.evaluate_builtins.specs.Builtins.{builtin, determined, told_folder, told_by, sited, exists_dialogue, shell_dialogue, environment_dialogue, first_variable, looked_up, in_files, says, text_told, optional_told, truth_told, folder_told, recipe_told, shell_told, at_path}
use Rattle.meaning_dialogues.specs.Faults.{Fault}
use Rattle.meaning_dialogues.specs.Dialogue.{Dialogue, Lookup, Variable}
use Rattle.meaning_dialogues.specs.Evaluation.{Value, ticked}
use Rattle.meaning_dialogues.specs.Answers.{text_in, optional_in, truth_in, output}
use Rattle.meaning_dialogues.specs.Calls.{arguments}
use Rattle.meaning_evaluation.specs.Stages.Stages.{call_builtin, command_dialogue}
use Rattle.laws_evaluation.specs.Soundness.Endings.{NotInternal, Proper}
use Rattle.laws_evaluation.proofs.Soundness.Endings.{AllProper, then_proper, arguments_proper}

-- what a function says, and what is made of the host's answers
says_proper : (name : List ℕ) (r : Result Value (List ℕ)) → NotInternal (says name r)
says_proper name (Ok value) = tt
says_proper name (Err message) = refl

text_proper : (name words : List ℕ) (r : Result (List ℕ) HostFault) → NotInternal (text_told name words r)
text_proper name words (Ok text) = tt
text_proper name words (Err fault) = refl

optional_proper : (name : List ℕ) (absent : Result Value Fault) (r : Result (Option (List ℕ)) HostFault) → NotInternal absent → NotInternal (optional_told name absent r)
optional_proper name absent (Ok (Some text)) h = tt
optional_proper name absent (Ok None) h = h
optional_proper name absent (Err fault) h = refl

truth_proper : (name : List ℕ) (lists : Bool) (r : Result Bool HostFault) → NotInternal (truth_told name lists r)
truth_proper name lists (Ok holds) = tt
truth_proper name lists (Err fault) = refl

folder_proper : (path : List ℕ) (o : Option (List ℕ)) → NotInternal (folder_told path o)
folder_proper path (Some folder) = tt
folder_proper path None = refl

recipe_proper : (name : List ℕ) (o : Option (List ℕ)) → NotInternal (recipe_told name o)
recipe_proper name (Some recipe) = tt
recipe_proper name None = refl

shell_text_proper : (name : List ℕ) (r : Result (List ℕ) HostFault) → NotInternal (shell_told name r)
shell_text_proper name (Ok text) = tt
shell_text_proper name (Err fault) = refl

-- what a command in backticks gives is not `internal`
pub output_proper : (written : List ℕ) (r : Result (List ℕ) HostFault) → NotInternal (output written r)
output_proper written (Ok text) = tt
output_proper written (Err fault) = refl

module _ (W : Lookup → Variable → Type 0) where
  looked_proper : (name variable : List ℕ) (else_ : Dialogue Value) (r : Result (Option (List ℕ)) HostFault) → Proper W else_ → Proper W (looked_up name variable else_ r)
  looked_proper name variable else_ (Ok (Some text)) h = tt
  looked_proper name variable else_ (Ok None) h = h
  looked_proper name variable else_ (Err fault) h = refl

  files_proper : (o : Option (List ℕ)) (else_ : Dialogue Value) → Proper W else_ → Proper W (in_files o else_)
  files_proper (Some text) else_ h = tt
  files_proper None else_ h = h

  first_proper : (name : List ℕ) (dotenv : List Pair) (else_ : Dialogue Value) (variables : List (List ℕ)) → Proper W else_ → Proper W (first_variable name dotenv else_ variables)
  first_proper name dotenv else_ [] h = h
  first_proper name dotenv else_ (v ∷ vs) h =
      files_proper (last_of v dotenv) _ (λ answer. looked_proper name v (first_variable name dotenv else_ vs) (optional_in answer) (first_proper name dotenv else_ vs h))

  environment_proper : (name : List ℕ) (dotenv : List Pair) (values : List Value) → Proper W (environment_dialogue name dotenv values)
  environment_proper name dotenv [] = tt
  environment_proper name dotenv (vs ∷ []) = first_proper name dotenv _ vs refl
  environment_proper name dotenv (vs ∷ default ∷ others) = first_proper name dotenv _ vs tt

  path_proper : (name : List ℕ) (question : List ℕ → Question) (doing : List ℕ) (m : Surroundings) (path : List ℕ) → Proper W (at_path name question doing m path)
  path_proper name question doing m path = λ answer. text_proper name (codes "I/O error " ++ (doing ++ (codes " " ++ (ticked path ++ codes ": ")))) (text_in answer)

  exists_proper : (name : List ℕ) (m : Surroundings) (path : List ℕ) → Proper W (exists_dialogue name m path)
  exists_proper name m [] = tt
  exists_proper name m (b ∷ bs) = λ answer. truth_proper name m.lists (truth_in answer)

  shell_proper : (name : List ℕ) (m : Surroundings) (s : Standing) (values : List Value) (dry : Bool) → Proper W (shell_dialogue name m s values dry)
  shell_proper name m s values true = tt
  shell_proper name m s values false = λ answer. shell_text_proper name (text_in answer)

  sited_proper : (m : Surroundings) (s : Standing) (name file : List ℕ) (f : Function) (values : List Value) → Proper W (sited m s name file f values)
  sited_proper m s name file Arch values = tt
  sited_proper m s name file InvocationDirectory values = tt
  sited_proper m s name file InvocationDirectoryNative values = tt
  sited_proper m s name file IsDependency values = tt
  sited_proper m s name file JustVersion values = tt
  sited_proper m s name file Justfile values = tt
  sited_proper m s name file JustfileDirectory values = folder_proper _ _
  sited_proper m s name file ModuleFile values = tt
  sited_proper m s name file ModuleDirectory values = folder_proper _ _
  sited_proper m s name file ModulePath values = tt
  sited_proper m s name file NumJobs values = tt
  sited_proper m s name file Os values = tt
  sited_proper m s name file OsFamily values = tt
  sited_proper m s name file RecipeName values = recipe_proper name s.recipe
  sited_proper m s name file SourceFile values = tt
  sited_proper m s name file SourceDirectory values = folder_proper _ _
  sited_proper m s name file Canonicalize values = path_proper name CanonicalizeOf (codes "canonicalizing") m (text_at values 0)
  sited_proper m s name file Read values = path_proper name ReadOf (codes "reading") m (text_at values 0)
  sited_proper m s name file PathExists values = exists_proper name m (text_at values 0)
  sited_proper m s name file Which values = λ answer. optional_proper name _ (optional_in answer) tt
  sited_proper m s name file Require values = λ answer. optional_proper name _ (optional_in answer) refl
  sited_proper m s name file Shell values = shell_proper name m s values m.dry_run
  sited_proper m s name file _ values = environment_proper name m.dotenv values

  determined_proper : (name : List ℕ) (o : Option (Result Value (List ℕ))) (else_ : Dialogue Value) → Proper W else_ → Proper W (determined name o else_)
  determined_proper name (Some answer) else_ h = says_proper name answer
  determined_proper name None else_ h = h

  told_folder_proper : (name : List ℕ) (o : Option (MachineFact × List ℕ)) (else_ : Dialogue Value) → Proper W else_ → Proper W (told_folder name o else_)
  told_folder_proper name (Some (fact, words)) else_ h = λ answer. optional_proper name _ (optional_in answer) refl
  told_folder_proper name None else_ h = h

  fact_proper : (name : List ℕ) (o : Option MachineFact) (else_ : Dialogue Value) → Proper W else_ → Proper W (told_by name o else_)
  fact_proper name (Some fact) else_ h = λ answer. text_proper name [] (text_in answer)
  fact_proper name None else_ h = h

  -- a built-in function reads no variable and never ends with `internal`, whatever its arguments are
  pub builtin_proper : (m : Surroundings) (s : Standing) (name file : List ℕ) (f : Function) (values : List Value) → Proper W (builtin m s name file f values)
  builtin_proper m s name file f values =
      determined_proper name (pure m.lists f values) _ (told_folder_proper name (folder_of f) _ (fact_proper name (fact_of f) _ (sited_proper m s name file f values)))

  -- nor does a command
  pub command_proper : (m : Surroundings) (s : Standing) (dry : Bool) (contents text : List ℕ) → Proper W (command_dialogue m s dry contents text)
  command_proper m s true contents text = tt
  command_proper m s false contents text = λ answer. output_proper text (text_in answer)

  -- a call of a built-in function never ends with `internal` where no argument does
  pub call_builtin_proper : (m : Surroundings) (s : Standing) (o : Option Function) (name file : List ℕ) (ds : List (Dialogue Value)) → IsSome o → AllProper W ds → Proper W (call_builtin m s o name file ds)
  call_builtin_proper m s None name file ds known h = absurd (cc)
  call_builtin_proper m s (Some f) name file ds known h =
      then_proper W (arguments (takes_text f) name 0 ds) _ (arguments_proper W (takes_text f) name 0 ds h) (λ values. builtin_proper m s name file f values)
