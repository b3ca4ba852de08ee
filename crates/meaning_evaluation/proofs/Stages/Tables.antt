-- The built-in functions read no variable.
use Rattle.std.proofs.Common.{ℕ, List, [], ◌∷◌, Bool, true, false, Option, Some, None, Result, Ok, Err}
use Rattle.just_host.specs.declared.host.HostFault.{HostFault}
use Rattle.just_host.specs.declared.host.MachineFact.{MachineFact}
use Rattle.just_host.specs.declared.job.Pair.{Pair}
use Rattle.evaluate_functions.specs.Arguments.{takes_text}
use Rattle.evaluate_context.specs.Environment.{last_of}
use Rattle.evaluate_functions.specs.declared.function.Function.{Function}
use Rattle.evaluate_functions.specs.declared.function.Function.TheVariants.{Arch, Canonicalize, InvocationDirectory, InvocationDirectoryNative, IsDependency, JustVersion, Justfile, JustfileDirectory, ModuleDirectory, ModuleFile, ModulePath, NumJobs, Os, OsFamily, PathExists, Read, RecipeName, Require, Shell, SourceDirectory, SourceFile, Which}
use Rattle.evaluate_builtins.specs.Facts.{folder_of, fact_of}
use Rattle.meaning_dialogues.specs.Dialogue.{Dialogue, ◌>>=◌, Lookup, Variable}
use Rattle.meaning_dialogues.specs.Evaluation.{Value}
use Rattle.meaning_dialogues.specs.Answers.{optional_in}
use Rattle.evaluate_functions.specs.Functions.{pure, text_at}
use Rattle.meaning_dialogues.specs.Calls.{arguments}
use Rattle.evaluate_builtins.specs.Builtins.{builtin, determined, told_folder, told_by, sited, exists_dialogue, shell_dialogue, environment_dialogue, first_variable, looked_up, in_files}
use Rattle.meaning_evaluation.specs.Stages.Stages.{call_builtin, command_dialogue}
use Rattle.evaluate_context.specs.Surroundings.{Surroundings, Standing}
use Rattle.meaning_dialogues.proofs.Soundness.{Sound, Any, AllSound, then_sound, arguments_sound, ends_sound}

module _ (P : Lookup → Variable → Type 0) where
  looked_sound : (name variable : List ℕ) (else_ : Dialogue Value) (r : Result (Option (List ℕ)) HostFault) → Sound P Any else_ → Sound P Any (looked_up name variable else_ r)
  looked_sound name variable else_ (Ok (Some text)) h = tt
  looked_sound name variable else_ (Ok None) h = h
  looked_sound name variable else_ (Err fault) h = tt

  files_sound : (o : Option (List ℕ)) (else_ : Dialogue Value) → Sound P Any else_ → Sound P Any (in_files o else_)
  files_sound (Some text) else_ h = tt
  files_sound None else_ h = h

  first_sound : (name : List ℕ) (dotenv : List Pair) (else_ : Dialogue Value) (variables : List (List ℕ)) → Sound P Any else_ → Sound P Any (first_variable name dotenv else_ variables)
  first_sound name dotenv else_ [] h = h
  first_sound name dotenv else_ (v ∷ vs) h =
      files_sound (last_of v dotenv) _ (λ answer. looked_sound name v (first_variable name dotenv else_ vs) (optional_in answer) (first_sound name dotenv else_ vs h))

  environment_sound : (name : List ℕ) (dotenv : List Pair) (values : List Value) → Sound P Any (environment_dialogue name dotenv values)
  environment_sound name dotenv [] = tt
  environment_sound name dotenv (vs ∷ []) = first_sound name dotenv _ vs tt
  environment_sound name dotenv (vs ∷ default ∷ others) = first_sound name dotenv _ vs tt

  exists_sound : (name : List ℕ) (m : Surroundings) (path : List ℕ) → Sound P Any (exists_dialogue name m path)
  exists_sound name m [] = tt
  exists_sound name m (b ∷ bs) = λ answer. ends_sound P _

  shell_sound : (name : List ℕ) (m : Surroundings) (s : Standing) (values : List Value) (dry : Bool) → Sound P Any (shell_dialogue name m s values dry)
  shell_sound name m s values true = tt
  shell_sound name m s values false = λ answer. ends_sound P _

  sited_sound : (m : Surroundings) (s : Standing) (name file : List ℕ) (f : Function) (values : List Value) → Sound P Any (sited m s name file f values)
  sited_sound m s name file Arch values = tt
  sited_sound m s name file InvocationDirectory values = tt
  sited_sound m s name file InvocationDirectoryNative values = tt
  sited_sound m s name file IsDependency values = tt
  sited_sound m s name file JustVersion values = tt
  sited_sound m s name file Justfile values = tt
  sited_sound m s name file JustfileDirectory values = ends_sound P _
  sited_sound m s name file ModuleFile values = tt
  sited_sound m s name file ModuleDirectory values = ends_sound P _
  sited_sound m s name file ModulePath values = tt
  sited_sound m s name file NumJobs values = tt
  sited_sound m s name file Os values = tt
  sited_sound m s name file OsFamily values = tt
  sited_sound m s name file RecipeName values = ends_sound P _
  sited_sound m s name file SourceFile values = tt
  sited_sound m s name file SourceDirectory values = ends_sound P _
  sited_sound m s name file Canonicalize values = λ answer. ends_sound P _
  sited_sound m s name file Read values = λ answer. ends_sound P _
  sited_sound m s name file PathExists values = exists_sound name m (text_at values 0)
  sited_sound m s name file Which values = λ answer. ends_sound P _
  sited_sound m s name file Require values = λ answer. ends_sound P _
  sited_sound m s name file Shell values = shell_sound name m s values m.dry_run
  sited_sound m s name file _ values = environment_sound name m.dotenv values

  determined_sound : (name : List ℕ) (o : Option (Result Value (List ℕ))) (else_ : Dialogue Value) → Sound P Any else_ → Sound P Any (determined name o else_)
  determined_sound name (Some answer) else_ h = ends_sound P _
  determined_sound name None else_ h = h

  folder_sound : (name : List ℕ) (o : Option (MachineFact × List ℕ)) (else_ : Dialogue Value) → Sound P Any else_ → Sound P Any (told_folder name o else_)
  folder_sound name (Some (fact, words)) else_ h = λ answer. ends_sound P _
  folder_sound name None else_ h = h

  fact_sound : (name : List ℕ) (o : Option MachineFact) (else_ : Dialogue Value) → Sound P Any else_ → Sound P Any (told_by name o else_)
  fact_sound name (Some fact) else_ h = λ answer. ends_sound P _
  fact_sound name None else_ h = h

  pub builtin_sound : (m : Surroundings) (s : Standing) (name file : List ℕ) (f : Function) (values : List Value) → Sound P Any (builtin m s name file f values)
  builtin_sound m s name file f values =
      determined_sound name (pure m.lists f values) _ (folder_sound name (folder_of f) _ (fact_sound name (fact_of f) _ (sited_sound m s name file f values)))

  pub command_sound : (m : Surroundings) (s : Standing) (dry : Bool) (contents text : List ℕ) → Sound P Any (command_dialogue m s dry contents text)
  command_sound m s true contents text = tt
  command_sound m s false contents text = λ answer. ends_sound P _

  pub call_builtin_sound : (m : Surroundings) (s : Standing) (o : Option Function) (name file : List ℕ) (ds : List (Dialogue Value)) → AllSound P ds → Sound P Any (call_builtin m s o name file ds)
  call_builtin_sound m s None name file ds h = tt
  call_builtin_sound m s (Some f) name file ds h =
      then_sound P Any Any (arguments (takes_text f) name 0 ds) _ (arguments_sound P (takes_text f) name 0 ds h) (λ values _. builtin_sound m s name file f values)
