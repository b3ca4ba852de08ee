-- Commands and built-in functions at two places that are the same have dialogues that are alike.
use Rattle.std.proofs.Common.{◌≡◌, ℕ, List, [], ◌∷◌, map, Bool, true, false, Option, Some, None, Result, Ok, Err, refl, ap, ap₂, subst}
use Rattle.just_host.specs.declared.host.HostFault.{HostFault}
use Rattle.just_host.specs.declared.host.MachineFact.{MachineFact}
use Rattle.just_host.specs.declared.host.Question.TheVariants.{Command, Read as ReadOf, Exists, Canonicalize as CanonicalizeOf, Which as WhichOf}
use Rattle.just_host.specs.declared.job.CommandJob.{CommandJob}
use Rattle.just_host.specs.declared.job.Pair.{Pair}
use Rattle.just_value.specs.Paths.{join, parent}
use Rattle.evaluate_functions.specs.Arguments.{takes_text}
use Rattle.evaluate_functions.specs.Functions.{first_text, pure, text_at}
use Rattle.evaluate_functions.specs.Values.{boolean}
use Rattle.evaluate_functions.specs.declared.function.Function.{Function}
use Rattle.evaluate_functions.specs.declared.function.Function.TheVariants.{Arch, Canonicalize, InvocationDirectory, InvocationDirectoryNative, IsDependency, JustVersion, Justfile, JustfileDirectory, ModuleDirectory, ModuleFile, ModulePath, NumJobs, Os, OsFamily, PathExists, Read, RecipeName, Require, Shell, SourceDirectory, SourceFile, Which}
use Rattle.evaluate_context.specs.Environment.{last_of}
use Rattle.evaluate_context.specs.Surroundings.{Surroundings, Standing, job_of}
use Rattle.evaluate_builtins.specs.Builtins.{builtin, determined, environment_dialogue, exists_dialogue, first_variable, folder_told, in_files, looked_up, number_told, recipe_told, shell_dialogue, sited, told_by, told_folder, truth_told}
use Rattle.evaluate_builtins.specs.Facts.{fact_of, folder_of, os_name}
use Rattle.meaning_dialogues.specs.Answers.{optional_in, truth_in}
use Rattle.meaning_dialogues.specs.Calls.{arguments}
use Rattle.meaning_dialogues.specs.Dialogue.{Dialogue, Lookup, Variable}
use Rattle.meaning_dialogues.specs.Evaluation.{Value}
use Rattle.meaning_evaluation.specs.Stages.Stages.{call_builtin, command_dialogue}
use Rattle.laws_evaluation.specs.Terms.Alike.{Alike, AreAlike}
use Rattle.laws_evaluation.proofs.Terms.Alike.{arguments_alike, then_alike}
use Rattle.laws_runs.specs.ByName.Places.{SameModule, SamePlace}

-- a job of these parts
abbrev job_with : List ℕ → List (List ℕ) → List (List ℕ) → List Pair → List (List ℕ) → List ℕ → Bool → CommandJob
job_with command positional shell pairs lacking folder quiet = record { shell = shell; command = command; positional = positional; pairs = pairs; removed = lacking; folder = Some folder; quiet = quiet }

same_parts : (command : List ℕ) (positional shell shell' : List (List ℕ)) (pairs pairs' : List Pair) (lacking lacking' : List (List ℕ)) (folder folder' : List ℕ) (quiet quiet' : Bool)
    → shell ≡ shell' → pairs ≡ pairs' → lacking ≡ lacking' → folder ≡ folder' → quiet ≡ quiet' → job_with command positional shell pairs lacking folder quiet ≡ job_with command positional shell' pairs' lacking' folder' quiet'
same_parts command positional shell shell' pairs pairs' lacking lacking' folder folder' quiet quiet' a b c d e = rw (a, b, c, d, e) refl

module _ (C : Lookup → Variable → Variable → Type 0) (m n : Surroundings) (same : SameModule m n) where
  -- a command is the same job at both places
  pub same_job : (s t : Standing) → SamePlace m n s t → (command : List ℕ) (positional : List (List ℕ)) → job_of m s command positional ≡ job_of n t command positional
  same_job s t at command positional = same_parts command positional _ _ _ _ _ _ _ _ _ _ same.shell at.pairs at.lacking same.folder same.quiet

  at_command : (s t : Standing) → SamePlace m n s t → (dry run : Bool) → dry ≡ run → (contents text : List ℕ) → Alike C (command_dialogue m s dry contents text) (command_dialogue n t run contents text)
  at_command s t at true true e contents text = refl
  at_command s t at false false e contents text = (ap Command (same_job s t at contents []), λ answer. refl)
  at_command s t at true false e contents text = absurd (cc)
  at_command s t at false true e contents text = absurd (cc)

  -- a command between backticks
  pub command_alike : (s t : Standing) → SamePlace m n s t → (contents text : List ℕ) → Alike C (command_dialogue m s m.dry_run contents text) (command_dialogue n t n.dry_run contents text)
  command_alike s t at contents text = at_command s t at m.dry_run n.dry_run same.dry_run contents text

  shell_alike : (s t : Standing) → SamePlace m n s t → (name : List ℕ) (values : List Value) (dry run : Bool) → dry ≡ run → Alike C (shell_dialogue name m s values dry) (shell_dialogue name n t values run)
  shell_alike s t at name values true true e = refl
  shell_alike s t at name values false false e = (ap Command (same_job s t at (text_at values 0) (map first_text values)), λ answer. refl)
  shell_alike s t at name values true false e = absurd (cc)
  shell_alike s t at name values false true e = absurd (cc)

  exists_alike : (name path : List ℕ) → Alike C (exists_dialogue name m path) (exists_dialogue name n path)
  exists_alike name [] = ap (λ lists. Ok (boolean lists false)) same.lists
  exists_alike name (b ∷ bs) = (ap (λ folder. Exists (join folder (b ∷ bs))) same.folder, λ answer. ap (λ lists. truth_told name lists (truth_in answer)) same.lists)

  -- ---- variables of files, and else of the environment

  looked_alike : (name variable : List ℕ) (d e : Dialogue Value) (r : Result (Option (List ℕ)) HostFault) → Alike C d e → Alike C (looked_up name variable d r) (looked_up name variable e r)
  looked_alike name variable d e (Ok (Some text)) h = refl
  looked_alike name variable d e (Ok None) h = h
  looked_alike name variable d e (Err fault) h = refl

  files_alike : (o p : Option (List ℕ)) (d e : Dialogue Value) → o ≡ p → Alike C d e → Alike C (in_files o d) (in_files p e)
  files_alike (Some x) (Some y) d e is h = let same_text : x ≡ y = cc in ap (λ text. Ok (text ∷ [])) same_text
  files_alike None None d e is h = h
  files_alike (Some x) None d e is h = absurd (cc)
  files_alike None (Some y) d e is h = absurd (cc)

  first_alike : (name : List ℕ) (d e : Dialogue Value) (variables : List (List ℕ)) → Alike C d e → Alike C (first_variable name m.dotenv d variables) (first_variable name n.dotenv e variables)
  first_alike name d e [] h = h
  first_alike name d e (v ∷ vs) h =
      files_alike (last_of v m.dotenv) (last_of v n.dotenv) _ _ (same.dotenv v)
      (refl, λ answer. looked_alike name v (first_variable name m.dotenv d vs) (first_variable name n.dotenv e vs) (optional_in answer) (first_alike name d e vs h))

  environment_alike : (name : List ℕ) (values : List Value) → Alike C (environment_dialogue name m.dotenv values) (environment_dialogue name n.dotenv values)
  environment_alike name [] = refl
  environment_alike name (vs ∷ []) = first_alike name _ _ vs refl
  environment_alike name (vs ∷ default ∷ others) = first_alike name _ _ vs refl

  -- ---- functions

  sited_alike : (s t : Standing) → SamePlace m n s t → (name file : List ℕ) (f : Function) (values : List Value) → Alike C (sited m s name file f values) (sited n t name file f values)
  sited_alike s t at name file Arch values = ap (λ text. Ok (text ∷ [])) same.arch
  sited_alike s t at name file InvocationDirectory values = ap (λ text. Ok (text ∷ [])) same.invocation_directory
  sited_alike s t at name file InvocationDirectoryNative values = ap (λ text. Ok (text ∷ [])) same.invocation_directory
  sited_alike s t at name file IsDependency values = ap₂ (λ lists flag. Ok (boolean lists flag)) same.lists at.is_dependency
  sited_alike s t at name file JustVersion values = ap (λ text. Ok (text ∷ [])) same.version
  sited_alike s t at name file Justfile values = ap₂ (λ base path. Ok (join base path ∷ [])) same.base same.root
  sited_alike s t at name file JustfileDirectory values = ap₂ (λ base path. folder_told (join base path) (parent (join base path))) same.base same.root
  sited_alike s t at name file ModuleFile values = ap₂ (λ base path. Ok (join base path ∷ [])) same.base same.source
  sited_alike s t at name file ModuleDirectory values = ap₂ (λ base path. folder_told (join base path) (parent (join base path))) same.base same.source
  sited_alike s t at name file ModulePath values = ap (λ text. Ok (text ∷ [])) same.module_path
  sited_alike s t at name file NumJobs values = ap (λ jobs. Ok (number_told jobs)) same.jobs
  sited_alike s t at name file Os values = ap (λ os. Ok (os_name os ∷ [])) same.os
  sited_alike s t at name file OsFamily values = refl
  sited_alike s t at name file RecipeName values = ap (λ recipe. recipe_told name recipe) at.recipe
  sited_alike s t at name file SourceFile values = ap (λ base. Ok (join base file ∷ [])) same.base
  sited_alike s t at name file SourceDirectory values = ap (λ base. folder_told (join base file) (parent (join base file))) same.base
  sited_alike s t at name file Canonicalize values = (ap (λ folder. CanonicalizeOf (join folder (text_at values 0))) same.folder, λ answer. refl)
  sited_alike s t at name file Read values = (ap (λ folder. ReadOf (join folder (text_at values 0))) same.folder, λ answer. refl)
  sited_alike s t at name file PathExists values = exists_alike name (text_at values 0)
  sited_alike s t at name file Which values = (ap (λ folder. WhichOf (text_at values 0) folder) same.folder, λ answer. refl)
  sited_alike s t at name file Require values = (ap (λ folder. WhichOf (text_at values 0) folder) same.folder, λ answer. refl)
  sited_alike s t at name file Shell values = shell_alike s t at name values m.dry_run n.dry_run same.dry_run
  sited_alike s t at name file _ values = environment_alike name values

  determined_alike : (name : List ℕ) (o p : Option (Result Value (List ℕ))) (d e : Dialogue Value) → o ≡ p → Alike C d e → Alike C (determined name o d) (determined name p e)
  determined_alike name o p d e is h = subst (λ q. Alike C (determined name o d) (determined name q e)) is (at_one o)
    where
      at_one : (q : Option (Result Value (List ℕ))) → Alike C (determined name q d) (determined name q e)
      at_one (Some answer) = refl
      at_one None = h

  folder_alike : (name : List ℕ) (o : Option (MachineFact × List ℕ)) (d e : Dialogue Value) → Alike C d e → Alike C (told_folder name o d) (told_folder name o e)
  folder_alike name (Some (fact, words)) d e h = (refl, λ answer. refl)
  folder_alike name None d e h = h

  fact_alike : (name : List ℕ) (o : Option MachineFact) (d e : Dialogue Value) → Alike C d e → Alike C (told_by name o d) (told_by name o e)
  fact_alike name (Some fact) d e h = (refl, λ answer. refl)
  fact_alike name None d e h = h

  function_alike : (s t : Standing) → SamePlace m n s t → (name file : List ℕ) (f : Function) (values : List Value) → Alike C (builtin m s name file f values) (builtin n t name file f values)
  function_alike s t at name file f values =
      determined_alike name (pure m.lists f values) (pure n.lists f values) _ _ (ap (λ lists. pure lists f values) same.lists)
      (folder_alike name (folder_of f) _ _ (fact_alike name (fact_of f) _ _ (sited_alike s t at name file f values)))

  -- a call of a built-in function whose arguments are alike
  pub builtin_alike : (s t : Standing) → SamePlace m n s t → (o : Option Function) (name file : List ℕ) (ds es : List (Dialogue Value)) → AreAlike C ds es → Alike C (call_builtin m s o name file ds) (call_builtin n t o name file es)
  builtin_alike s t at None name file ds es h = refl
  builtin_alike s t at (Some f) name file ds es h =
      then_alike C (arguments (takes_text f) name 0 ds) (arguments (takes_text f) name 0 es) _ _ (arguments_alike C (takes_text f) name 0 ds es h) (λ values. function_alike s t at name file f values)
