-- The dialogues of functions by the tables.
use Rattle.std.proofs.Common.{◌≡◌, ℕ, Bool, List, Option, Some, None, Result, refl, sym, ap, ◌∙◌, option_map, subst}
use Rattle.just_host.specs.declared.entry.Entry.{Entry}
use Rattle.evaluate_context.specs.Refusals.{seen}
use Rattle.evaluate_context.specs.Surroundings.{Surroundings, Standing}
use Rattle.evaluate_context.specs.declared.error.Error.{Error}
use Rattle.evaluate_functions.specs.Functions.{AnswersAny, pure}
use Rattle.evaluate_functions.specs.declared.fault.FunctionFault.{FunctionFault}
use Rattle.evaluate_functions.specs.declared.function.Function.{Function}
use Rattle.evaluate_functions.specs.declared.function.Function.TheVariants.{Append, Arch, Canonicalize, CacheDirectory, ConfigDirectory, ConfigLocalDirectory, DataDirectory, DataLocalDirectory, Env, EnvVar, EnvVarOrDefault, ExecutableDirectory, HomeDirectory, InvocationDirectory, InvocationDirectoryNative, IsDependency, JustExecutable, JustPid, JustVersion, Justfile, JustfileDirectory, ModuleDirectory, ModuleFile, ModulePath, NumCpus, NumJobs, Os, OsFamily, PathExists, Read, RecipeName, Require, RuntimeDirectory, Shell, SourceDirectory, SourceFile, Which}
use Rattle.meaning_dialogues.specs.Dialogue.{Dialogue, Ends, Evaluates, Reading}
use Rattle.meaning_dialogues.specs.Evaluation.{Value}
use Rattle.meaning_dialogues.specs.Faults.{Fault}
use Rattle.meaning_dialogues.proofs.Dialogues.{ends}
use Rattle.evaluate_builtins.specs.Builtins.{builtin, determined, says, sited, told_by, told_folder}
use Rattle.evaluate_builtins.specs.Facts.{fact_of, folder_of}
use Rattle.evaluate_builtins.specs.Named.{named}
use Rattle.evaluate_builtins.specs.Places.{SaidAny, said_at}
use Rattle.evaluate_builtins.specs.Requests.{LeadsAny, asked_of, request_of, requested}
use Rattle.evaluate_builtins.specs.declared.call.Request.{Request}
use Rattle.evaluate_builtins.proofs.Named.{answer_goes, answer_named}

-- a dialogue that may be there, or else another
abbrev or_else : Option (Dialogue Value) → Dialogue Value → Dialogue Value
or_else (Some dialogue) other = dialogue
or_else None other = other

module _ (around : Surroundings) (standing : Standing) (name file : List ℕ) where
  -- what a function asks or says that its arguments don't determine
  abbrev pub undetermined : Function → List Value → Dialogue Value
  undetermined function values = told_folder name (folder_of function) (told_by name (fact_of function) (sited around standing name file function values))

  said_first : (function : Function) (values : List Value) → undetermined function values ≡ or_else (option_map (λ said. Ends said) (said_at around standing name file function)) (undetermined function values)
  said_first Arch values = refl
  said_first InvocationDirectory values = refl
  said_first InvocationDirectoryNative values = refl
  said_first IsDependency values = refl
  said_first JustVersion values = refl
  said_first Justfile values = refl
  said_first JustfileDirectory values = refl
  said_first ModuleFile values = refl
  said_first ModuleDirectory values = refl
  said_first ModulePath values = refl
  said_first NumJobs values = refl
  said_first Os values = refl
  said_first OsFamily values = refl
  said_first RecipeName values = refl
  said_first SourceFile values = refl
  said_first SourceDirectory values = refl
  said_first _ values = refl

  asked_first : (function : Function) (values : List Value) → undetermined function values ≡ or_else (asked_of around standing name function values) (undetermined function values)
  asked_first CacheDirectory values = refl
  asked_first ConfigDirectory values = refl
  asked_first ConfigLocalDirectory values = refl
  asked_first DataDirectory values = refl
  asked_first DataLocalDirectory values = refl
  asked_first ExecutableDirectory values = refl
  asked_first HomeDirectory values = refl
  asked_first RuntimeDirectory values = refl
  asked_first JustExecutable values = refl
  asked_first JustPid values = refl
  asked_first NumCpus values = refl
  asked_first Canonicalize values = refl
  asked_first Env values = refl
  asked_first EnvVar values = refl
  asked_first EnvVarOrDefault values = refl
  asked_first PathExists values = refl
  asked_first Read values = refl
  asked_first Require values = refl
  asked_first Shell values = refl
  asked_first Which values = refl
  asked_first _ values = refl

  -- each function is in one of the tables
  complete : (lists : Bool) (function : Function) (values : List Value) → pure lists function values ≡ None → said_at around standing name file function ≡ None → asked_of around standing name function values ≡ None → ⊥
  complete lists Append values p s a = absurd (cc)
  complete lists Arch values p s a = absurd (cc)
  complete lists _ values p s a = absurd (cc)

  answered_at : {reading : Reading} {old : List Entry} (function : Function) (values : List Value) (o : Option (Result Value (List ℕ))) (given : Result Value FunctionFault) → AnswersAny o (Some given) → o ≡ pure around.lists function values → Evaluates reading (builtin around standing name file function values) old old (named name given)
  answered_at function values (Some answer) given h e = rw (← e) (answer_goes name (says name answer) (answer_named name answer given h))
  answered_at function values None given h e = absurd h

  pub pure_goes : {reading : Reading} {old : List Entry} (function : Function) (values : List Value) (given : Result Value FunctionFault) → AnswersAny (pure around.lists function values) (Some given) → Evaluates reading (builtin around standing name file function values) old old (named name given)
  pure_goes function values given h = answered_at function values (pure around.lists function values) given h refl

  undetermined_is : (function : Function) (values : List Value) → pure around.lists function values ≡ None → builtin around standing name file function values ≡ undetermined function values
  undetermined_is function values p = ap (λ o. determined name o (undetermined function values)) p

  none_answered : (o : Option (Result Value (List ℕ))) → AnswersAny o None → o ≡ None
  none_answered (Some answer) h = absurd h
  none_answered None h = refl

  none_said : (o : Option (Result Value Fault)) → SaidAny o None → o ≡ None
  none_said (Some said) h = absurd h
  none_said None h = refl

  said_from : {reading : Reading} {old : List Entry} (function : Function) (values : List Value) (o : Option (Result Value Fault)) (result : Result Value Error) → SaidAny o (Some result) → said_at around standing name file function ≡ o → Evaluates reading (undetermined function values) old old (seen result)
  said_from {reading = reading} {old = old} function values (Some said) result h e =
      subst (λ d. Evaluates reading d old old (seen result)) (sym (said_first function values ∙ ap (λ o. or_else (option_map (λ said. Ends said) o) (undetermined function values)) e)) (ends said h.is)
  said_from function values None result h e = absurd h

  pub said_goes : {reading : Reading} {old : List Entry} (function : Function) (values : List Value) (result : Result Value Error) → AnswersAny (pure around.lists function values) None → SaidAny (said_at around standing name file function) (Some result) → Evaluates reading (builtin around standing name file function values) old old (seen result)
  said_goes {reading = reading} {old = old} function values result p h =
      subst (λ d. Evaluates reading d old old (seen result)) (sym (undetermined_is function values (none_answered (pure around.lists function values) p))) (said_from function values (said_at around standing name file function) result h refl)

  asked_from : {reading : Reading} {old new : List Entry} (function : Function) (values : List Value) (o : Option (Dialogue Value)) (given : Result Value FunctionFault) → LeadsAny name reading o old new (Some given) → asked_of around standing name function values ≡ o → Evaluates reading (undetermined function values) old new (named name given)
  asked_from {reading = reading} {old = old} {new = new} function values (Some dialogue) given h e =
      subst (λ d. Evaluates reading d old new (named name given)) (sym (asked_first function values ∙ ap (λ o. or_else o (undetermined function values)) e)) h
  asked_from function values None given h e = absurd h

  pub asked_goes : {reading : Reading} {old new : List Entry} (function : Function) (values : List Value) (given : Result Value FunctionFault) → AnswersAny (pure around.lists function values) None → LeadsAny name reading (asked_of around standing name function values) old new (Some given) → Evaluates reading (builtin around standing name file function values) old new (named name given)
  asked_goes {reading = reading} {old = old} {new = new} function values given p h =
      subst (λ d. Evaluates reading d old new (named name given)) (sym (undetermined_is function values (none_answered (pure around.lists function values) p))) (asked_from function values (asked_of around standing name function values) given h refl)

  none_asked : (reading : Reading) (old new : List Entry) (o : Option (Dialogue Value)) → LeadsAny name reading o old new None → o ≡ None
  none_asked reading old new (Some dialogue) h = absurd h
  none_asked reading old new None h = refl

  -- there is no function that no table has
  pub never_unanswered : {A : Type 0} (reading : Reading) (old new : List Entry) (function : Function) (values : List Value) → AnswersAny (pure around.lists function values) None → SaidAny (said_at around standing name file function) None → LeadsAny name reading (asked_of around standing name function values) old new None → A
  never_unanswered reading old new function values p s a =
      absurd (complete around.lists function values (none_answered (pure around.lists function values) p) (none_said (said_at around standing name file function) s) (none_asked reading old new (asked_of around standing name function values) a))

-- a request is asked where the function tells no fact of the machine
pub request_leads : (around : Surroundings) (standing : Standing) (name : List ℕ) (function : Function) (values : List Value) (request : Request) (reading : Reading) (old new : List Entry) (given : Result Value FunctionFault)
    → None ≡ folder_of function → None ≡ fact_of function → Some request ≡ request_of function → Evaluates reading (requested around standing name request values) old new (named name given) → LeadsAny name reading (asked_of around standing name function values) old new (Some given)
request_leads around standing name function values request reading old new given f k r h = rw (← f, ← k, ← r) h
