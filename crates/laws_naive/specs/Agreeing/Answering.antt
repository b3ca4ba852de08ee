-- Which runs agree with some answers: those whose equal questions have equal answers.
use Rattle.std.specs.Prelude.{◌≡◌, ◌++◌, ◌∷◌, ℕ, List, [], map, Option, Some, None, Result, Contains}
use Rattle.std.specs.List.{AllByRecursion, flat_map}
use Rattle.just_host.specs.declared.entry.Entry.{Entry}
use Rattle.just_host.specs.declared.entry.Entry.TheVariants.{Asked, Line, Script, Confirm, Dotenv}
use Rattle.just_host.specs.declared.host.Answer.{Answer}
use Rattle.just_host.specs.declared.host.Confirmation.{Confirmation}
use Rattle.just_host.specs.declared.host.HostFault.{HostFault}
use Rattle.just_host.specs.declared.host.Question.{Question}
use Rattle.just_host.specs.declared.host.Status.{Status}
use Rattle.just_host.specs.declared.job.CommandJob.{CommandJob}
use Rattle.just_host.specs.declared.job.DotenvRequest.{DotenvRequest}
use Rattle.just_host.specs.declared.job.Pair.{Pair}
use Rattle.just_host.specs.declared.job.ScriptJob.{ScriptJob}
use Rattle.meaning_runs.specs.Invokes.{Invoke}
use Rattle.meaning_runs.specs.Tallies.{Tally}
use Rattle.meaning_runs.specs.Told.{Answers, holds, of_variables, taken}
use Rattle.meaning_rules.specs.Worlds.Given.{Overrides, Text, World}
use Rattle.meaning_evaluation.specs.Named.{Call, Definitions}
use Rattle.meaning_evaluation.specs.Scopes.{Configuration}
use Rattle.just_meaning.specs.Agreement.{AgreesRun}
use Rattle.just_meaning.specs.Menus.{menu_of}
use Rattle.just_meaning.specs.Runs.{Outcome, Runs, call_in}
use Rattle.just_meaning.specs.Determined.{nothing}
use Rattle.laws_agreement.specs.Repeated.Repeated.{Invoked}
use Rattle.just_meaning.specs.Naively.{GoesNaively}
use Rattle.just_meaning.specs.Clear.{IsClear}

-- An entry with its tag: told to the variables of a module, which exports these names, or to a recipe.
pub record Tagged : Type 0 where
  pub names : Option (List (List ℕ))
  pub entry : Entry

-- what answers a question of the tag
abbrev pub asked_by : Answers → Option (List (List ℕ)) → Question → Option Answer
asked_by f None = f.recipe
asked_by f (Some names) = of_variables f names

-- the answers hold the entry, so taken
abbrev pub HoldsTagged : Answers → Tagged → Type 0
HoldsTagged f x = holds f (asked_by f x.names) x.entry

-- ---- questions with their answers

abbrev pub of_variable : Option (List (List ℕ)) → Entry → List (Question × Answer)
of_variable (Some names) (Asked question answer) = (taken names question, answer) ∷ []
of_variable names e = []

abbrev pub of_recipe : Option (List (List ℕ)) → Entry → List (Question × Answer)
of_recipe None (Asked question answer) = (question, answer) ∷ []
of_recipe names e = []

abbrev pub of_dotenv : Entry → List (DotenvRequest × Result (List Pair) HostFault)
of_dotenv (Dotenv request answer) = (request, answer) ∷ []
of_dotenv e = []

abbrev pub of_line : Entry → List (CommandJob × Status)
of_line (Line job status) = (job, status) ∷ []
of_line e = []

abbrev pub of_script : Entry → List (ScriptJob × Status)
of_script (Script job status) = (job, status) ∷ []
of_script e = []

abbrev pub of_confirm : Entry → List (List ℕ × Confirmation)
of_confirm (Confirm prompt answer) = (prompt, answer) ∷ []
of_confirm e = []

-- equal questions have equal answers
abbrev pub AnswerOnce : {Q A : Type 0} → List (Q × A) → Type 0
AnswerOnce {Q = Q} {A = A} told = (question : Q) (a b : A) → Contains told (question, a) → Contains told (question, b) → a ≡ b

-- Equal questions of one tag, so taken, have equal answers: of variables, of recipes, requests for files of variables, commands, scripts and prompts.
pub record AreAnsweredOnce (xs : List Tagged) : Type 0 where
  pub variables : AnswerOnce (flat_map (λ x. of_variable x.names x.entry) xs)
  pub recipes : AnswerOnce (flat_map (λ x. of_recipe x.names x.entry) xs)
  pub dotenvs : AnswerOnce (flat_map (λ x. of_dotenv x.entry) xs)
  pub lines : AnswerOnce (flat_map (λ x. of_line x.entry) xs)
  pub scripts : AnswerOnce (flat_map (λ x. of_script x.entry) xs)
  pub confirmations : AnswerOnce (flat_map (λ x. of_confirm x.entry) xs)

-- there are answers that hold each entry, where equal questions have equal answers
abbrev pub AnswersAreThere : Type 0
AnswersAreThere = (xs : List Tagged) → AreAnsweredOnce xs → (f : Answers) × AllByRecursion (HoldsTagged f) xs

-- and only there
abbrev pub AnswersAreOne : Type 0
AnswersAreOne = (f : Answers) (xs : List Tagged) → AllByRecursion (HoldsTagged f) xs → AreAnsweredOnce xs

-- ---- runs

-- What a run records, with the tags: it agrees with just those answers that hold each entry.
pub record IsTagged {Rule : Type 0} (c : Configuration) (defined : Definitions) {calls : List Call} {old new : List Entry} {t t' : Tally} {outcome : Outcome Rule} (run : Runs c defined calls old t new t' outcome) : Type 0 where
  pub told : List Tagged
  pub entries : new ≡ old ++ map (λ x. x.entry) told
  pub agrees : (f : Answers) → AllByRecursion (HoldsTagged f) told → AgreesRun f c defined run
  pub holds : (f : Answers) → AgreesRun f c defined run → AllByRecursion (HoldsTagged f) told

abbrev pub RunsAreTagged : Type 0 → Type 0
RunsAreTagged Rule = (c : Configuration) (defined : Definitions) (calls : List Call) (old new : List Entry) (t t' : Tally) (outcome : Outcome Rule) (run : Runs c defined calls old t new t' outcome) → IsTagged c defined run

-- In a world that breaks no rule, a run whose equal questions have equal answers goes naively by answers that it agrees with.
abbrev pub AnsweredOnceGoNaively : Type 0 → Type 0
AnsweredOnceGoNaively Rule = (w : World) (o : Overrides) (base working : Text) (defined : Definitions) → IsClear w o base working defined
    → (c : Configuration) (words : List Text) (invocations : Invoked) → Invoke (menu_of defined) words invocations
    → (old new : List Entry) (t : Tally) (outcome : Outcome Rule) (run : Runs c defined (map call_in invocations) old nothing new t outcome) → (tagged : IsTagged c defined run) → AreAnsweredOnce tagged.told
    → (f : Answers) × AgreesRun f c defined run × GoesNaively f c defined (map call_in invocations) old new outcome
