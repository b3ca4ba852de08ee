-- Laws of what runs do by fixed answers.
use Rattle.std.specs.Prelude.{◌≡◌, ◌++◌, ℕ, List, map, Option, Some, Contains}
use Rattle.just_host.specs.declared.entry.Entry.{Entry}
use Rattle.meaning_runs.specs.Failures.{Failure}
use Rattle.meaning_runs.specs.Invokes.{Invoke}
use Rattle.meaning_runs.specs.Laws.{events_of, end_by}
use Rattle.meaning_runs.specs.Meant.{is_event}
use Rattle.meaning_runs.specs.Tallies.{Tally}
use Rattle.std.specs.List.{AllByRecursion}
use Rattle.meaning_runs.specs.Told.{Answers}
use Rattle.meaning_rules.specs.Worlds.Given.{Overrides, Text, World}
use Rattle.meaning_evaluation.specs.Named.{RecipeName, VariableName, Call, ModuleRow, Definitions, paths_of}
use Rattle.meaning_evaluation.specs.Scopes.{Configuration}
use Rattle.just_meaning.specs.Agreement.{AgreesRun}
use Rattle.just_meaning.specs.Defining.{AreDefined}
use Rattle.just_meaning.specs.Menus.{menu_of}
use Rattle.just_meaning.specs.Opening.{IsReached, IsOpened}
use Rattle.just_meaning.specs.Meanings.{IsNaive}
use Rattle.just_meaning.specs.Runs.{Outcome, Runs, call_in, outcome_of, recipes_of}
use Rattle.just_meaning.specs.Steady.{AreSteady}
use Rattle.laws_agreement.specs.Agreement.Kinds.{FallsAlong}
use Rattle.laws_agreement.specs.Agreement.Opened.{AreListed, AreResolved}
use Rattle.laws_agreement.specs.Certain.Certain.{AreCertainVariables}
use Rattle.just_meaning.specs.Determined.{nothing}
use Rattle.just_meaning.specs.Known.{AreInOrder, BreaksNoRule, HaveRows, IsRead}
use Rattle.just_meaning.specs.Naively.{AreAllSteady, GoesNaively, HoldEverywhere}

-- What a run rests on, besides the answers: each name that is read stands for something, and recipes' dependencies have no cycle.
pub record AreMeaningful (c : Configuration) (defined : Definitions) (calls : List Call) : Type 0 where
  pub resolved : AreResolved defined (IsReached defined c.no_dependencies (recipes_of calls))
  pub certain : AreCertainVariables defined (IsOpened defined c.no_dependencies (recipes_of calls))
  pub listed : AreListed defined
  pub inside : (path : List (List ℕ)) (row : ModuleRow) → defined.inside path ≡ Some row → Contains (paths_of defined.modules) path
  pub tree : (x : VariableName) → IsOpened defined c.no_dependencies (recipes_of calls) x → Contains (paths_of defined.modules) x.path
  pub rank : RecipeName → ℕ
  pub falling : FallsAlong defined rank

-- A run that agrees with answers goes as they mean.
abbrev pub RunsGoNaively : Type 0 → Type 0
RunsGoNaively Rule = (f : Answers) (c : Configuration) (defined : Definitions) (calls : List Call) → AreMeaningful c defined calls
    → (old new : List Entry) (t : Tally) (outcome : Outcome Rule) (run : Runs c defined calls old nothing new t outcome) → AgreesRun f c defined run → GoesNaively f c defined calls old new outcome

-- What recipes depend on has a lower rank, in a world that breaks no rule.
abbrev pub DependenciesFall : Type 0
DependenciesFall = (w : World) (o : Overrides) → BreaksNoRule w o → IsRead w → (base working : Text) (defined : Definitions) → AreDefined w o base working defined → (rank : RecipeName → ℕ) × FallsAlong defined rank

-- In a world that breaks no rule, a run of what words invoke that agrees with answers goes as they mean.
abbrev pub InvokedGoNaively : Type 0 → Type 0
InvokedGoNaively Rule = (w : World) (o : Overrides) → BreaksNoRule w o → IsRead w → AreInOrder w
    → (base working : Text) (defined : Definitions) → AreDefined w o base working defined → HaveRows defined
    → (c : Configuration) (words : List Text) (invocations : List (RecipeName × List (List (List ℕ)))) → Invoke (menu_of defined) words invocations
    → (f : Answers) (old new : List Entry) (t : Tally) (outcome : Outcome Rule) (run : Runs c defined (map call_in invocations) old nothing new t outcome) → AgreesRun f c defined run
    → GoesNaively f c defined (map call_in invocations) old new outcome

-- A justfile that is steady by what is written has steady calls.
abbrev pub WrittenSteady : Type 0
WrittenSteady = (f : Answers) (c : Configuration) (defined : Definitions) (calls : List Call) → AreSteady defined → AreAllSteady f c defined calls

-- A run agrees with answers that hold each entry which it records.
abbrev pub RecordsAgree : Type 0 → Type 0
RecordsAgree Rule = (f : Answers) (c : Configuration) (defined : Definitions) (calls : List Call) (old new : List Entry) (t : Tally) (outcome : Outcome Rule) (run : Runs c defined calls old nothing new t outcome)
    → (piece : List Entry) → new ≡ old ++ piece → AllByRecursion (HoldEverywhere f defined) piece → AgreesRun f c defined run

-- In a world that breaks no rule, a run of what words invoke of a steady justfile that got past its opening hands over what the naive run does, by each set of answers that holds all that was recorded.
abbrev pub SteadyRunsAreNaive : Type 0 → Type 0
SteadyRunsAreNaive Rule = (w : World) (o : Overrides) → BreaksNoRule w o → IsRead w → AreInOrder w
    → (base working : Text) (defined : Definitions) → AreDefined w o base working defined → HaveRows defined → AreSteady defined
    → (c : Configuration) (words : List Text) (invocations : List (RecipeName × List (List (List ℕ)))) → Invoke (menu_of defined) words invocations
    → (f : Answers) (old new : List Entry) (t : Tally) (failure : Option Failure) → Runs {Rule = Rule} c defined (map call_in invocations) old nothing new t (outcome_of failure)
    → (piece : List Entry) → new ≡ old ++ piece → AllByRecursion (HoldEverywhere f defined) piece → IsNaive c defined f (map call_in invocations) (record { events = events_of is_event piece; end = end_by failure })
