-- Plans of runs are the text of naive runs.
use Rattle.std.specs.Prelude.{◌≡◌, List, [], map, Some}
use Rattle.std.specs.List.{AllByRecursion}
use Rattle.just_host.specs.Follows.{questions}
use Rattle.just_host.specs.declared.entry.Entry.{Entry}
use Rattle.just_host.specs.declared.entry.Entry.TheVariants.{Asked, Line, Script, Confirm, Show, Dotenv}
use Rattle.just_host.specs.declared.host.Confirmation.TheVariants.{Yes}
use Rattle.just_host.specs.declared.host.Status.TheVariants.{Code}
use Rattle.meaning_runs.specs.Invokes.{Invoke}
use Rattle.meaning_runs.specs.Tallies.{Tally}
use Rattle.meaning_runs.specs.Told.{Answers}
use Rattle.meaning_rules.specs.Worlds.Given.{Overrides, Text, World}
use Rattle.meaning_evaluation.specs.Named.{Call, Definitions}
use Rattle.meaning_evaluation.specs.Scopes.{Configuration}
use Rattle.just_meaning.specs.Agreement.{AgreesRun}
use Rattle.just_meaning.specs.Menus.{menu_of}
use Rattle.just_meaning.specs.Runs.{Outcome, Runs, call_in}
use Rattle.just_meaning.specs.Determined.{nothing}
use Rattle.laws_agreement.specs.Repeated.Repeated.{Invoked}
use Rattle.just_meaning.specs.Naively.{HoldEverywhere}
use Rattle.just_meaning.specs.Reach.{AgreeOnCalls}
use Rattle.just_meaning.specs.Clear.{IsClear}
use Rattle.run_plan.specs.Answered.{AreWellAnswered}
use Rattle.run_plan.specs.Plans.{plan_text}
use Rattle.just_meaning.specs.Planned.{WritesNaively}

-- ---- the answers of a plan

-- The answers give code 0 to a line and to a script, and yes to a prompt.
abbrev pub AnswersWell : Answers → Entry → Type 0
AnswersWell f (Asked question answer) = Unit {0}
AnswersWell f (Dotenv request answer) = Unit {0}
AnswersWell f (Line job status) = f.line job ≡ Some (Code 0)
AnswersWell f (Script job status) = f.script job ≡ Some (Code 0)
AnswersWell f (Confirm prompt answer) = f.confirm prompt ≡ Some Yes
AnswersWell f (Show text) = Unit {0}

-- Answers that hold what the call adds to the caller's record, and which answer code 0 and yes to each line, script and confirmation met, agree with the run that is planned.
abbrev pub PlansAgree : Type 0 → Type 0
PlansAgree Rule = (f : Answers) (c : Configuration) (defined : Definitions) (calls : List Call) (entries : List Entry) (t : Tally) (outcome : Outcome Rule) (run : Runs c defined calls [] nothing entries t outcome)
    → AreWellAnswered entries → AllByRecursion (HoldEverywhere f defined) (questions entries) → AllByRecursion (AnswersWell f) entries → AgreesRun f c defined run

-- and answers that agree with it do answer so
abbrev pub AgreeingAnswerWell : Type 0 → Type 0
AgreeingAnswerWell Rule = (f : Answers) (c : Configuration) (defined : Definitions) (calls : List Call) (entries : List Entry) (t : Tally) (outcome : Outcome Rule) (run : Runs c defined calls [] nothing entries t outcome)
    → AreWellAnswered entries → AgreesRun f c defined run → AllByRecursion (AnswersWell f) entries

-- ---- plans in worlds

-- In a world that breaks no rule, by all answers with which the planned run agrees, what is written is the text of the naive run.
abbrev pub PlansAreNaive : Type 0 → Type 0
PlansAreNaive Rule = (w : World) (o : Overrides) (base working : Text) (defined : Definitions) → IsClear w o base working defined
    → (c : Configuration) (words : List Text) (invocations : Invoked) → Invoke (menu_of defined) words invocations
    → (f : Answers) (entries : List Entry) (t : Tally) (outcome : Outcome Rule) (run : Runs c defined (map call_in invocations) [] nothing entries t outcome) → AgreesRun f c defined run
    → WritesNaively f c defined (map call_in invocations) (plan_text entries) outcome

-- and so it is of each input that breaks no rule, whose words invoke the same, and which agrees on what is reached
abbrev pub ReachedPlansAreNaive : Type 0 → Type 0
ReachedPlansAreNaive Rule = (w w' : World) (o o' : Overrides) (base working base' working' : Text) (defined other : Definitions) → IsClear w o base working defined → IsClear w' o' base' working' other
    → (c : Configuration) (words words' : List Text) (invocations : Invoked) → Invoke (menu_of defined) words invocations → Invoke (menu_of other) words' invocations → AgreeOnCalls c (map call_in invocations) defined other
    → (f : Answers) (entries : List Entry) (t : Tally) (outcome : Outcome Rule) (run : Runs c defined (map call_in invocations) [] nothing entries t outcome) → AgreesRun f c defined run
    → WritesNaively f c other (map call_in invocations) (plan_text entries) outcome
