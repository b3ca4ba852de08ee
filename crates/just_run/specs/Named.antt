-- A run of the calls that words invoke, by the paths and names of their recipes.
use Rattle.std.specs.Prelude.{◌≡◌, ◌≢◌, ◌++◌, ℕ, Bool, true, false, List, [], map, Option, Result, Ok, Err}
use Rattle.just_text.specs.Tokens.{lexeme}
use Rattle.just_host.specs.Follows.{questions}
use Rattle.just_host.specs.Out.{IsPartOf, Sent}
use Rattle.just_host.specs.Record.{Record}
use Rattle.just_host.specs.declared.entry.Entry.{Entry}
use Rattle.evaluate_context.specs.Refusals.{fault_of}
use Rattle.meaning_dialogues.specs.Faults.{memory}
use Rattle.meaning_evaluation.specs.Requests.{dotenv, opening}
use Rattle.meaning_runs.specs.Failures.{by_code, by_signal, evaluation, next_by, not_confirmed, not_started}
use Rattle.tree_items.specs.Lines.{no_sigils}
use Rattle.meaning_runs.specs.Invokes.{Invoke}
use Rattle.meaning_runs.specs.Tallies.{Tally}
use Rattle.meaning_runs.specs.Told.{Answers}
use Rattle.meaning_evaluation.specs.Named.{Call, Definitions, RecipeName}
use Rattle.meaning_evaluation.specs.Scopes.{Configuration}
use Rattle.meaning_evaluation.specs.Calling.{without_next}
use Rattle.just_meaning.specs.Actions.{ActionEnd, CommandGoes, EvaluateGoes}
use Rattle.just_meaning.specs.Actions as actions
use Rattle.just_meaning.specs.Agreement.{AgreesRun}
use Rattle.just_meaning.specs.Begun.{BeginsCommand, BeginsEvaluate, BeginsRun}
use Rattle.just_meaning.specs.Menus.{menu_of}
use Rattle.just_meaning.specs.Runs.{Runs, call_in}
use Rattle.just_meaning.specs.Runs as named
use Rattle.just_meaning.specs.Certain.{IsCertainActionEnd, IsCertainFailure, IsCertainOpeningFailure}
use Rattle.just_meaning.specs.Determined.{GoAlike, nothing}
use Rattle.just_meaning.specs.Naively.{GoesNaively}
use Rattle.just_meaning.specs.Planned.{WritesNaively}
use Rattle.just_meaning.specs.Reach.{AgreeOnCalls}
use Rattle.just_meaning.specs.Clear.{IsClear}
use Rattle.meaning_rules.specs.Worlds.Given.{Overrides, Text, World}
use Rattle.run_plan.specs.Answered.{AreWellAnswered}
use Rattle.run_plan.specs.Plans.{plan_text}
use Rattle.run_tasks.specs.declared.action.Action.{Action}
use Rattle.run_tasks.specs.declared.action.Action.TheVariants as asked
use Rattle.just_run.specs.Plans.{IsWrittenPlan}
use Rattle.meaning_rules.specs.Worlds.Given.{Given, Text, World}
use Rattle.meaning_texts.specs.Listings.{IsListing}
use Rattle.meaning_texts.specs.Texts.{IsAnswer, IsDump}
use Rattle.just_run.specs.Texts.{IsFormatted}
use Rattle.just_run.specs.Writes.{Writes}
use Rattle.just_run.specs.declared.fault.Fault.{Fault}
use Rattle.just_run.specs.declared.fault.Fault.TheVariants as faults
use Rattle.just_run.specs.declared.outcome.Outcome.{Outcome}
use Rattle.just_run.specs.declared.outcome.Outcome.TheVariants as outcomes

-- what a call leaves: whether memory ran out for the record, the record before and after, and what was written before and after
pub record Left : Type 0 where
  pub exhausted : Bool
  pub before : List Entry
  pub behind : List Entry
  pub sent : Sent
  pub sends : Sent

abbrev pub left_of : {H : Type 0} → Record H → List ℕ → ℕ → Record H → List ℕ → ℕ → Left
left_of old written failed new writes fails = record {
  exhausted = new.exhausted;
  before = old.entries;
  behind = new.entries;
  sent = record { written = written; failed = failed };
  sends = record { written = writes; failed = fails };
}

-- how a run ended, without rules
abbrev pub End : Type 0
End = named.Outcome ⊥

-- it ends with no evaluation of what a justfile doesn't meet whose names are known, which is `internal`
abbrev pub IsCertainEnd : End → Type 0
IsCertainEnd (named.broken rule) = Unit {0}
IsCertainEnd (named.broken_word rule) = Unit {0}
IsCertainEnd named.listed = Unit {0}
IsCertainEnd named.unwritten = Unit {0}
IsCertainEnd (named.not_opened failure) = IsCertainOpeningFailure failure
IsCertainEnd (named.failed failure) = IsCertainFailure failure
IsCertainEnd named.ran = Unit {0}

-- P holds of how a run ended that is answered so, where memory sufficed
abbrev pub IfRan : Bool → Result Outcome Fault → (End → Type 0) → Type 0
IfRan exhausted (Ok outcomes.Ran) P = exhausted ≡ false → P named.ran
IfRan exhausted (Ok outcomes.Planned) P = ⊥
IfRan exhausted (Ok outcomes.Evaluated) P = ⊥
IfRan exhausted (Ok outcomes.Dumped) P = ⊥
IfRan exhausted (Ok (outcomes.Formatted path text)) P = ⊥
IfRan exhausted (Ok outcomes.Listed) P = ⊥
IfRan exhausted (Err faults.OutOfMemory) P = Unit {0}
IfRan exhausted (Err (faults.NoRootForWord word)) P = ⊥
IfRan exhausted (Err (faults.Justfile error)) P = ⊥
IfRan exhausted (Err (faults.Words fault)) P = ⊥
IfRan exhausted (Err (faults.Dotenv fault)) P = P (named.not_opened (dotenv fault))
IfRan exhausted (Err (faults.Opening error)) P = fault_of error ≢ memory → P (named.not_opened (opening (fault_of error)))
IfRan exhausted (Err (faults.Evaluation error)) P = exhausted ≡ false → fault_of error ≢ memory → P (named.failed (evaluation (fault_of error)))
IfRan exhausted (Err (faults.Code recipe code is_silent)) P = exhausted ≡ false → P (named.failed (by_code (lexeme recipe.token) code))
IfRan exhausted (Err (faults.Signal recipe signal is_silent)) P = exhausted ≡ false → P (named.failed (by_signal (lexeme recipe.token) signal))
IfRan exhausted (Err (faults.CouldNotStart recipe)) P = exhausted ≡ false → P (named.failed (not_started (lexeme recipe.token)))
IfRan exhausted (Err (faults.NotConfirmed recipe)) P = exhausted ≡ false → P (named.failed (not_confirmed (lexeme recipe.token)))
IfRan exhausted (Err (faults.Command fault)) P = ⊥
IfRan exhausted (Err faults.Write) P = ⊥
IfRan exhausted (Err (faults.NotPrintable path)) P = ⊥

-- P holds of how modules opened and values were told, where a beginning of the text may be written, and memory sufficed
abbrev pub IfTold : Left → Result Outcome Fault → (ActionEnd → Type 0) → Type 0
IfTold left (Ok outcomes.Ran) P = ⊥
IfTold left (Ok outcomes.Planned) P = ⊥
IfTold left (Ok outcomes.Evaluated) P = (text : List ℕ) × (left.sends.written ≡ left.sent.written ++ text) × P (actions.written text)
IfTold left (Ok outcomes.Dumped) P = ⊥
IfTold left (Ok (outcomes.Formatted path text)) P = ⊥
IfTold left (Ok outcomes.Listed) P = ⊥
IfTold left (Err faults.OutOfMemory) P = Unit {0}
IfTold left (Err (faults.NoRootForWord word)) P = ⊥
IfTold left (Err (faults.Justfile error)) P = ⊥
IfTold left (Err (faults.Words fault)) P = ⊥
IfTold left (Err (faults.Dotenv fault)) P = P (actions.not_opened (dotenv fault))
IfTold left (Err (faults.Opening error)) P = fault_of error ≢ memory → P (actions.not_opened (opening (fault_of error)))
IfTold left (Err (faults.Evaluation error)) P = ⊥
IfTold left (Err (faults.Code recipe code is_silent)) P = ⊥
IfTold left (Err (faults.Signal recipe signal is_silent)) P = ⊥
IfTold left (Err (faults.CouldNotStart recipe)) P = ⊥
IfTold left (Err (faults.NotConfirmed recipe)) P = ⊥
IfTold left (Err (faults.Command fault)) P = ⊥
IfTold left (Err faults.Write) P = (text : List ℕ) × IsPartOf left.sent.written text left.sends.written × P (actions.written text)
IfTold left (Err (faults.NotPrintable path)) P = ⊥

-- P holds of how modules opened and the one command ended, where memory sufficed
abbrev pub IfCommanded : Bool → Result Outcome Fault → (ActionEnd → Type 0) → Type 0
IfCommanded exhausted (Ok outcomes.Ran) P = exhausted ≡ false → P actions.done
IfCommanded exhausted (Ok outcomes.Planned) P = ⊥
IfCommanded exhausted (Ok outcomes.Evaluated) P = ⊥
IfCommanded exhausted (Ok outcomes.Dumped) P = ⊥
IfCommanded exhausted (Ok (outcomes.Formatted path text)) P = ⊥
IfCommanded exhausted (Ok outcomes.Listed) P = ⊥
IfCommanded exhausted (Err faults.OutOfMemory) P = Unit {0}
IfCommanded exhausted (Err (faults.NoRootForWord word)) P = ⊥
IfCommanded exhausted (Err (faults.Justfile error)) P = ⊥
IfCommanded exhausted (Err (faults.Words fault)) P = ⊥
IfCommanded exhausted (Err (faults.Dotenv fault)) P = P (actions.not_opened (dotenv fault))
IfCommanded exhausted (Err (faults.Opening error)) P = fault_of error ≢ memory → P (actions.not_opened (opening (fault_of error)))
IfCommanded exhausted (Err (faults.Evaluation error)) P = ⊥
IfCommanded exhausted (Err (faults.Code recipe code is_silent)) P = ⊥
IfCommanded exhausted (Err (faults.Signal recipe signal is_silent)) P = ⊥
IfCommanded exhausted (Err (faults.CouldNotStart recipe)) P = ⊥
IfCommanded exhausted (Err (faults.NotConfirmed recipe)) P = ⊥
IfCommanded exhausted (Err (faults.Command fault)) P = exhausted ≡ false → P (actions.end_of (without_next (next_by fault.word no_sigils fault.status)))
IfCommanded exhausted (Err faults.Write) P = ⊥
IfCommanded exhausted (Err (faults.NotPrintable path)) P = ⊥

-- a plan's answer as that of the run that was planned; where the plan was not written it says nothing of the run
abbrev pub as_run : Result Outcome Fault → Result Outcome Fault
as_run (Ok outcomes.Planned) = Ok outcomes.Ran
as_run (Ok outcomes.Ran) = Ok outcomes.Planned
as_run (Ok other) = Ok other
as_run (Err faults.Write) = Err faults.OutOfMemory
as_run (Err fault) = Err fault

-- By what the files of a call say, in a world that it stands for, and the path of the root.
module _ (source : Given) (w : World) (root : Text) (left : Left) (result : Result Outcome Fault) where
  -- the list of what the root offers was written, or a beginning of it where a write failed
  abbrev pub IsListed : Type 0
  IsListed = (text : Text) × IsListing source w w.root text × Writes left.sent text outcomes.Listed result left.sends

  -- so was the root's text
  abbrev pub IsDumped : Type 0
  IsDumped = (text : Text) × IsDump source text × Writes left.sent text outcomes.Dumped result left.sends

  -- the root's path and its text are answered, or the path is refused, exactly where it can't be printed; nothing is written
  abbrev pub IsAnswered : Type 0
  IsAnswered = (answer : Option Text) × IsAnswer source answer × IsFormatted root answer result × (left.sends.written ≡ left.sent.written)

module _ (c : Configuration) (defined : Definitions) (words : List (List ℕ)) (left : Left) (result : Result Outcome Fault) where
  -- Each run of what the words invoke that agrees with answers that this one agrees with goes alike, whatever was recorded before it.
  abbrev pub GoesAlike : {calls : List Call} {old new : List Entry} {t : Tally} {end : End} → Runs c defined calls old nothing new t end → Type 0
  GoesAlike {old = old} {new = new} {t = t} {end = end} run = (f : Answers) → AgreesRun f c defined run → (others : List (RecipeName × List (List (List ℕ)))) → Invoke (menu_of defined) words others
      → (old' new' : List Entry) (t' : Tally) (end' : End) (other : Runs c defined (map call_in others) old' nothing new' t' end') → AgreesRun f c defined other → GoAlike old new old' new' t t' end end'

  -- By all answers that this run agrees with it goes as they mean: it is refused before any recipe exactly where they refuse its opening, and else, where all is steady, it hands over what the naive run does.
  abbrev pub IsMeant : {calls : List Call} {old new : List Entry} {t : Tally} {end : End} → Runs c defined calls old nothing new t end → Type 0
  IsMeant {calls = calls} {old = old} {new = new} {end = end} run = (f : Answers) → AgreesRun f c defined run → GoesNaively f c defined calls old new end

  -- What holds of each input that breaks no rule, whose words invoke the same, and which agrees on what is reached.
  abbrev pub ForReached : List (RecipeName × List (List (List ℕ))) → (Definitions → Type 0) → Type 0
  ForReached invocations Holds = (w : World) (o : Overrides) (base working : Text) (other : Definitions) → IsClear w o base working other → (others : List (List ℕ)) → Invoke (menu_of other) others invocations
      → AgreeOnCalls c (map call_in invocations) defined other → Holds other

  -- Each run by such an input goes as this one where both agree with one set of answers, whatever was recorded before it.
  abbrev pub GoesAsReached : (invocations : List (RecipeName × List (List (List ℕ)))) {old new : List Entry} {t : Tally} {end : End} → Runs c defined (map call_in invocations) old nothing new t end → Type 0
  GoesAsReached invocations {old = old} {new = new} {t = t} {end = end} run = (f : Answers) → AgreesRun f c defined run → ForReached invocations (λ other.
      (old' new' : List Entry) (t' : Tally) (end' : End) (run' : Runs c other (map call_in invocations) old' nothing new' t' end') → AgreesRun f c other run' → GoAlike old new old' new' t t' end end')

  -- This run is refused before any recipe exactly where the answers refuse such an input's opening, and else, where that input's trees are steady, it hands over what that input's naive run does.
  abbrev pub IsMeantAsReached : (invocations : List (RecipeName × List (List (List ℕ)))) {old new : List Entry} {t : Tally} {end : End} → Runs c defined (map call_in invocations) old nothing new t end → Type 0
  IsMeantAsReached invocations {old = old} {new = new} {end = end} run = (f : Answers) → AgreesRun f c defined run → ForReached invocations (λ other. GoesNaively f c other (map call_in invocations) old new end)

  -- Modules open, and the invocations run over what was opened, with nothing done at first, from one record to another; no evaluation ends with `internal`, each such run goes alike, it goes as answers mean, and so it does by each input that agrees on what is reached.
  abbrev pub RunsBetween : List Entry → List Entry → List (RecipeName × List (List (List ℕ))) → End → Type 0
  RunsBetween old new invocations end = IsCertainEnd end × ((t : Tally) × (run : Runs c defined (map call_in invocations) old nothing new t end) × GoesAlike run × IsMeant run × GoesAsReached invocations run × IsMeantAsReached invocations run)

  -- By all answers that the run of a plan agrees with, the text of what it recorded is that of the naive run: of its lines, scripts and confirmations, and of none where they refuse its opening.
  -- It is that of each input that agrees on what is reached, and the text of each plan by such an input is the same.
  pub record PlanTold (entries : List Entry) (invocations : List (RecipeName × List (List (List ℕ)))) (end : End) : Type 0 where
    pub t : Tally
    pub run : Runs c defined (map call_in invocations) [] nothing entries t end
    pub naive : (f : Answers) → AgreesRun f c defined run → WritesNaively f c defined (map call_in invocations) (plan_text entries) end
    pub reached : (f : Answers) → AgreesRun f c defined run → ForReached invocations (λ other. WritesNaively f c other (map call_in invocations) (plan_text entries) end)
    pub same : (f : Answers) → AgreesRun f c defined run → ForReached invocations (λ other.
        (entries' : List Entry) (t' : Tally) (end' : End) (run' : Runs c other (map call_in invocations) [] nothing entries' t' end') → AgreesRun f c other run' → plan_text entries ≡ plan_text entries')

  abbrev pub RunsTo : List (RecipeName × List (List (List ℕ))) → End → Type 0
  RunsTo = RunsBetween left.before left.behind

  -- What the words invoke runs under a host of which the caller's answers the questions alone; what was recorded there, which begins what such a run records however it ended, is written, and how the run ended is answered.
  pub record PlansRun (invocations : List (RecipeName × List (List (List ℕ)))) : Type 0 where
    pub entries : List Entry
    pub asked : left.exhausted ≡ false → left.behind ≡ left.before ++ questions entries
    pub written : IsWrittenPlan left.sent.written (plan_text entries) result left.sends.written
    pub ran : IfRan false (as_run result) (RunsBetween [] entries invocations)
    pub begun : BeginsRun c defined (map call_in invocations) [] nothing entries
    -- each command and script was answered by code 0, and each prompt by yes
    pub answered : AreWellAnswered entries
    pub told : IfRan false (as_run result) (PlanTold entries invocations)

  -- values are told, and no evaluation ends with `internal`
  abbrev pub ValuesTo : ActionEnd → Type 0
  ValuesTo end = IsCertainActionEnd end × EvaluateGoes c defined true words left.before left.behind end

  -- the one command is handed over, and no evaluation ends with `internal`
  abbrev pub CommandTo : ActionEnd → Type 0
  CommandTo end = IsCertainActionEnd end × CommandGoes c defined words left.before left.behind end

module _ (source : Given) (w : World) (root : Text) (c : Configuration) (defined : Definitions) (words : List (List ℕ)) (left : Left) (result : Result Outcome Fault) where
  -- The words invoke nothing, nothing was asked, and the recipes are listed; or what they invoke runs, how that ended is answered, and nothing is written. However it ended, also where memory ran out, what was recorded is the beginning of what such a run records.
  pub data RunsNamed : Type 0 where
    none : Invoke (menu_of defined) words [] → left.behind ≡ left.before → IsListed source w root left result → RunsNamed
    runs : (invocations : List (RecipeName × List (List (List ℕ)))) → Invoke (menu_of defined) words invocations → IfRan left.exhausted result (RunsTo c defined words left result invocations) → BeginsRun c defined (map call_in invocations) left.before nothing left.behind → left.sends.written ≡ left.sent.written → RunsNamed

  -- the words invoke nothing, nothing was asked, and the recipes are listed; or the run of what they invoke is planned
  pub data PlansNamed : Type 0 where
    none : Invoke (menu_of defined) words [] → left.behind ≡ left.before → IsListed source w root left result → PlansNamed
    plans : (invocations : List (RecipeName × List (List (List ℕ)))) → Invoke (menu_of defined) words invocations → PlansRun c defined words left result invocations → PlansNamed

  -- What an action does that goes by what is defined; texts of the root are those that the files say. However values and the command ended, what was recorded is the beginning of what they record.
  abbrev pub GoesNamed : Action → Type 0
  GoesNamed asked.Run = RunsNamed
  GoesNamed asked.Plan = PlansNamed
  GoesNamed asked.Evaluate = IfTold left result (ValuesTo c defined words left result) × BeginsEvaluate c defined left.before left.behind
  GoesNamed asked.Command = IfCommanded left.exhausted result (CommandTo c defined words left result) × BeginsCommand c defined words left.before left.behind
  GoesNamed asked.Dump = IsDumped source w root left result
  GoesNamed asked.Format = IsAnswered source w root left result
  GoesNamed asked.List = IsListed source w root left result
