-- Runs by two inputs that agree on what the runs reach.
use Rattle.std.specs.Prelude.{◌≡◌, ◌↔◌, ℕ, List, Bool, Ok}
use Rattle.just_host.specs.declared.entry.Entry.{Entry}
use Rattle.meaning_runs.specs.Tallies.{Tally}
use Rattle.meaning_runs.specs.Told.{Answers}
use Rattle.meaning_evaluation.specs.Calling.{Ground, acts}
use Rattle.meaning_evaluation.specs.Named.{Call, Definitions, RecipeName, VariableName}
use Rattle.meaning_evaluation.specs.Scopes.{Configuration}
use Rattle.just_meaning.specs.Agreement.{AgreesRun}
use Rattle.just_meaning.specs.Opening.{IsOpened, IsReached, Opened, OpensAll}
use Rattle.just_meaning.specs.Reach.{AgreeOnCalls, AgreeOnReach}
use Rattle.just_meaning.specs.Runs.{Outcome, Runs, ground_of, recipes_of}
use Rattle.laws_agreement.specs.Agreement.Opened.{AreListed}
use Rattle.just_meaning.specs.Determined.{GoAlike, nothing}
use Rattle.laws_agreement.specs.Determined.Fit.{AreFit}

-- ---- agreement

-- what agrees with the other on what is reached, the other agrees with
abbrev pub AgreementIsMutual : Type 0
AgreementIsMutual = (no_dependencies : Bool) (invoked : List RecipeName) (a b : Definitions) → AgreeOnReach no_dependencies invoked a b → AgreeOnReach no_dependencies invoked b a

-- they reach the same recipes, and open the same variables
abbrev pub SameIsReached : Type 0
SameIsReached = (no_dependencies : Bool) (invoked : List RecipeName) (a b : Definitions) → AgreeOnReach no_dependencies invoked a b
    → ((r : RecipeName) → IsReached a no_dependencies invoked r ↔ IsReached b no_dependencies invoked r) × ((x : VariableName) → IsOpened a no_dependencies invoked x ↔ IsOpened b no_dependencies invoked x)

-- ---- steps

-- Each call of a recipe that is reached does the same by both: over what was opened it is bound to the same, asks and hands over the same, and brings about the same calls.
pub record ActsAlike (g h : Ground) (Of : Call → Type 0) : Type 0 where
  pub shares : (call : Call) → Of call → (acts g).shares call ≡ (acts h).shares call
  pub heads : (call : Call) (flag : Bool) → Of call → (acts g).head call flag ≡ (acts h).head call flag
  pub priors : (call : Call) (flag : Bool) → Of call → (acts g).priors call flag ≡ (acts h).priors call flag
  pub bodies : (call : Call) (flag : Bool) → Of call → (acts g).body call flag ≡ (acts h).body call flag
  pub subsequents : (call : Call) (flag : Bool) → Of call → (acts g).subsequents call flag ≡ (acts h).subsequents call flag

abbrev pub GroundsAlike : Type 0
GroundsAlike = (c : Configuration) (a b : Definitions) (calls : List Call) → AgreeOnCalls c calls a b → (opened : List Opened) (old new : List Entry) (paths : List (List (List ℕ)))
    → OpensAll c a (IsOpened a c.no_dependencies (recipes_of calls)) paths old new (Ok opened) → ActsAlike (ground_of c a opened) (ground_of c b opened) (λ call. IsReached a c.no_dependencies (recipes_of calls) call.recipe)

-- ---- runs

-- a run of the calls by what is defined, from one record to another, that agrees with all answers that this one agrees with
pub record IsRunToo {Rule : Type 0} (c : Configuration) (defined : Definitions) (calls : List Call) (old new : List Entry) (t t' : Tally) (outcome : Outcome Rule) (Agrees : Answers → Type 0) : Type 0 where
  pub run : Runs c defined calls old t new t' outcome
  pub agrees : (f : Answers) → Agrees f → AgreesRun f c defined run

-- A run by the one is a run by the other: from the same record to the same record, with the same tally and end.
abbrev pub RunsMove : Type 0 → Type 0
RunsMove Rule = (c : Configuration) (a b : Definitions) (calls : List Call) → AgreeOnCalls c calls a b → AreListed a → AreListed b
    → (old new : List Entry) (t t' : Tally) (outcome : Outcome Rule) (run : Runs c a calls old t new t' outcome) → IsRunToo c b calls old new t t' outcome (λ f. AgreesRun f c a run)

-- Two runs of the same calls by the one and by the other that agree with one set of answers go alike, from any two records.
abbrev pub RunsAreReached : Type 0 → Type 0
RunsAreReached Rule = (f : Answers) (c : Configuration) (a b : Definitions) (calls : List Call) → AgreeOnCalls c calls a b → AreListed a → AreListed b → AreFit a (IsOpened a c.no_dependencies (recipes_of calls))
    → (old new : List Entry) (t : Tally) (outcome : Outcome Rule) (run : Runs c a calls old nothing new t outcome) → AgreesRun f c a run
    → (old' new' : List Entry) (t' : Tally) (outcome' : Outcome Rule) (run' : Runs c b calls old' nothing new' t' outcome') → AgreesRun f c b run' → GoAlike old new old' new' t t' outcome outcome'
