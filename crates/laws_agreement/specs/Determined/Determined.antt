-- Two runs that agree with one set of answers go alike.
use Rattle.std.specs.Prelude.{◌≡◌, ℕ, List, [], map, Result, Ok, Err}
use Rattle.just_host.specs.declared.entry.Entry.{Entry}
use Rattle.evaluate_context.specs.Surroundings.{by_name}
use Rattle.meaning_runs.specs.Failures.{Failure}
use Rattle.meaning_runs.specs.Tallies.{Tally}
use Rattle.meaning_runs.specs.Task.{Task, TaskLeads}
use Rattle.meaning_runs.specs.Told.{Answers}
use Rattle.meaning_evaluation.specs.Named.{RecipeName, VariableName, Call, ModuleRow, Definitions, paths_of}
use Rattle.meaning_evaluation.specs.Scopes.{Configuration}
use Rattle.meaning_evaluation.specs.Requests.{OpeningFailure}
use Rattle.just_meaning.specs.Actions.{IsKept, Target, evaluated_text, command_task}
use Rattle.just_meaning.specs.Agreement.{AgreesBehind, AgreesAll, AgreesRun}
use Rattle.just_meaning.specs.Opening.{Opened, OpensAll, IsOpened, held, pairs_of, reading_in}
use Rattle.just_meaning.specs.Runs.{values_at, Outcome, Runs}
use Rattle.laws_agreement.specs.Agreement.Opened.{AreListed}
use Rattle.laws_agreement.specs.Determined.Fit.{AreFit}
use Rattle.just_meaning.specs.Determined.{nothing, GoAlike}

-- ---- openings

-- The same modules with the same pairs were opened, in order; in each module every name is held alike, and the exported pairs are the same by name.
pub record AreAlike (defined : Definitions) (opened opened' : List Opened) : Type 0 where
  pub paths : map (λ o. o.path) opened ≡ map (λ o. o.path) opened'
  pub pairs : map (λ o. o.pairs) opened ≡ map (λ o. o.pairs) opened'
  pub holds : (path : List (List ℕ)) (name : List ℕ) → held name (values_at path opened) ≡ held name (values_at path opened')
  pub exported : (path : List (List ℕ)) → by_name (pairs_of defined path (values_at path opened)) ≡ by_name (pairs_of defined path (values_at path opened'))

-- how two openings went alike: both were refused, or both opened modules alike
pub data OpenAlike (defined : Definitions) (r r' : Result (List Opened) OpeningFailure) : Type 0 where
  both_refused : (fault fault' : OpeningFailure) → r ≡ Err fault → r' ≡ Err fault' → OpenAlike defined r r'
  both_opened : (opened opened' : List Opened) → r ≡ Ok opened → r' ≡ Ok opened' → AreAlike defined opened opened' → OpenAlike defined r r'

-- Two openings of the same modules that agree with one set of answers go alike, from any two records and in any two orders, whichever variables open.
abbrev pub OpeningsAreDetermined : (VariableName → Type 0) → Configuration → Definitions → Type 0
OpeningsAreDetermined Open c defined = (f : Answers) (paths : List (List (List ℕ))) → AreListed defined → AreFit defined Open
    → (old new : List Entry) (r : Result (List Opened) OpeningFailure) (opens : OpensAll c defined Open paths old new r) → AgreesAll f c defined opens
    → (old' new' : List Entry) (r' : Result (List Opened) OpeningFailure) (opens' : OpensAll c defined Open paths old' new' r') → AgreesAll f c defined opens' → OpenAlike defined r r'

-- whether recipes are invoked, or all variables open
abbrev pub RunOpeningsAreDetermined : Type 0
RunOpeningsAreDetermined = (c : Configuration) (defined : Definitions) (invoked : List RecipeName) → OpeningsAreDetermined (IsOpened defined c.no_dependencies invoked) c defined

abbrev pub KeptOpeningsAreDetermined : Type 0
KeptOpeningsAreDetermined = (c : Configuration) (defined : Definitions) → OpeningsAreDetermined (IsKept defined) c defined

-- ---- runs of recipes

-- Two runs of the same calls that agree with one set of answers go alike, from any two records.
abbrev pub RunsAreDetermined : Type 0 → Type 0
RunsAreDetermined Rule = (f : Answers) (c : Configuration) (defined : Definitions) (calls : List Call) → AreListed defined → AreFit defined (IsOpened defined c.no_dependencies (map (λ call. call.recipe) calls))
    → (old new : List Entry) (t : Tally) (outcome : Outcome Rule) (run : Runs c defined calls old nothing new t outcome) → AgreesRun f c defined run
    → (old' new' : List Entry) (t' : Tally) (outcome' : Outcome Rule) (run' : Runs c defined calls old' nothing new' t' outcome') → AgreesRun f c defined run' → GoAlike old new old' new' t t' outcome outcome'

-- ---- the other actions that open modules

-- Over two openings that agree with one set of answers the text that is evaluated is the same.
abbrev pub EvaluationsAreDetermined : Type 0
EvaluationsAreDetermined = (f : Answers) (c : Configuration) (defined : Definitions) → AreListed defined → AreFit defined (IsKept defined)
    → (old new : List Entry) (opened : List Opened) (opens : OpensAll c defined (IsKept defined) (paths_of defined.modules) old new (Ok opened)) → AgreesAll f c defined opens
    → (old' new' : List Entry) (opened' : List Opened) (opens' : OpensAll c defined (IsKept defined) (paths_of defined.modules) old' new' (Ok opened')) → AgreesAll f c defined opens'
    → (target : Target) → evaluated_text defined opened target ≡ evaluated_text defined opened' target

-- A task that leads on from two records, and agrees with the answers, leaves the same piece, and ends alike.
abbrev pub LeadsAlike : Answers → Task (Unit {0}) → Task (Unit {0}) → Type 0
LeadsAlike f task task' = (mid new : List Entry) (end : Result (Unit {0}) Failure) (leads : TaskLeads (reading_in []) task mid new end) → AgreesBehind f mid new
    → (mid' new' : List Entry) (end' : Result (Unit {0}) Failure) (leads' : TaskLeads (reading_in []) task' mid' new' end') → AgreesBehind f mid' new' → (leads.piece ≡ leads'.piece) × (end ≡ end')

-- Over two openings that agree with one set of answers the command that is handed over is the same, and where it agrees too it ends alike.
abbrev pub CommandsAreDetermined : Type 0
CommandsAreDetermined = (f : Answers) (c : Configuration) (defined : Definitions) → AreListed defined → AreFit defined (IsOpened defined c.no_dependencies [])
    → (old mid : List Entry) (opened : List Opened) (opens : OpensAll c defined (IsOpened defined c.no_dependencies []) (paths_of defined.modules) old mid (Ok opened)) → AgreesAll f c defined opens
    → (old' mid' : List Entry) (opened' : List Opened) (opens' : OpensAll c defined (IsOpened defined c.no_dependencies []) (paths_of defined.modules) old' mid' (Ok opened')) → AgreesAll f c defined opens'
    → (row : ModuleRow) (words : List (List ℕ)) → (command_task c defined row opened words ≡ command_task c defined row opened' words) × LeadsAlike f (command_task c defined row opened words) (command_task c defined row opened' words)
