-- What runs do by fixed answers: each is refused before any recipe exactly where the opening is refused by the answers, and else it hands over what the naive run does, up to the first failure.
use Rattle.std.specs.Prelude.{◌≡◌, ◌≤◌, ◌++◌, ℕ, List, [], Option, Some, Err, Contains}
use Rattle.just_host.specs.declared.entry.Entry.{Entry}
use Rattle.meaning_runs.specs.Failures.{Failure}
use Rattle.meaning_runs.specs.Laws.{events_of, end_by}
use Rattle.meaning_runs.specs.Meant.{is_event}
use Rattle.meaning_runs.specs.Told.{Answers, holds, of_variables}
use Rattle.meaning_evaluation.specs.Named.{RecipeName, VariableName, Call, ModuleRow, Definitions, paths_of}
use Rattle.meaning_evaluation.specs.Scopes.{Configuration}
use Rattle.meaning_evaluation.specs.Requests.{OpeningFailure, dotenv, opening}
use Rattle.just_host.specs.declared.host.HostFault.{HostFault}
use Rattle.just_host.specs.declared.job.DotenvRequest.{DotenvRequest}
use Rattle.meaning_dialogues.specs.Faults.{Fault}
use Rattle.just_meaning.specs.Opening.{IsOpened, exported_names}
use Rattle.just_meaning.specs.Meanings.{IsNaive, IsSteadyRun, RefusesOpening, VariableMeans}
use Rattle.just_meaning.specs.Runs.{Outcome, not_opened, outcome_of}
use Rattle.just_meaning.specs.Runs.{recipes_of}

-- What the answers give as the fault of an opening: a module's request is answered with it, or a variable that opens means it.
pub data GivesFault (f : Answers) (c : Configuration) (defined : Definitions) (invoked : List RecipeName) (paths : List (List ℕ) → Type 0) : OpeningFailure → Type 0 where
  of_request : {path : List (List ℕ)} {row : ModuleRow} {request : DotenvRequest} {fault : HostFault} → paths path → defined.inside path ≡ Some row → row.request ≡ Some request → f.dotenv request ≡ Some (Err fault) → GivesFault f c defined invoked paths (dotenv fault)
  of_variable : {x : VariableName} {fault : Fault} → paths x.path → IsOpened defined c.no_dependencies invoked x → VariableMeans c defined f x (Err fault) → GivesFault f c defined invoked paths (opening fault)

module _ (f : Answers) (c : Configuration) (defined : Definitions) (calls : List Call) where
  -- The answers refuse the opening: a module's request for files of variables is answered with a fault, or a variable that opens means one.
  abbrev pub IsRefused : Type 0
  IsRefused = RefusesOpening c defined f (recipes_of calls) (λ path. Contains (paths_of defined.modules) path)

  -- Each call that the trees have is steady, from some depth on: what it is bound to, its confirmation and its dependencies' arguments are the same whether or not it runs as a dependency.
  pub record AreAllSteady : Type 0 where
    pub deep : ℕ
    pub is : (n : ℕ) → deep ≤ n → IsSteadyRun c defined f n calls

  -- What was recorded has the events of the naive run of the calls, and it ended as that run ends: everything unfolded, nothing shared, repeats dropped, cut after the first failure.
  pub record HandsOver (old new : List Entry) (failure : Option Failure) : Type 0 where
    pub piece : List Entry
    pub entries : new ≡ old ++ piece
    pub naive : IsNaive c defined f calls (record { events = events_of is_event piece; end = end_by failure })

  -- No event was recorded.
  pub record IsQuiet (old new : List Entry) : Type 0 where
    pub piece : List Entry
    pub entries : new ≡ old ++ piece
    pub quiet : events_of is_event piece ≡ []

  -- The opening is refused, by a fault that the answers give, and no event was recorded; or it is not, and where all is steady the naive run is handed over.
  pub data GoesNaively {Rule : Type 0} (old new : List Entry) (outcome : Outcome Rule) : Type 0 where
    refused : (fault : OpeningFailure) → outcome ≡ not_opened fault → GivesFault f c defined (recipes_of calls) (λ path. Contains (paths_of defined.modules) path) fault → IsQuiet old new → GoesNaively old new outcome
    hands_over : (failure : Option Failure) → outcome ≡ outcome_of failure → (IsRefused → ⊥) → (AreAllSteady → HandsOver old new failure) → GoesNaively old new outcome

-- The answers hold an entry, whoever is told it: a recipe, or the variables of any module.
abbrev pub HoldEverywhere : Answers → Definitions → Entry → Type 0
HoldEverywhere f defined entry = holds f f.recipe entry × ((path : List (List ℕ)) → holds f (of_variables f (exported_names defined path)) entry)
