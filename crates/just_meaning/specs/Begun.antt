-- How far a run was recorded, however it ended: the last step may be cut, which is a failure for want of memory.
use Rattle.std.specs.Prelude.{◌≡◌, ◌++◌, ℕ, List, [], ◌∷◌, Bool, false, map, Option, Some, Result, Ok}
use Rattle.just_host.specs.declared.entry.Entry.{Entry}
use Rattle.just_host.specs.declared.job.Pair.{Pair}
use Rattle.meaning_evaluation.specs.Stages.Parameters.{Bound}
use Rattle.meaning_evaluation.specs.Requests.{OpeningFailure, Requests}
use Rattle.meaning_runs.specs.Acts.{begin, finish}
use Rattle.meaning_runs.specs.Counts.{IsCounted}
use Rattle.meaning_runs.specs.Cut.{Cuts, cut_parts}
use Rattle.meaning_runs.specs.Failures.{Failure}
use Rattle.meaning_runs.specs.Goes.{Goes}
use Rattle.meaning_runs.specs.Parts.{Parts}
use Rattle.meaning_runs.specs.Tallies.{Tally}
use Rattle.meaning_runs.specs.Task.{TaskBegins}
use Rattle.meaning_evaluation.specs.Calling.{acts}
use Rattle.meaning_evaluation.specs.Named.{Call, Definitions, ModuleRow, VariableName, paths_of}
use Rattle.meaning_evaluation.specs.Scopes.{Configuration}
use Rattle.just_meaning.specs.Actions.{ActionEnd, CommandGoes, IsKept}
use Rattle.just_meaning.specs.Opening.{IsOpened, Opened, OpensAll, OpensOne}
use Rattle.just_meaning.specs.Runs.{Opens, ground_of, reading_at, steps}

module _ (c : Configuration) (defined : Definitions) where
  -- what was recorded of the opening of a module is its beginning: nothing, what it was told, or a beginning of what an opening of it records
  pub data OneBegins (Open : VariableName → Type 0) (path : List (List ℕ)) (old new : List Entry) : Type 0 where
    nothing : new ≡ old → OneBegins Open path old new
    asked : {row : ModuleRow} {result : Result (List Pair) OpeningFailure} → defined.inside path ≡ Some row → Requests row.request old new result → OneBegins Open path old new
    goes : (rest : List Entry) {result : Result Opened OpeningFailure} → OpensOne c defined Open path old (new ++ rest) result → OneBegins Open path old new

  -- of modules in order: the whole of the openings of some, and of the next a beginning
  pub data AllBegin (Open : VariableName → Type 0) : List (List (List ℕ)) → List Entry → List Entry → Type 0 where
    none_begins : {paths : List (List (List ℕ))} {log : List Entry} → AllBegin Open paths log log
    one_begins : {path : List (List ℕ)} {paths : List (List (List ℕ))} {old new : List Entry} → OneBegins Open path old new → AllBegin Open (path ∷ paths) old new
    later_begins : {path : List (List ℕ)} {paths : List (List (List ℕ))} {old mid new : List Entry} {o : Opened} → OpensOne c defined Open path old mid (Ok o) → AllBegin Open paths mid new → AllBegin Open (path ∷ paths) old new

  -- how far the steps of a call were recorded where they were cut
  abbrev pub cuts : List Opened → Cuts Call Bound Entry
  cuts opened = record {
    InBegin = λ call flag old new. TaskBegins (reading_at c defined opened call) (begin (acts (ground_of c defined opened)) call flag) old new;
    InEnd = λ call flag bound old new. TaskBegins (reading_at c defined opened call) (finish (acts (ground_of c defined opened)) call flag bound) old new;
  }

  abbrev pub steps_cut : List Opened → Parts Call Bound Entry Failure
  steps_cut opened = cut_parts (steps c defined opened) (cuts opened)

  -- the calls run with nothing done at first, of which the last step may be cut; no call is entered twice under one set
  pub record BeginsCalls (opened : List Opened) (calls : List Call) (old : List Entry) (t : Tally) (new : List Entry) : Type 0 where
    pub done : List Call
    pub last : Tally
    pub failure : Option Failure
    pub run : Goes (steps_cut opened) false [] old t calls done new last failure
    pub counted : IsCounted (steps_cut opened) run

  -- What was recorded is the beginning of what a run of the calls records: a beginning of the opening of modules, or the whole of it and a beginning of the run over what was opened.
  pub data BeginsRun (calls : List Call) (old : List Entry) (t : Tally) (new : List Entry) : Type 0 where
    in_opening : AllBegin (IsOpened defined c.no_dependencies (map (λ call. call.recipe) calls)) (paths_of defined.modules) old new → BeginsRun calls old t new
    in_run : {mid : List Entry} {opened : List Opened} → Opens c defined calls old mid (Ok opened) → BeginsCalls opened calls mid t new → BeginsRun calls old t new

  -- What was recorded is the beginning of what the one command records: a beginning of the opening of modules, or the whole of what handing it over records.
  pub data BeginsCommand (words : List (List ℕ)) (old new : List Entry) : Type 0 where
    before_it : AllBegin (IsOpened defined c.no_dependencies []) (paths_of defined.modules) old new → BeginsCommand words old new
    with_it : {end : ActionEnd} → CommandGoes c defined words old new end → BeginsCommand words old new

  -- and of evaluating a beginning of the opening of modules, of which all variables open
  abbrev pub BeginsEvaluate : List Entry → List Entry → Type 0
  BeginsEvaluate = AllBegin (IsKept defined) (paths_of defined.modules)
