-- How modules open, by their places: what they ask for, and the frames of their variables.
use Rattle.std.specs.Prelude.{◌≡◌, ◌≢◌, ℕ, Bool, true, false, ◌||◌, if◌then◌else◌, List, [], ◌∷◌, ◌++◌, map, Option, Some, None, Result, Ok, Err, slice_get}
use Rattle.std.specs.String.{string_bytes}
use Rattle.just_host.specs.declared.config.Config.{Config}
use Rattle.just_host.specs.declared.entry.Entry.{Entry}
use Rattle.just_host.specs.declared.host.HostFault.{HostFault}
use Rattle.just_host.specs.declared.job.DotenvRequest.{DotenvRequest}
use Rattle.just_host.specs.declared.job.Pair.{Pair}
use Rattle.just_value.specs.Frames.{BoundRow, Frames}
use Rattle.evaluate_context.specs.Environment.{variable}
use Rattle.evaluate_context.specs.Folders.{folder_below}
use Rattle.evaluate_context.specs.Refusals.{fault_of}
use Rattle.evaluate_context.specs.Surroundings.{by_name}
use Rattle.evaluate_context.specs.declared.context.ExecutionContext.{ExecutionContext}
use Rattle.evaluate_context.specs.declared.context.ModuleView.{ModuleView}
use Rattle.evaluate_context.specs.declared.error.Error.{Error}
use Rattle.evaluate_context.specs.declared.settings.Settings.{Settings}
use Rattle.evaluate_variables.specs.Opened.{BeginsInside, LeavesFrame, OpensInside, framed, reads}
use Rattle.meaning_dialogues.specs.Evaluation.{Value}
use Rattle.meaning_dialogues.specs.Faults.{Fault, memory}
use Rattle.meaning_evaluation.specs.Requests.{OpeningFailure, Requests, dotenv, opening}
use Rattle.analyze_calls.specs.declared.opening.Opened.{Opened}
use Rattle.analyze_calls.specs.declared.fault.OpeningFault.{OpeningFault}
use Rattle.analyze_calls.specs.declared.fault.OpeningFault.TheVariants.{OutOfMemory, Dotenv, Opening}
use Rattle.analyze_calls.specs.declared.opening.Opening.{Opening as Opens}

-- ---- what a module asks for

abbrev pub is_any : Value → Bool
is_any [] = false
is_any (text ∷ texts) = true

-- files of variables are asked for by `dotenv-load`, `-override` or `-required`, or by a filename, a path or a command
abbrev pub asks_for : Settings → Bool
asks_for s = (s.dotenv_load || (s.dotenv_override || s.dotenv_required)) || (is_any s.dotenv_filename || (is_any s.dotenv_path || is_any s.dotenv_command))

-- the folder of a module: the root's is where the program works, another's that of its file
abbrev pub folder_in : Config → ModuleView → List ℕ
folder_in config view = folder_below (if view.is_submodule then view.working_directory.now else string_bytes config.working_directory) view.settings.now.working_directory

abbrev pub request_in : Config → ModuleView → DotenvRequest
request_in config view = record {
  folder = folder_in config view;
  load = view.settings.now.dotenv_load;
  filenames = view.settings.now.dotenv_filename;
  paths = view.settings.now.dotenv_path;
  command = view.settings.now.dotenv_command;
  overriding = view.settings.now.dotenv_override;
  required = view.settings.now.dotenv_required;
}

abbrev pub request_if_any : Config → ModuleView → Option DotenvRequest
request_if_any config view = if asks_for view.settings.now then Some (request_in config view) else None

-- a module is told its pairs, which it holds by name
pub data IsTold (request : Option DotenvRequest) (old new : List Entry) : Result (List Pair) OpeningFailure → Type 0 where
  holds : {pairs held : List Pair} → Requests request old new (Ok pairs) → held ≡ by_name pairs → IsTold request old new (Ok held)
  ends : {fault : OpeningFailure} → Requests request old new (Err fault) → IsTold request old new (Err fault)

-- nothing was recorded, or the answer to what is asked for
pub data MayBeTold (request : Option DotenvRequest) (old new : List Entry) : Type 0 where
  not_told : new ≡ old → MayBeTold request old new
  was_told : {result : Result (List Pair) OpeningFailure} → Requests request old new result → MayBeTold request old new

-- ---- a module that is open

-- its place, the pairs of its files of variables, by name, and its frame inside that of the constants
pub record OpenedRow : Type 0 where
  pub place : ℕ
  pub pairs : List Pair
  pub frames : Frames

abbrev pub opened_row : Opened → OpenedRow
opened_row o = record { place = o.module; pairs = map variable o.dotenv.entries; frames = o.scope }

module _ (opens : Opens) where
  -- in what a module's variables are evaluated once its files of variables gave these pairs
  pub record IsContextOf (view : ModuleView) (pairs : List Pair) (context : ExecutionContext) : Type 0 where
    pub config : context.config.now ≡ opens.config.now
    pub pairs_are : map variable context.dotenv.now.entries ≡ by_name pairs
    pub module_is : context.module.now ≡ view
    pub overrides : context.overrides.now ≡ opens.overrides.now
    pub scope : context.scope.now ≡ opens.constants.now
    pub root : context.root.now ≡ opens.root.now

  -- which variables of a module are evaluated: a lazy one evaluates those that are wanted
  abbrev pub is_wanted : ModuleView → ℕ → Bool
  is_wanted view = reads (if view.settings.now.lazy then opens.wanted else None)

  -- a module's variables are evaluated in a frame of their own
  pub data IsFilled (view : ModuleView) (pairs : List Pair) (old new : List Entry) : Result (List BoundRow) OpeningFailure → Type 0 where
    fills : {own : List BoundRow} (context : ExecutionContext) → IsContextOf view pairs context → OpensInside context (is_wanted view) old own new None → IsFilled view pairs old new (Ok own)
    fails : {fault : Fault} (context : ExecutionContext) → IsContextOf view pairs context → LeavesFrame context (is_wanted view) old new fault → IsFilled view pairs old new (Err (opening fault))

  -- what was recorded is the beginning of what the evaluation of a module's variables records
  pub record FillsBegin (view : ModuleView) (pairs : List Pair) (old new : List Entry) : Type 0 where
    pub context : ExecutionContext
    pub is : IsContextOf view pairs context
    pub begins : BeginsInside context (is_wanted view) old new

  -- a module asks for its pairs, and then its variables are evaluated
  pub data OpensOne (place : ℕ) (view : ModuleView) (old new : List Entry) : Result OpenedRow OpeningFailure → Type 0 where
    untold : {fault : OpeningFailure} → Requests (request_if_any opens.config.now view) old new (Err fault) → OpensOne place view old new (Err fault)
    opened : {mid : List Entry} {pairs : List Pair} {own : List BoundRow} (context : ExecutionContext) → Requests (request_if_any opens.config.now view) old mid (Ok pairs)
        → IsContextOf view pairs context → OpensInside context (is_wanted view) mid own new None
        → OpensOne place view old new (Ok (record { place = place; pairs = by_name pairs; frames = framed (opens.constants.now.own ∷ opens.constants.now.outer) own }))
    unfilled : {mid : List Entry} {pairs : List Pair} {fault : Fault} (context : ExecutionContext) → Requests (request_if_any opens.config.now view) old mid (Ok pairs)
        → IsContextOf view pairs context → LeavesFrame context (is_wanted view) mid new fault → OpensOne place view old new (Err (opening fault))

  -- modules at these places in order; where there is none nothing opens; the first fault ends it
  pub data OpensAll (modules : List ModuleView) : List ℕ → List Entry → List Entry → Result (List OpenedRow) OpeningFailure → Type 0 where
    none_left : {log : List Entry} → OpensAll modules [] log log (Ok [])
    nowhere : {place : ℕ} {places : List ℕ} {old new : List Entry} {result : Result (List OpenedRow) OpeningFailure}
        → slice_get modules place ≡ None → OpensAll modules places old new result → OpensAll modules (place ∷ places) old new result
    one_more : {place : ℕ} {places : List ℕ} {view : ModuleView} {old mid new : List Entry} {row : OpenedRow} {rows : List OpenedRow}
        → slice_get modules place ≡ Some view → OpensOne place view old mid (Ok row) → OpensAll modules places mid new (Ok rows) → OpensAll modules (place ∷ places) old new (Ok (row ∷ rows))
    fault_here : {place : ℕ} {places : List ℕ} {view : ModuleView} {old new : List Entry} {fault : OpeningFailure}
        → slice_get modules place ≡ Some view → OpensOne place view old new (Err fault) → OpensAll modules (place ∷ places) old new (Err fault)
    fault_later : {place : ℕ} {places : List ℕ} {view : ModuleView} {old mid new : List Entry} {row : OpenedRow} {fault : OpeningFailure}
        → slice_get modules place ≡ Some view → OpensOne place view old mid (Ok row) → OpensAll modules places mid new (Err fault) → OpensAll modules (place ∷ places) old new (Err fault)

  -- what was recorded of the opening of a module is its beginning: nothing, what it was told, or a beginning of what an opening of it records
  pub data OneBegins (place : ℕ) (view : ModuleView) (old new : List Entry) : Type 0 where
    nothing : new ≡ old → OneBegins place view old new
    asked : {result : Result (List Pair) OpeningFailure} → Requests (request_if_any opens.config.now view) old new result → OneBegins place view old new
    goes : (rest : List Entry) {result : Result OpenedRow OpeningFailure} → OpensOne place view old (new ++ rest) result → OneBegins place view old new

  -- of modules at these places in order: the whole of the openings of some, and of the next a beginning
  pub data AllBegin (modules : List ModuleView) : List ℕ → List Entry → List Entry → Type 0 where
    none_begins : {places : List ℕ} {log : List Entry} → AllBegin modules places log log
    nowhere_begins : {place : ℕ} {places : List ℕ} {old new : List Entry} → slice_get modules place ≡ None → AllBegin modules places old new → AllBegin modules (place ∷ places) old new
    one_begins : {place : ℕ} {places : List ℕ} {view : ModuleView} {old new : List Entry} → slice_get modules place ≡ Some view → OneBegins place view old new → AllBegin modules (place ∷ places) old new
    later_begins : {place : ℕ} {places : List ℕ} {view : ModuleView} {old mid new : List Entry} {row : OpenedRow}
        → slice_get modules place ≡ Some view → OpensOne place view old mid (Ok row) → AllBegin modules places mid new → AllBegin modules (place ∷ places) old new

  -- the module at one place, where there is one, opens after these
  pub data OpensAfter (modules : List ModuleView) (place : ℕ) (before : List OpenedRow) : List Entry → List Entry → Result (List OpenedRow) OpeningFailure → Type 0 where
    not_there : {log : List Entry} → slice_get modules place ≡ None → OpensAfter modules place before log log (Ok before)
    there : {view : ModuleView} {old new : List Entry} {row : OpenedRow} {rows : List OpenedRow}
        → slice_get modules place ≡ Some view → OpensOne place view old new (Ok row) → rows ≡ before ++ row ∷ [] → OpensAfter modules place before old new (Ok rows)
    refused : {view : ModuleView} {old new : List Entry} {fault : OpeningFailure} → slice_get modules place ≡ Some view → OpensOne place view old new (Err fault) → OpensAfter modules place before old new (Err fault)

-- the fault for that of one of a module's variables
pub data IsOpening (error : Error) : OpeningFault → Type 0 where
  out_of_memory : fault_of error ≡ memory → IsOpening error OutOfMemory
  no_value : fault_of error ≢ memory → IsOpening error (Opening error)

-- it holds of what is open, or of the fault, unless memory ran out
abbrev pub IfOpened : {A B : Type 0} → (A → B) → Result A OpeningFault → (Result B OpeningFailure → Type 0) → Type 0
IfOpened row (Ok a) P = P (Ok (row a))
IfOpened row (Err OutOfMemory) P = Unit {0}
IfOpened row (Err (Dotenv fault)) P = P (Err (dotenv fault))
IfOpened row (Err (Opening error)) P = P (Err (opening (fault_of error)))

abbrev pub opened_rows : List Opened → List OpenedRow
opened_rows all = map opened_row all

-- a fault of the host ends an opening
abbrev pub passed : Result (List Pair) HostFault → Result (List Pair) OpeningFault
passed (Ok pairs) = Ok pairs
passed (Err fault) = Err (Dotenv fault)
