-- What a stack does from here, the next first: from the calls that are done, a record and a tally, to a record, a tally and how it ends.
use Rattle.std.specs.Prelude.{List, [], ◌∷◌, Bool, true, false, cond, Option, Some, None, Ok, Err}
use Rattle.just_host.specs.declared.entry.Entry.{Entry}
use Rattle.meaning_runs.specs.Failures.{Failure}
use Rattle.meaning_runs.specs.Parts.{Parts, Joins}
use Rattle.meaning_runs.specs.Goes.{Goes}
use Rattle.meaning_runs.specs.Tallies.{Tally}
use Rattle.analyze_calls.specs.Calls.{CallRow}
use Rattle.analyze_calls.specs.Entered.{EnteredRow}
use Rattle.analyze_calls.specs.Runs.Todo.{Todo, Calls, Body, After}

-- what is set aside as subsequents begin: nothing where they share what was done
abbrev pub set_aside : Bool → List CallRow → Option (List CallRow)
set_aside true done = None
set_aside false done = Some done

-- what was done before subsequents, where it was set aside, and else what is done now
abbrev pub restored : Option (List CallRow) → List CallRow → List CallRow
restored None done = done
restored (Some outer) done = outer

module _ (p : Parts CallRow EnteredRow Entry Failure) where
  pub data Rest : List Todo → List CallRow → List Entry → Tally → List Entry → Tally → Option Failure → Type 0 where
    finished : {done : List CallRow} {log : List Entry} {t : Tally} → Rest [] done log t log t None
    went : {todos : List Todo} {flag : Bool} {calls done done1 : List CallRow} {log log1 new : List Entry} {t t1 t' : Tally} {failure : Option Failure}
        → Goes p flag done log t calls done1 log1 t1 None → Rest todos done1 log1 t1 new t' failure → Rest (Calls flag calls ∷ todos) done log t new t' failure
    stopped : {todos : List Todo} {flag : Bool} {calls done done1 : List CallRow} {log new : List Entry} {t t' : Tally} {failure : Failure}
        → Goes p flag done log t calls done1 new t' (Some failure) → Rest (Calls flag calls ∷ todos) done log t new t' (Some failure)
    block_went : {todos : List Todo} {call : CallRow} {flag : Bool} {bound : EnteredRow} {done done2 done3 subsequents : List CallRow} {log log1 log2 new : List Entry} {t t1 t' : Tally} {failure : Option Failure}
        → p.Ends call flag bound log log1 (Ok subsequents) → Goes p true (cond (p.shares call) done []) log1 t subsequents done2 log2 t1 None → Joins p.same call (cond (p.shares call) done2 done) done3
        → Rest todos done3 log2 t1 new t' failure → Rest (Body call flag bound ∷ todos) done log t new t' failure
    block_failed : {todos : List Todo} {call : CallRow} {flag : Bool} {bound : EnteredRow} {done : List CallRow} {log new : List Entry} {t : Tally} {failure : Failure}
        → p.Ends call flag bound log new (Err failure) → Rest (Body call flag bound ∷ todos) done log t new t (Some failure)
    block_stopped : {todos : List Todo} {call : CallRow} {flag : Bool} {bound : EnteredRow} {done done2 subsequents : List CallRow} {log log1 new : List Entry} {t t' : Tally} {failure : Failure}
        → p.Ends call flag bound log log1 (Ok subsequents) → Goes p true (cond (p.shares call) done []) log1 t subsequents done2 new t' (Some failure)
        → Rest (Body call flag bound ∷ todos) done log t new t' (Some failure)
    back : {todos : List Todo} {call : CallRow} {outer : Option (List CallRow)} {done done3 : List CallRow} {log new : List Entry} {t t' : Tally} {failure : Option Failure}
        → Joins p.same call (restored outer done) done3 → Rest todos done3 log t new t' failure → Rest (After call outer ∷ todos) done log t new t' failure

  -- what the second stack does from there, the first does from here
  pub record Leads (todos : List Todo) (done : List CallRow) (log : List Entry) (t : Tally) (todos' : List Todo) (done' : List CallRow) (log' : List Entry) (t' : Tally) : Type 0 where
    pub all : (new : List Entry) (last : Tally) (failure : Option Failure) → Rest todos' done' log' t' new last failure → Rest todos done log t new last failure

  -- what was recorded is what a stack does from here, with some tally and some end
  pub record RestBegins (todos : List Todo) (done : List CallRow) (log : List Entry) (t : Tally) (new : List Entry) : Type 0 where
    pub last : Tally
    pub failure : Option Failure
    pub rest : Rest todos done log t new last failure

  -- a run of the calls with nothing done at first
  abbrev pub HasRun : List CallRow → List Entry → Tally → List Entry → Tally → Option Failure → Type 0
  HasRun calls old t new t' failure = (done : List CallRow) × Goes p false [] old t calls done new t' failure
