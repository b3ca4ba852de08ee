-- Where want of memory cuts a run.
use Rattle.std.proofs.Common.{◌≡◌, ◌∷◌, [], ◌||◌, inl, inr, true, false, Bool, cond, List, Option, Some, None, Result, Ok, Err, ap, subst, sym, refl}
use Rattle.just_host.specs.declared.entry.Entry.{Entry}
use Rattle.just_host.specs.Record.{Record}
use Rattle.meaning_dialogues.specs.Faults.{memory}
use Rattle.meaning_runs.specs.Cut.{Cuts, cut_parts}
use Rattle.meaning_runs.specs.Cut as spec
use Rattle.meaning_runs.specs.Failures.{Failure, evaluation}
use Rattle.meaning_runs.specs.Goes.{over, not_begun}
use Rattle.meaning_runs.specs.Parts.{Parts, is_met, Joins}
use Rattle.meaning_runs.specs.Tallies.{Tally, met_one, entered_one}
use Rattle.analyze_calls.specs.Calls.{CallRow}
use Rattle.analyze_calls.specs.Entered.{EnteredRow}
use Rattle.analyze_calls.specs.declared.plan.Runner.{Runner}
use Rattle.analyze_calls.proofs.Joined.{symmetric}
use Rattle.analyze_calls.specs.Runs.Cut.{BeginsRun, HasBegun, HasEnded, cuts, nothing_begun, nothing_ended, parts_cut}
use Rattle.analyze_calls.specs.Runs.Rest.{Leads, Rest, RestBegins, back, block_failed, finished, restored, set_aside, stopped, went}
use Rattle.analyze_calls.specs.Runs.Steps.{parts}
use Rattle.analyze_calls.specs.Runs.Todo.{Todo, Calls, Body, After}
use Rattle.analyze_calls.proofs.Runs.Turns.{body_done, entering, met_again, whole}

module _ (runner : Runner) where
  abbrev Cut : Parts CallRow EnteredRow Entry Failure
  Cut = parts_cut runner

  abbrev Begun : List Todo → List CallRow → List Entry → Tally → List Entry → Type 0
  Begun = RestBegins Cut

  -- ---- a run that is cut where it stands

  calls_here : (flag : Bool) (calls : List CallRow) (todos : List Todo) (done : List CallRow) (log : List Entry) (t : Tally) → ((t : Tally) → Begun todos done log t log) → Begun (Calls flag calls ∷ todos) done log t log
  calls_here flag [] todos done log t later = let r = later t in record { last = r.last; failure = r.failure; rest = went over r.rest }
  calls_here flag (call ∷ calls) todos done log t later = by (is_met Cut.same call done) refl (calls_here flag calls todos done log (met_one t) later)
    where
      by : (met : Bool) → is_met Cut.same call done ≡ met → Begun (Calls flag calls ∷ todos) done log (met_one t) log → Begun (Calls flag (call ∷ calls) ∷ todos) done log t log
      by true e more = record { last = more.last; failure = more.failure; rest = met_again Cut e more.rest }
      by false e more = record { last = entered_one (met_one t); failure = Some (evaluation memory); rest = stopped (not_begun e (inr (refl, nothing_begun refl))) }

  joins : (call : CallRow) (done : List CallRow) → Joins Cut.same call done (call ∷ done)
  joins call done = λ c. ap (λ b. b || is_met Cut.same c done) (symmetric c call)

  -- nothing more was recorded
  pub rest_here : (todos : List Todo) (done : List CallRow) (log : List Entry) (t : Tally) → Begun todos done log t log
  rest_here [] done log t = record { last = t; failure = None; rest = finished }
  rest_here (Calls flag calls ∷ todos) done log t = calls_here flag calls todos done log t (λ t. rest_here todos done log t)
  rest_here (Body call flag bound ∷ todos) done log t = record { last = t; failure = Some (evaluation memory); rest = block_failed (inr (refl, nothing_ended refl)) }
  rest_here (After call outer ∷ todos) done log t =
      let r = rest_here todos (call ∷ restored outer done) log t in
      record { last = r.last; failure = r.failure; rest = back (joins call (restored outer done)) r.rest }

  -- ---- turns

  entered_begins : (flag : Bool) (call : CallRow) (calls : List CallRow) (todos : List Todo) (done : List CallRow) (log new : List Entry) (t : Tally) (r : Result (EnteredRow × List CallRow) Failure) → is_met Cut.same call done ≡ false
      → Cut.Begins call flag log new r → Begun (Calls flag (call ∷ calls) ∷ todos) done log t new
  entered_begins flag call calls todos done log new t (Err failure) u b = record { last = entered_one (met_one t); failure = Some failure; rest = stopped (not_begun u b) }
  entered_begins flag call calls todos done log new t (Ok given) u b =
      let r = rest_here (Calls true given.1 ∷ Body call flag given.0 ∷ Calls flag calls ∷ todos) done new (entered_one (met_one t)) in
      record { last = r.last; failure = r.failure; rest = entering Cut u b r.rest }

  -- a call that is not done begins, so far as it was recorded
  pub call_begins : (flag : Bool) (pending : List CallRow) (call : CallRow) (calls : List CallRow) (todos : List Todo) (done : List CallRow) (log new : List Entry) (t : Tally) → pending ≡ call ∷ calls → is_met Cut.same call done ≡ false
      → HasBegun runner call flag log new → Begun (Calls flag pending ∷ todos) done log t new
  call_begins flag pending call calls todos done log new t e u h =
      subst (λ cs. Begun (Calls flag cs ∷ todos) done log t new) (sym e) (entered_begins flag call calls todos done log new t h.result u h.begins)

  ended_begins : (call : CallRow) (flag : Bool) (bound : EnteredRow) (todos : List Todo) (done : List CallRow) (log new : List Entry) (t : Tally) (r : Result (List CallRow) Failure) → Cut.Ends call flag bound log new r → Begun (Body call flag bound ∷ todos) done log t new
  ended_begins call flag bound todos done log new t (Err failure) e = record { last = t; failure = Some failure; rest = block_failed e }
  ended_begins call flag bound todos done log new t (Ok subsequents) e =
      let r = rest_here (Calls true subsequents ∷ After call (set_aside (Cut.shares call) done) ∷ todos) (cond (Cut.shares call) done []) new t in
      record { last = r.last; failure = r.failure; rest = body_done Cut e r.rest }

  -- a call ends, so far as it was recorded
  pub body_begins : (call : CallRow) (flag : Bool) (bound : EnteredRow) (todos : List Todo) (done : List CallRow) (log new : List Entry) (t : Tally) → HasEnded runner call flag bound log new → Begun (Body call flag bound ∷ todos) done log t new
  body_begins call flag bound todos done log new t h = ended_begins call flag bound todos done log new t h.result h.ends

  -- ---- the loop

  -- what a turn recorded from here, the stack recorded from the start
  pub turn_begins : (first mid todos : List Todo) (done0 done : List CallRow) (log0 log new : List Entry) (t0 t : Tally) → mid ≡ todos → Leads Cut first done0 log0 t0 mid done log t → Begun todos done log t new → Begun first done0 log0 t0 new
  turn_begins first mid todos done0 done log0 log new t0 t e a b =
      record { last = b.last; failure = b.failure; rest = a.all new b.last b.failure (subst (λ s. Rest Cut s done log t new b.last b.failure) (sym e) b.rest) }

  -- so it is after each turn: a record that can grow no more stays as it is
  pub loop_begins : {H : Type 0} (first mid todos : List Todo) (done0 done : List CallRow) (log0 : List Entry) (now new : Record H) (t0 t : Tally) → mid ≡ todos → (now.exhausted ≡ false → Leads Cut first done0 log0 t0 mid done now.entries t)
      → (now.exhausted ≡ true → new ≡ now) → Begun first done0 log0 t0 now.entries → Begun todos done now.entries t new.entries → Begun first done0 log0 t0 new.entries
  loop_begins first mid todos done0 done log0 now new t0 t e leads stays before turn = elim now.exhausted as (λ v. now.exhausted ≡ v → Begun first done0 log0 t0 new.entries) [
    | true ↦ λ full. subst (λ s. Begun first done0 log0 t0 s.entries) (sym (stays full)) before
    | false ↦ λ still. turn_begins first mid todos done0 done log0 now.entries new.entries t0 t e (leads still) turn
  ] refl

  -- a stack of calls alone, with nothing done at first, is a run of them
  pub run_begins : (calls : List CallRow) (todos : List Todo) (done : List CallRow) (log new : List Entry) (t : Tally) → todos ≡ Calls false calls ∷ [] → done ≡ [] → Begun todos done log t new → BeginsRun runner calls log t new
  run_begins calls todos done log new t e f b =
      let h = whole Cut (subst (λ (q : List Todo × List CallRow). Rest Cut q.0 q.1 log t new b.last b.failure) (λ i. (e i, f i)) b.rest) in
      record { done = h.0; last = b.last; failure = b.failure; goes = h.1 }
