-- One turn of the loop, for each way that it goes.
use Rattle.std.proofs.Common.{◌≡◌, ◌∷◌, [], true, false, Bool, cond, List, Option, Some, None, subst, sym, refl, ◌∙◌, ap}
use Rattle.std.specs.Prelude.{◌≢◌, Result, Ok, Err}
use Rattle.just_host.specs.declared.entry.Entry.{Entry}
use Rattle.just_host.specs.Record.{Record}
use Rattle.just_host.specs.Follows.{Nothing}
use Rattle.just_host.specs.Asking.{Asks}
use Rattle.just_host.specs.AskingLaws.{asked_nothing}
use Rattle.just_host.specs.Kinds.{Only}
use Rattle.just_host.specs.KindsLaws.{every, only_nothing}
use Rattle.just_host.specs.Steps as steps
use Rattle.evaluate_context.specs.declared.context.ExecutionContext.{ExecutionContext}
use Rattle.justfile_evaluator.specs.declared.fault.RunFault.{RunFault}
use Rattle.meaning_dialogues.specs.Faults.{memory}
use Rattle.meaning_runs.specs.Failures.{Failure, evaluation}
use Rattle.meaning_runs.specs.Parts.{Parts, is_met, Joins}
use Rattle.meaning_runs.specs.Goes.{over, again, entered, not_begun, prior_failed, not_ended, subsequent_failed}
use Rattle.meaning_runs.specs.Tallies as runs
use Rattle.analyze_calls.specs.Calls.{CallRow, row_of, rows}
use Rattle.justfile_evaluator.specs.Ended.{failure_of}
use Rattle.analyze_calls.specs.Asked.{AsksIn, AsksUser}
use Rattle.analyze_calls.specs.Entered.{EnteredRow}
use Rattle.analyze_calls.specs.Runs.Ran.{IfRan, IfTurned}
use Rattle.analyze_calls.specs.Runs.Rest.{Rest, finished, went, stopped, block_went, block_failed, block_stopped, back, Leads, HasRun, set_aside, restored}
use Rattle.analyze_calls.specs.Runs.Tallies.{met_one, entered_one, tally_of}
use Rattle.analyze_calls.specs.Runs.Cut.{cuts, parts_cut}
use Rattle.analyze_calls.specs.Runs.Steps.{parts}
use Rattle.analyze_calls.specs.declared.plan.Runner.{Runner}
use Rattle.meaning_runs.proofs.Cutting.{uncut}
use Rattle.analyze_calls.specs.Runs.Todo.{Todo, Calls, Body, After, before}
use Rattle.analyze_calls.specs.declared.call.Call.{Call}
use Rattle.analyze_calls.specs.declared.tally.Tally.{Tally}

module _ {H : Type 0} (goes : H → List Entry → H → Type 0) (contexts : List ExecutionContext) where
  -- where nothing is handed over, that is so whatever the contexts are
  pub user_in : (a b : Record H) → AsksUser goes a b → AsksIn contexts goes a b
  user_in a b asks = λ kinds questions user work. asks kinds questions user

  -- what is asked after what was asked
  pub asked_on : (a b c : Record H) → AsksIn contexts goes a b → AsksIn contexts goes b c → AsksIn contexts goes a c
  asked_on a b c first second = λ kinds questions user work start asked. second kinds questions user work start (first kinds questions user work start asked)

  -- a record that can grow no more stays as it is
  pub stays : Nothing goes → (a b : Record H) → AsksIn contexts goes a b → a.exhausted ≡ true → b ≡ a
  stays nothing a b asks =
      let all : Asks (Only every goes) a b = asks every (record { asked = λ q r. refl }) (record { shown = λ t. refl; confirmed = λ p r. refl }) (λ context there dry. record { lines = λ k r. refl; scripts = λ k r. refl }) in
      (all a (asked_nothing (Only every goes) (only_nothing every goes nothing) a)).followed.stays

  -- a record that can still grow could grow before
  pub was_open : Nothing goes → (a b : Record H) → AsksIn contexts goes a b → b.exhausted ≡ false → a.exhausted ≡ false
  was_open nothing a b asks e = steps.was_open a b (stays nothing a b asks) e

-- what is restored after subsequents: what they did where they share it, and else what was done before
after_set_aside : (shared : Bool) (done done2 : List CallRow) → restored (set_aside shared done) done2 ≡ cond shared done2 done
after_set_aside true done done2 = refl
after_set_aside false done done2 = refl

-- calls before what follows them: none at all, or some
pub none_before : (flag : Bool) (pending : List Call) (todos : List Todo) → pending ≡ [] → before flag (rows pending) todos ≡ todos
none_before flag pending todos e = ap (λ cs. before flag (rows cs) todos) e

pub some_before : (flag : Bool) (pending : List Call) (todos : List Todo) → pending ≢ [] → before flag (rows pending) todos ≡ Calls flag (rows pending) ∷ todos
some_before flag [] todos some = absurd (some refl)
some_before flag (call ∷ calls) todos some = refl

module _ (p : Parts CallRow EnteredRow Entry Failure) where
  pub met_again : {todos : List Todo} {flag : Bool} {call : CallRow} {calls done : List CallRow} {log new : List Entry} {t t' : runs.Tally} {failure : Option Failure} → is_met p.same call done ≡ true
      → Rest p (Calls flag calls ∷ todos) done log (runs.met_one t) new t' failure → Rest p (Calls flag (call ∷ calls) ∷ todos) done log t new t' failure
  met_again k (went g r) = went (again k g) r
  met_again k (stopped g) = stopped (again k g)

  pub entering : {todos : List Todo} {flag : Bool} {call : CallRow} {calls done priors : List CallRow} {bound : EnteredRow} {log log1 new : List Entry} {t t' : runs.Tally} {failure : Option Failure}
      → is_met p.same call done ≡ false → p.Begins call flag log log1 (Ok (bound, priors))
      → Rest p (Calls true priors ∷ Body call flag bound ∷ Calls flag calls ∷ todos) done log1 (runs.entered_one (runs.met_one t)) new t' failure → Rest p (Calls flag (call ∷ calls) ∷ todos) done log t new t' failure
  entering u b (stopped g) = stopped (prior_failed u b g)
  entering u b (went g (block_failed e)) = stopped (not_ended u b g e)
  entering u b (went g (block_stopped e s)) = stopped (subsequent_failed u b g e s)
  entering u b (went g (block_went e s j (stopped r))) = stopped (entered u b g e s j r)
  entering u b (went g (block_went e s j (went r rest))) = went (entered u b g e s j r) rest

  -- what a stack does with calls on it, if there are any, it does with them
  pub with_calls : {todos : List Todo} {flag : Bool} {calls done : List CallRow} {log new : List Entry} {t t' : runs.Tally} {failure : Option Failure}
      → Rest p (before flag calls todos) done log t new t' failure → Rest p (Calls flag calls ∷ todos) done log t new t' failure
  with_calls {calls = []} r = went over r
  with_calls {calls = call ∷ calls} r = r

  behind_body : {todos : List Todo} {flag : Bool} {call : CallRow} {calls done priors : List CallRow} {bound : EnteredRow} {log new : List Entry} {t t' : runs.Tally} {failure : Option Failure}
      → Rest p (Calls true priors ∷ Body call flag bound ∷ before flag calls todos) done log t new t' failure → Rest p (Calls true priors ∷ Body call flag bound ∷ Calls flag calls ∷ todos) done log t new t' failure
  behind_body (stopped g) = stopped g
  behind_body (went g (block_failed e)) = went g (block_failed e)
  behind_body (went g (block_stopped e s)) = went g (block_stopped e s)
  behind_body (went g (block_went e s j r)) = went g (block_went e s j (with_calls r))

  pub body_done : {todos : List Todo} {flag : Bool} {call : CallRow} {done subsequents : List CallRow} {bound : EnteredRow} {log log1 new : List Entry} {t t' : runs.Tally} {failure : Option Failure}
      → p.Ends call flag bound log log1 (Ok subsequents)
      → Rest p (Calls true subsequents ∷ After call (set_aside (p.shares call) done) ∷ todos) (cond (p.shares call) done []) log1 t new t' failure → Rest p (Body call flag bound ∷ todos) done log t new t' failure
  body_done e (stopped s) = block_stopped e s
  body_done {call = call} {done = done} e (went {done1 = done2} s (back {done3 = done3} j r)) =
      block_went e s (subst (λ d. Joins p.same call d done3) (after_set_aside (p.shares call) done done2) j) r

  pub whole : {calls : List CallRow} {log new : List Entry} {t t' : runs.Tally} {failure : Option Failure} → Rest p (Calls false calls ∷ []) [] log t new t' failure → HasRun p calls log t new t' failure
  whole (stopped {done1 = d} g) = (d, g)
  whole (went {done1 = d} g finished) = (d, g)

  -- ---- turns of calls

  pub emptied : (flag : Bool) (pending : List Call) (todos : List Todo) (done : List CallRow) (log : List Entry) (t : runs.Tally) → pending ≡ [] → Leads p (Calls flag (rows pending) ∷ todos) done log t todos done log t
  emptied flag pending todos done log t e = subst (λ cs. Leads p (Calls flag (rows cs) ∷ todos) done log t todos done log t) (sym e) (record { all = λ new last failure r. went over r })

  pub passed : (flag : Bool) (pending : List Call) (call : Call) (calls : List Call) (todos todos' : List Todo) (done : List CallRow) (log : List Entry) (t t' : Tally) → pending ≡ call ∷ calls → todos' ≡ before flag (rows calls) todos
      → t' ≡ met_one t → is_met p.same (row_of call) done ≡ true → Leads p (Calls flag (rows pending) ∷ todos) done log (tally_of t) todos' done log (tally_of t')
  passed flag pending call calls todos todos' done log t t' e f g k =
      subst (λ cs. Leads p (Calls flag (rows cs) ∷ todos) done log (tally_of t) todos' done log (tally_of t')) (sym e)
      (subst (λ (q : List Todo × Tally). Leads p (Calls flag (rows (call ∷ calls)) ∷ todos) done log (tally_of t) q.0 done log (tally_of q.1)) (λ i. (sym f i, sym g i)) (record { all = λ new last failure r. met_again k (with_calls r) }))

  pub opened : (flag : Bool) (pending : List Call) (call : Call) (calls : List Call) (priors : List CallRow) (bound : EnteredRow) (todos todos' : List Todo) (done : List CallRow) (log log1 : List Entry) (t t' : Tally) → pending ≡ call ∷ calls
      → todos' ≡ before true priors (Body (row_of call) flag bound ∷ before flag (rows calls) todos) → t' ≡ entered_one (met_one t)
      → is_met p.same (row_of call) done ≡ false → p.Begins (row_of call) flag log log1 (Ok (bound, priors)) → Leads p (Calls flag (rows pending) ∷ todos) done log (tally_of t) todos' done log1 (tally_of t')
  opened flag pending call calls priors bound todos todos' done log log1 t t' e f g u b =
      subst (λ cs. Leads p (Calls flag (rows cs) ∷ todos) done log (tally_of t) todos' done log1 (tally_of t')) (sym e)
      (subst (λ (q : List Todo × Tally). Leads p (Calls flag (rows (call ∷ calls)) ∷ todos) done log (tally_of t) q.0 done log1 (tally_of q.1)) (λ i. (sym f i, sym g i)) (record { all = λ new last failure r. entering u b (behind_body (with_calls r)) }))

  pub refused : (flag : Bool) (pending : List Call) (call : Call) (calls : List Call) (todos : List Todo) (done : List CallRow) (log new : List Entry) (t t' : Tally) (exhausted : Bool) (fault : RunFault) (P : Type 0) → pending ≡ call ∷ calls
      → t' ≡ entered_one (met_one t) → is_met p.same (row_of call) done ≡ false → (exhausted ≡ false → failure_of fault ≢ evaluation memory → p.Begins (row_of call) flag log new (Err (failure_of fault)))
      → IfTurned exhausted (Err fault) P (λ failure. Rest p (Calls flag (rows pending) ∷ todos) done log (tally_of t) new (tally_of t') (Some failure))
  refused flag pending call calls todos done log new t t' exhausted fault P e g u b = λ k n.
      subst (λ (q : List Call × Tally). Rest p (Calls flag (rows q.0) ∷ todos) done log (tally_of t) new (tally_of q.1) (Some (failure_of fault))) (λ i. (sym e i, sym g i)) (stopped (not_begun u (b k n)))

  -- ---- turns of bodies

  pub blocked : (call : CallRow) (flag : Bool) (bound : EnteredRow) (shared : Bool) (subsequents : List CallRow) (todos todos' : List Todo) (done done' : List CallRow) (log log1 : List Entry) (t : runs.Tally) → shared ≡ p.shares call
      → todos' ≡ Calls true subsequents ∷ After call (set_aside shared done) ∷ todos → done' ≡ cond shared done []
      → p.Ends call flag bound log log1 (Ok subsequents) → Leads p (Body call flag bound ∷ todos) done log t todos' done' log1 t
  blocked call flag bound shared subsequents todos todos' done done' log log1 t h f g b =
      subst (λ (q : List Todo × List CallRow). Leads p (Body call flag bound ∷ todos) done log t q.0 q.1 log1 t)
      (λ i. (sym (f ∙ (λ j. Calls true subsequents ∷ After call (set_aside (h j) done) ∷ todos)) i, sym (g ∙ (λ j. cond (h j) done [])) i)) (record { all = λ new last failure r. body_done b r })

  not_aside : (shared : Bool) (done : List CallRow) → cond shared (cond shared done []) done ≡ done
  not_aside true done = refl
  not_aside false done = refl

  -- nothing follows the body
  pub alone : (call : CallRow) (flag : Bool) (bound : EnteredRow) (subsequents : List Call) (todos : List Todo) (done done' : List CallRow) (log log1 : List Entry) (t : runs.Tally) → subsequents ≡ []
      → Joins p.same call done done' → p.Ends call flag bound log log1 (Ok (rows subsequents)) → Leads p (Body call flag bound ∷ todos) done log t todos done' log1 t
  alone call flag bound subsequents todos done done' log log1 t e j b = record {
    all = λ new last failure r.
        block_went (subst (λ cs. p.Ends call flag bound log log1 (Ok (rows cs))) e b) over (subst (λ d. Joins p.same call d done') (sym (not_aside (p.shares call) done)) j) r;
  }

  pub body_refused : (call : CallRow) (flag : Bool) (bound : EnteredRow) (todos : List Todo) (done : List CallRow) (log new : List Entry) (t : runs.Tally) (exhausted : Bool) (fault : RunFault) (P : Type 0)
      → (exhausted ≡ false → failure_of fault ≢ evaluation memory → p.Ends call flag bound log new (Err (failure_of fault)))
      → IfTurned exhausted (Err fault) P (λ failure. Rest p (Body call flag bound ∷ todos) done log t new t (Some failure))
  body_refused call flag bound todos done log new t exhausted fault P b = λ k n. block_failed (b k n)

  -- ---- the loop

  pub idle : (todos : List Todo) (done : List CallRow) (log : List Entry) (t : runs.Tally) → Leads p todos done log t todos done log t
  idle todos done log t = record { all = λ new last failure r. r }

  pub on : {first todos todos' mid : List Todo} {done0 done done' : List CallRow} {log0 log log' : List Entry} {t0 t t' : runs.Tally} → mid ≡ todos → Leads p first done0 log0 t0 mid done log t → Leads p todos done log t todos' done' log' t' → Leads p first done0 log0 t0 todos' done' log' t'
  on {first = first} {done0 = done0} {done = done} {log0 = log0} {log = log} {t0 = t0} {t = t} e a b =
      let c = subst (λ s. Leads p first done0 log0 t0 s done log t) e a in record { all = λ new last failure r. c.all new last failure (b.all new last failure r) }

  pub returned : (call : CallRow) (outer : Option (List CallRow)) (done done3 : List CallRow) (todos : List Todo) (log : List Entry) (t : runs.Tally) → Joins p.same call (restored outer done) done3 → Leads p (After call outer ∷ todos) done log t todos done3 log t
  returned call outer done done3 todos log t j = record { all = λ new last failure r. back j r }

  pub ends : (first todos : List Todo) (done0 done : List CallRow) (log0 log : List Entry) (t0 t : runs.Tally) → todos ≡ [] → Leads p first done0 log0 t0 todos done log t → Rest p first done0 log0 t0 log t None
  ends first todos done0 done log0 log t0 t e a = a.all log t None (subst (λ s. Rest p s done log t log t None) (sym e) finished)

  pub fails : (first mid todos : List Todo) (done0 done : List CallRow) (log0 log new : List Entry) (t0 t t' : runs.Tally) (exhausted : Bool) (fault : RunFault) (P : Type 0) → mid ≡ todos
      → (exhausted ≡ false → Leads p first done0 log0 t0 mid done log t) → IfTurned exhausted (Err fault) P (λ failure. Rest p todos done log t new t' (Some failure))
      → IfRan exhausted (Err fault) (Rest p first done0 log0 t0 new t')
  fails first mid todos done0 done log0 log new t0 t t' exhausted fault P e a b = λ k n.
      (a k).all new t' (Some (failure_of fault)) (subst (λ s. Rest p s done log t new t' (Some (failure_of fault))) (sym e) (b k n))

  whole_if : (calls : List CallRow) (todos : List Todo) (done : List CallRow) (log new : List Entry) (t t' : runs.Tally) (failure : Option Failure) → todos ≡ Calls false calls ∷ [] → done ≡ [] → Rest p todos done log t new t' failure → HasRun p calls log t new t' failure
  whole_if calls todos done log new t t' failure e f r = whole (subst (λ (q : List Todo × List CallRow). Rest p q.0 q.1 log t new t' failure) (λ i. (e i, f i)) r)

  pub begins : (calls : List CallRow) (todos : List Todo) (done : List CallRow) (log new : List Entry) (t t' : runs.Tally) (exhausted : Bool) (result : Result (Unit {0}) RunFault) → todos ≡ Calls false calls ∷ [] → done ≡ []
      → IfRan exhausted result (Rest p todos done log t new t') → IfRan exhausted result (HasRun p calls log t new t')
  begins calls todos done log new t t' exhausted (Ok u) e f h = λ k. whole_if calls todos done log new t t' None e f (h k)
  begins calls todos done log new t t' exhausted (Err fault) e f h = λ k n. whole_if calls todos done log new t t' (Some (failure_of fault)) e f (h k n)

-- a run that does not fail for want of memory was not cut
pub run_uncut : (runner : Runner) (calls : List CallRow) (todos : List Todo) (done : List CallRow) (log new : List Entry) (t t' : runs.Tally) (exhausted : Bool) (result : Result (Unit {0}) RunFault) → todos ≡ Calls false calls ∷ [] → done ≡ []
    → IfRan exhausted result (Rest (parts_cut runner) todos done log t new t') → IfRan exhausted result (HasRun (parts runner) calls log t new t')
run_uncut runner calls todos done log new t t' exhausted (Ok u) e f h = λ k. let r = begins (parts_cut runner) calls todos done log new t t' exhausted (Ok u) e f h k in (r.0, uncut (parts runner) (cuts runner) (λ q. cc) r.1)
run_uncut runner calls todos done log new t t' exhausted (Err fault) e f h = λ k n.
    let r = begins (parts_cut runner) calls todos done log new t t' exhausted (Err fault) e f h k n in
    (r.0, uncut (parts runner) (cuts runner) (λ q. n (let same : failure_of fault ≡ evaluation memory = cc q in same)) r.1)
