-- What a run is, for every host.
use Rattle.std.specs.Prelude.{◌≡◌, List, [], ◌∷◌, Bool, true, false, cond, Option, Some, None, Ok, Err}
use Rattle.meaning_runs.specs.Parts.{Parts, is_met, Joins}
use Rattle.meaning_runs.specs.Tallies.{met_one, entered_one, Tally}

-- Calls in order, as dependencies or not, from those that are done and a record to those that are done then and the record then: one that is
-- done does nothing; another begins, then come its priors among those done, its body, its subsequents with nothing done, and it joins. The first failure ends it all.
pub data Goes {Call Bound Entry Failure : Type 0} (p : Parts Call Bound Entry Failure) : Bool → List Call → List Entry → Tally → List Call → List Call → List Entry → Tally → Option Failure → Type 0 where
  over : {flag : Bool} {done : List Call} {old : List Entry} {t : Tally} → Goes p flag done old t [] done old t None
  again : {flag : Bool} {done : List Call} {old : List Entry} {call : Call} {calls done' : List Call} {new : List Entry} {failure : Option Failure} {t t' : Tally}
      → is_met p.same call done ≡ true → Goes p flag done old (met_one t) calls done' new t' failure
      → Goes p flag done old t (call ∷ calls) done' new t' failure
  entered : {flag : Bool} {done : List Call} {old : List Entry} {call : Call} {calls done' : List Call} {new : List Entry} {failure : Option Failure}
      {bound : Bound} {priors subsequents done1 done2 done3 : List Call} {log1 log2 log3 log4 : List Entry} {t t1 t2 t' : Tally}
      → is_met p.same call done ≡ false
      → p.Begins call flag old log1 (Ok (bound, priors))
      → Goes p true done log1 (entered_one (met_one t)) priors done1 log2 t1 None
      → p.Ends call flag bound log2 log3 (Ok subsequents)
      → Goes p true (cond (p.shares call) done1 []) log3 t1 subsequents done2 log4 t2 None
      → Joins p.same call (cond (p.shares call) done2 done1) done3
      → Goes p flag done3 log4 t2 calls done' new t' failure
      → Goes p flag done old t (call ∷ calls) done' new t' failure
  not_begun : {flag : Bool} {done : List Call} {old : List Entry} {call : Call} {calls : List Call} {new : List Entry} {failure : Failure} {t : Tally}
      → is_met p.same call done ≡ false → p.Begins call flag old new (Err failure)
      → Goes p flag done old t (call ∷ calls) done new (entered_one (met_one t)) (Some failure)
  prior_failed : {flag : Bool} {done : List Call} {old : List Entry} {call : Call} {calls done' : List Call} {new : List Entry} {failure : Failure}
      {bound : Bound} {priors : List Call} {log1 : List Entry} {t t' : Tally}
      → is_met p.same call done ≡ false
      → p.Begins call flag old log1 (Ok (bound, priors))
      → Goes p true done log1 (entered_one (met_one t)) priors done' new t' (Some failure)
      → Goes p flag done old t (call ∷ calls) done' new t' (Some failure)
  not_ended : {flag : Bool} {done : List Call} {old : List Entry} {call : Call} {calls done' : List Call} {new : List Entry} {failure : Failure}
      {bound : Bound} {priors : List Call} {log1 log2 : List Entry} {t t' : Tally}
      → is_met p.same call done ≡ false
      → p.Begins call flag old log1 (Ok (bound, priors))
      → Goes p true done log1 (entered_one (met_one t)) priors done' log2 t' None
      → p.Ends call flag bound log2 new (Err failure)
      → Goes p flag done old t (call ∷ calls) done' new t' (Some failure)
  subsequent_failed : {flag : Bool} {done : List Call} {old : List Entry} {call : Call} {calls done' : List Call} {new : List Entry} {failure : Failure}
      {bound : Bound} {priors subsequents done2 : List Call} {log1 log2 log3 : List Entry} {t t1 t' : Tally}
      → is_met p.same call done ≡ false
      → p.Begins call flag old log1 (Ok (bound, priors))
      → Goes p true done log1 (entered_one (met_one t)) priors done' log2 t1 None
      → p.Ends call flag bound log2 log3 (Ok subsequents)
      → Goes p true (cond (p.shares call) done' []) log3 t1 subsequents done2 new t' (Some failure)
      → Goes p flag done old t (call ∷ calls) done' new t' (Some failure)
