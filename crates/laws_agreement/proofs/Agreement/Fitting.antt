-- A run for every host is the naive run, where tasks read what means what is read for what heads bind them to.
use Rattle.std.proofs.Common.{◌≡◌, ◌<◌, ℕ, List, [], ◌++◌, Bool, false, Option, Result, Ok, Err}
use Rattle.std.specs.List.{AllByRecursion}
use Rattle.std.specs.Bool.{Decides}
use Rattle.just_host.specs.declared.entry.Entry.{Entry}
use Rattle.meaning_dialogues.specs.Dialogue.{Ends, Lookup, Variable, Reading}
use Rattle.meaning_dialogues.specs.Evaluation.{Value}
use Rattle.meaning_dialogues.specs.Meaning.{Meaning}
use Rattle.meaning_runs.specs.Parts.{Parts}
use Rattle.meaning_runs.specs.Task.{ends}
use Rattle.meaning_runs.specs.Goes.{Goes, over, again, entered, not_begun, prior_failed, not_ended, subsequent_failed}
use Rattle.meaning_runs.specs.Tallies.{Tally}
use Rattle.meaning_runs.specs.Failures.{Failure}
use Rattle.meaning_runs.specs.Told.{Answers, holds, Agrees}
use Rattle.meaning_runs.specs.Meant.{is_event}
use Rattle.meaning_runs.specs.Acts.{Acts, host_parts, meaning_of}
use Rattle.meaning_runs.specs.Naive.{IsSteady, naive}
use Rattle.meaning_runs.specs.Laws.{events_of, end_by, IsBegun, IsEnded, GoBy, IsRanked, OfTrees}
use Rattle.meaning_runs.proofs.Acting.{acts_go_by}
use Rattle.meaning_runs.proofs.Restricted.{only_of}
use Rattle.meaning_runs.proofs.Sharing.{runs_are_naive}
use Rattle.laws_agreement.specs.Agreement.Fitting.{fitting_of, AreFitting, AreSoundFitting}

module _ {Call Bound : Type 0} (Of : Call → Type 0) (Fits : Call → Bound → Type 0) where
  -- a run of calls of the kind is a run of their steps with what fits alone
  pub fitted : {Entry Failure : Type 0} (p : Parts Call Bound Entry Failure) → AreFitting Of Fits p → {flag : Bool} {done : List Call} {old : List Entry} {t : Tally} {calls done' : List Call} {new : List Entry} {t' : Tally} {failure : Option Failure}
      → Goes p flag done old t calls done' new t' failure → AllByRecursion Of calls → Goes (fitting_of Of Fits p) flag done old t calls done' new t' failure
  fitted p closed over h = over
  fitted p closed (again u r) h = again u (fitted p closed r h.1)
  fitted p closed (entered u b g e s j r) h =
      let f = closed.begins _ _ _ _ _ _ h.0 b in
      entered u (h.0, b) (fitted p closed g f.1) ((h.0, f.0), e) (fitted p closed s (closed.ends _ _ _ _ _ _ h.0 f.0 e)) j (fitted p closed r h.1)
  fitted p closed (not_begun u b) h = not_begun u (h.0, b)
  fitted p closed (prior_failed u b g) h = prior_failed u (h.0, b) (fitted p closed g (closed.begins _ _ _ _ _ _ h.0 b).1)
  fitted p closed (not_ended u b g e) h = let f = closed.begins _ _ _ _ _ _ h.0 b in not_ended u (h.0, b) (fitted p closed g f.1) ((h.0, f.0), e)
  fitted p closed (subsequent_failed u b g e s) h =
      let f = closed.begins _ _ _ _ _ _ h.0 b in
      subsequent_failed u (h.0, b) (fitted p closed g f.1) ((h.0, f.0), e) (fitted p closed s (closed.ends _ _ _ _ _ _ h.0 f.0 e))

  module _ (a : Acts Call Bound) (f : Answers) (reading : Call → Reading) (variables : Call → Lookup → Variable → Meaning Value) (sound : AreSoundFitting Of Fits a reading variables) where
    -- the same acts, which do nothing after their head
    abbrev heads : Acts Call Bound
    heads = record {
      same = a.same;
      shares = a.shares;
      head = a.head;
      priors = a.priors;
      body = λ call flag bound. ends (Ok tt);
      subsequents = λ call flag bound. Ends (Ok []);
    }

    -- the same acts, each call bound to this
    abbrev bound_to : Bound → Acts Call Bound
    bound_to bound = record {
      same = a.same;
      shares = a.shares;
      head = λ call flag. ends (Ok bound);
      priors = λ call flag b. Ends (Ok []);
      body = λ call flag b. a.body call flag bound;
      subsequents = λ call flag b. a.subsequents call flag bound;
    }

    heads_go : GoBy is_event (holds f f.recipe) (meaning_of heads f variables) (only_of (host_parts heads reading) Of)
    heads_go = acts_go_by heads f reading variables Of (record { begin = sound.begin; finish = λ call flag bound those. tt })

    bound_go : (bound : Bound) → GoBy is_event (holds f f.recipe) (meaning_of (bound_to bound) f variables) (only_of (host_parts (bound_to bound) reading) (λ call. Of call × Fits call bound))
    bound_go bound = acts_go_by (bound_to bound) f reading variables (λ call. Of call × Fits call bound) (record { begin = λ call flag those. tt; finish = λ call flag b those. sound.finish call flag bound those.0 those.1 })

    begun_as : (call : Call) (flag : Bool) (events : List Entry) (r : Result (Bound × List Call) Failure) → IsBegun is_event (holds f f.recipe) (meaning_of heads f variables) call flag events r → IsBegun is_event (holds f f.recipe) (meaning_of a f variables) call flag events r
    begun_as call flag events (Ok begun) h = h
    begun_as call flag events (Err failure) h = h

    ended_as : (call : Call) (flag : Bool) (bound : Bound) (events : List Entry) (r : Result (List Call) Failure) → IsEnded is_event (holds f f.recipe) (meaning_of (bound_to bound) f variables) call flag bound events r → IsEnded is_event (holds f f.recipe) (meaning_of a f variables) call flag bound events r
    ended_as call flag bound events (Ok calls) h = h
    ended_as call flag bound events (Err failure) h = h

    -- the steps of these calls, bound to what fits, go by the meaning
    pub fitting_go_by : GoBy is_event (holds f f.recipe) (meaning_of a f variables) (fitting_of Of Fits (host_parts a reading))
    fitting_go_by = record {
      begun = λ call flag old new r l. let b = heads_go.begun call flag old new r l in (b.0, b.1, λ agrees. begun_as call flag _ r (b.2 agrees));
      ended = λ call flag bound old new r l. let b = (bound_go bound).ended call flag bound old new r l in (b.0, b.1, λ agrees. ended_as call flag bound _ r (b.2 agrees));
    }

    -- A run whose record agrees with the answers is the naive run.
    pub fitting_are_naive : (decides : (x y : Call) → Decides (a.same x y) (x ≡ y)) (rank : Call → ℕ) → AreFitting Of Fits (host_parts a reading) → IsRanked (meaning_of a f variables) rank
        → (n : ℕ) (calls done : List Call) (old new piece : List Entry) (t t' : Tally) (failure : Option Failure) → ((c : Call) → OfTrees (meaning_of a f variables) calls c → IsSteady a.shares (meaning_of a f variables) c)
        → AllByRecursion (λ c. rank c < n) calls → AllByRecursion Of calls → Goes (host_parts a reading) false [] old t calls done new t' failure → new ≡ old ++ piece → Agrees f piece
        → naive a.same a.shares (meaning_of a f variables) n calls ≡ record { events = events_of is_event piece; end = end_by failure }
    fitting_are_naive decides rank closed ranked n calls done old new piece t t' failure steady lie those run grows agrees =
        runs_are_naive (fitting_of Of Fits (host_parts a reading)) decides is_event (holds f f.recipe) (meaning_of a f variables) rank fitting_go_by ranked n calls done old new piece t t' failure steady lie (fitted (host_parts a reading) closed run those) grows agrees
