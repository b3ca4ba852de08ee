-- A run of calls of a kind that is closed under what calls bring about.
use Rattle.std.proofs.Common.{List, Bool, Option, Ok}
use Rattle.std.specs.List.{AllByRecursion}
use Rattle.meaning_runs.specs.Parts.{Parts}
use Rattle.meaning_runs.specs.Goes.{Goes, over, again, entered, not_begun, prior_failed, not_ended, subsequent_failed}
use Rattle.meaning_runs.specs.Tallies.{Tally}

module _ {Call Bound Entry Failure : Type 0} (p : Parts Call Bound Entry Failure) (Of : Call → Type 0) where
  -- the steps of calls of this kind alone
  abbrev pub only_of : Parts Call Bound Entry Failure
  only_of = record {
    same = p.same;
    shares = p.shares;
    Begins = λ call flag old new r. Of call × p.Begins call flag old new r;
    Ends = λ call flag bound old new r. Of call × p.Ends call flag bound old new r;
  }

  -- a call of this kind brings about calls of this kind
  pub record AreClosed : Type 0 where
    pub begins : (call : Call) (flag : Bool) (old new : List Entry) (bound : Bound) (calls : List Call) → Of call → p.Begins call flag old new (Ok (bound, calls)) → AllByRecursion Of calls
    pub ends : (call : Call) (flag : Bool) (bound : Bound) (old new : List Entry) (calls : List Call) → Of call → p.Ends call flag bound old new (Ok calls) → AllByRecursion Of calls

  pub restricted : AreClosed → {flag : Bool} {done : List Call} {old : List Entry} {t : Tally} {calls done' : List Call} {new : List Entry} {t' : Tally} {failure : Option Failure}
      → Goes p flag done old t calls done' new t' failure → AllByRecursion Of calls → Goes only_of flag done old t calls done' new t' failure
  restricted closed over h = over
  restricted closed (again u r) h = again u (restricted closed r h.1)
  restricted closed (entered u b g e s j r) h =
      entered u (h.0, b) (restricted closed g (closed.begins _ _ _ _ _ _ h.0 b)) (h.0, e) (restricted closed s (closed.ends _ _ _ _ _ _ h.0 e)) j (restricted closed r h.1)
  restricted closed (not_begun u b) h = not_begun u (h.0, b)
  restricted closed (prior_failed u b g) h = prior_failed u (h.0, b) (restricted closed g (closed.begins _ _ _ _ _ _ h.0 b))
  restricted closed (not_ended u b g e) h = not_ended u (h.0, b) (restricted closed g (closed.begins _ _ _ _ _ _ h.0 b)) (h.0, e)
  restricted closed (subsequent_failed u b g e s) h =
      subsequent_failed u (h.0, b) (restricted closed g (closed.begins _ _ _ _ _ _ h.0 b)) (h.0, e) (restricted closed s (closed.ends _ _ _ _ _ _ h.0 e))
