-- Runs that want of memory may cut, and runs that it does not.
use Rattle.std.proofs.Common.{◌≡◌, ◌≢◌, ◌⊎◌, inl, inr, List, Bool, Option, Some, None, Result, Ok, Err, ap}
use Rattle.meaning_dialogues.specs.Faults.{memory}
use Rattle.meaning_runs.specs.Failures.{Failure, evaluation}
use Rattle.meaning_runs.specs.Parts.{Parts}
use Rattle.meaning_runs.specs.Goes.{Goes, over, again, entered, not_begun, prior_failed, not_ended, subsequent_failed}
use Rattle.meaning_runs.specs.Cut.{Cuts, cut_parts}
use Rattle.meaning_runs.specs.Tallies.{Tally}

-- a step that went through was not cut
went_through : {A P C : Type 0} {a : A} → P ⊎ ((Ok a ≡ Err (evaluation memory)) × C) → P
went_through s = elim s [ inl h ↦ h | inr k ↦ absurd (let e = k.0 in cc e) ]

-- a step that failed otherwise was not cut
failed_so : {A P C : Type 0} {failure : Failure} → Some failure ≢ Some (evaluation memory) → (let end : Result A Failure = Err failure in P ⊎ ((end ≡ Err (evaluation memory)) × C)) → P
failed_so {failure = failure} n s = elim s [ inl h ↦ h | inr k ↦ absurd (let e = k.0 in let same : failure ≡ evaluation memory = cc e in n (ap (λ f. Some f) same)) ]

module _ {Call Bound Entry : Type 0} (p : Parts Call Bound Entry Failure) (cuts : Cuts Call Bound Entry) where
  -- a run that does not fail for want of memory was not cut
  pub uncut : {flag : Bool} {done : List Call} {old : List Entry} {t : Tally} {calls done' : List Call} {new : List Entry} {t' : Tally} {failure : Option Failure}
      → failure ≢ Some (evaluation memory) → Goes (cut_parts p cuts) flag done old t calls done' new t' failure → Goes p flag done old t calls done' new t' failure
  uncut n over = over
  uncut n (again u r) = again u (uncut n r)
  uncut n (entered u b g e s j r) = entered u (went_through b) (uncut (λ q. cc) g) (went_through e) (uncut (λ q. cc) s) j (uncut n r)
  uncut n (not_begun u b) = not_begun u (failed_so n b)
  uncut n (prior_failed u b g) = prior_failed u (went_through b) (uncut n g)
  uncut n (not_ended u b g e) = not_ended u (went_through b) (uncut (λ q. cc) g) (failed_so n e)
  uncut n (subsequent_failed u b g e s) = subsequent_failed u (went_through b) (uncut (λ q. cc) g) (went_through e) (uncut n s)

  -- a run is one that may be cut
  pub as_cut : {flag : Bool} {done : List Call} {old : List Entry} {t : Tally} {calls done' : List Call} {new : List Entry} {t' : Tally} {failure : Option Failure}
      → Goes p flag done old t calls done' new t' failure → Goes (cut_parts p cuts) flag done old t calls done' new t' failure
  as_cut over = over
  as_cut (again u r) = again u (as_cut r)
  as_cut (entered u b g e s j r) = entered u (inl b) (as_cut g) (inl e) (as_cut s) j (as_cut r)
  as_cut (not_begun u b) = not_begun u (inl b)
  as_cut (prior_failed u b g) = prior_failed u (inl b) (as_cut g)
  as_cut (not_ended u b g e) = not_ended u (inl b) (as_cut g) (inl e)
  as_cut (subsequent_failed u b g e s) = subsequent_failed u (inl b) (as_cut g) (inl e) (as_cut s)
