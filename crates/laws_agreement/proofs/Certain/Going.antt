-- A run doesn't fail with `internal` whose calls' steps don't.
use Rattle.std.proofs.Common.{List, Bool, Option, Some, None, Result}
use Rattle.std.specs.List.{AllByRecursion}
use Rattle.just_host.specs.declared.entry.Entry.{Entry}
use Rattle.meaning_runs.specs.Failures.{Failure}
use Rattle.meaning_runs.specs.Parts.{Parts}
use Rattle.meaning_runs.specs.Tallies.{Tally}
use Rattle.meaning_runs.specs.Goes.{Goes, over, again, entered, not_begun, prior_failed, not_ended, subsequent_failed}
use Rattle.just_meaning.specs.Certain.{IsCertainFailure}
use Rattle.laws_agreement.proofs.Certain.Tasks.{ResultsIn}

-- no failure, or one that is no `internal`
abbrev pub NoneFails : Option Failure → Type 0
NoneFails None = Unit {0}
NoneFails (Some failure) = IsCertainFailure failure

module _ {Call Bound : Type 0} (Kind : Call → Type 0) (Fits : Call → Bound → Type 0) (p : Parts Call Bound Entry Failure) where
  -- calls of the kind are bound to what fits and bring about calls of the kind, or fail with no `internal`
  pub record AreWell : Type 0 where
    pub begins : (call : Call) (flag : Bool) (old new : List Entry) (r : Result (Bound × List Call) Failure) → Kind call → p.Begins call flag old new r → ResultsIn (λ begun. Fits call begun.0 × AllByRecursion Kind begun.1) r
    pub ends : (call : Call) (flag : Bool) (bound : Bound) (old new : List Entry) (r : Result (List Call) Failure) → Kind call → Fits call bound → p.Ends call flag bound old new r → ResultsIn (AllByRecursion Kind) r

  -- then a run of them does
  pub goes_well : AreWell → {flag : Bool} {done : List Call} {old : List Entry} {t : Tally} {calls done' : List Call} {new : List Entry} {t' : Tally} {failure : Option Failure}
      → Goes p flag done old t calls done' new t' failure → AllByRecursion Kind calls → NoneFails failure
  goes_well well over h = tt
  goes_well well (again u r) h = goes_well well r h.1
  goes_well well (entered u b g e s j r) h = goes_well well r h.1
  goes_well well (not_begun u b) h = well.begins _ _ _ _ _ h.0 b
  goes_well well (prior_failed u b g) h = goes_well well g (well.begins _ _ _ _ _ h.0 b).1
  goes_well well (not_ended u b g e) h = let f = well.begins _ _ _ _ _ h.0 b in well.ends _ _ _ _ _ _ h.0 f.0 e
  goes_well well (subsequent_failed u b g e s) h = let f = well.begins _ _ _ _ _ h.0 b in goes_well well s (well.ends _ _ _ _ _ _ h.0 f.0 e)
