-- Runs of calls of a kind, each with what its head may bind it to.
use Rattle.std.specs.Prelude.{List, Bool, Ok}
use Rattle.std.specs.List.{AllByRecursion}
use Rattle.meaning_dialogues.specs.Dialogue.{Lookup, Variable, Reading}
use Rattle.meaning_dialogues.specs.Evaluation.{Value}
use Rattle.meaning_dialogues.specs.Meaning.{Meaning}
use Rattle.meaning_dialogues.proofs.Unfolding.{IsMeant}
use Rattle.meaning_runs.specs.Parts.{Parts}
use Rattle.meaning_runs.specs.Acts.{Acts, begin, finish}
use Rattle.meaning_runs.proofs.Tasks.{Sound}

module _ {Call Bound : Type 0} (Of : Call → Type 0) (Fits : Call → Bound → Type 0) where
  -- the steps of calls of this kind alone, each bound to what fits
  abbrev pub fitting_of : {Entry Failure : Type 0} → Parts Call Bound Entry Failure → Parts Call Bound Entry Failure
  fitting_of p = record {
    same = p.same;
    shares = p.shares;
    Begins = λ call flag old new r. Of call × p.Begins call flag old new r;
    Ends = λ call flag bound old new r. (Of call × Fits call bound) × p.Ends call flag bound old new r;
  }

  -- a call of this kind is bound to what fits, and brings about calls of this kind
  pub record AreFitting {Entry Failure : Type 0} (p : Parts Call Bound Entry Failure) : Type 0 where
    pub begins : (call : Call) (flag : Bool) (old new : List Entry) (bound : Bound) (calls : List Call) → Of call → p.Begins call flag old new (Ok (bound, calls)) → Fits call bound × AllByRecursion Of calls
    pub ends : (call : Call) (flag : Bool) (bound : Bound) (old new : List Entry) (calls : List Call) → Of call → Fits call bound → p.Ends call flag bound old new (Ok calls) → AllByRecursion Of calls

  -- the tasks of calls of this kind, bound to what fits, read only what means what is read
  pub record AreSoundFitting (a : Acts Call Bound) (reading : Call → Reading) (variables : Call → Lookup → Variable → Meaning Value) : Type 0 where
    pub begin : (call : Call) (flag : Bool) → Of call → Sound (IsMeant (reading call) (variables call)) (begin a call flag)
    pub finish : (call : Call) (flag : Bool) (bound : Bound) → Of call → Fits call bound → Sound (IsMeant (reading call) (variables call)) (finish a call flag bound)
