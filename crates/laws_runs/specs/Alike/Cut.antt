-- Steps of calls that want of memory may cut, under other names.
use Rattle.std.specs.Prelude.{List, Bool, Err}
use Rattle.meaning_dialogues.specs.Faults.{memory}
use Rattle.meaning_runs.specs.Cut.{Cuts}
use Rattle.meaning_runs.specs.Failures.{Failure, evaluation}
use Rattle.meaning_runs.specs.Parts.{Parts}

module _ {Call Bound Call' Bound' Entry : Type 0} (p : Parts Call Bound Entry Failure) (cuts : Cuts Call Bound Entry) (cuts' : Cuts Call' Bound' Entry) (Of : Call → Type 0) (name : Call → Call') (Same : Call → Bool → Bound → Bound' → Type 0) where
  -- What was recorded of a step of a call of the kind that was cut is what is recorded of it under its name where it is cut there; and so it is of one that failed for want of memory.
  pub record CutsAlike : Type 0 where
    pub in_begin : (call : Call) (flag : Bool) (old new : List Entry) → Of call → cuts.InBegin call flag old new → cuts'.InBegin (name call) flag old new
    pub in_end : (call : Call) (flag : Bool) (bound : Bound) (bound' : Bound') (old new : List Entry) → Of call → Same call flag bound bound' → cuts.InEnd call flag bound old new → cuts'.InEnd (name call) flag bound' old new
    pub not_begun : (call : Call) (flag : Bool) (old new : List Entry) → Of call → p.Begins call flag old new (Err (evaluation memory)) → cuts'.InBegin (name call) flag old new
    pub not_ended : (call : Call) (flag : Bool) (bound : Bound) (bound' : Bound') (old new : List Entry) → Of call → Same call flag bound bound' → p.Ends call flag bound old new (Err (evaluation memory))
        → cuts'.InEnd (name call) flag bound' old new
