-- Runs that want of memory may cut.
use Rattle.std.specs.Prelude.{◌≡◌, ◌⊎◌, List, [], Bool, false, Option, Result, Err}
use Rattle.meaning_dialogues.specs.Faults.{memory}
use Rattle.meaning_runs.specs.Failures.{Failure, evaluation}
use Rattle.meaning_runs.specs.Parts.{Parts}
use Rattle.meaning_runs.specs.Goes.{Goes}
use Rattle.meaning_runs.specs.Tallies.{Tally}

-- how far the steps of one call were recorded where they were cut: as it begins, and as it ends
pub record Cuts (Call Bound Entry : Type 0) : Type 1 where
  pub InBegin : Call → Bool → List Entry → List Entry → Type 0
  pub InEnd : Call → Bool → Bound → List Entry → List Entry → Type 0

module _ {Call Bound Entry : Type 0} (p : Parts Call Bound Entry Failure) (cuts : Cuts Call Bound Entry) where
  -- the steps of calls, of which the last may be cut, which is a failure for want of memory
  abbrev pub cut_parts : Parts Call Bound Entry Failure
  cut_parts = record {
    same = p.same;
    shares = p.shares;
    Begins = λ call flag old new r. p.Begins call flag old new r ⊎ ((r ≡ Err (evaluation memory)) × cuts.InBegin call flag old new);
    Ends = λ call flag bound old new r. p.Ends call flag bound old new r ⊎ ((r ≡ Err (evaluation memory)) × cuts.InEnd call flag bound old new);
  }

  -- what was recorded is the beginning of what the calls record with nothing done at first: the last step may be cut
  pub record BeginsRun (calls : List Call) (old : List Entry) (t : Tally) (new : List Entry) : Type 0 where
    pub done : List Call
    pub last : Tally
    pub failure : Option Failure
    pub goes : Goes cut_parts false [] old t calls done new last failure
