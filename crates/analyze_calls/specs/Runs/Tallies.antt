-- How often calls are met and entered; each number stays at its greatest value.
use Rattle.std.specs.Prelude.{◌+◌, ◌-◌, ◌^◌, ◌≤◌, min}
use Rattle.meaning_runs.specs.Tallies as runs
use Rattle.analyze_calls.specs.declared.tally.Tally.{Tally}

abbrev pub met_one : Tally → Tally
met_one t = record t { calls = min (2 ^ 64 - 1) (t.calls + 1) }

abbrev pub entered_one : Tally → Tally
entered_one t = record t { entered = min (2 ^ 64 - 1) (t.entered + 1) }

-- neither number fell, and no more calls were entered than met, where it was so before
pub record HasCounted (old new : Tally) : Type 0 where
  pub calls : old.calls ≤ new.calls
  pub entered : old.entered ≤ new.entered
  pub within : old.entered ≤ old.calls → new.entered ≤ new.calls

-- a tally, as runs see it
abbrev pub tally_of : Tally → runs.Tally
tally_of t = record { calls = t.calls; entered = t.entered }
