-- Two runs that agree with one set of answers go alike.
use Rattle.std.specs.Prelude.{◌≡◌, List, ◌++◌, Option}
use Rattle.just_host.specs.declared.entry.Entry.{Entry}
use Rattle.meaning_runs.specs.Failures.{Failure}
use Rattle.meaning_runs.specs.Laws.{events_of}
use Rattle.meaning_runs.specs.Meant.{is_event}
use Rattle.meaning_runs.specs.Tallies.{Tally}
use Rattle.meaning_evaluation.specs.Requests.{OpeningFailure}
use Rattle.just_meaning.specs.Runs.{Outcome, not_opened, outcome_of}

-- the tally before anything is met
abbrev pub nothing : Tally
nothing = record { calls = 0; entered = 0 }

-- how two runs went alike: neither got past its opening; or both did, with the same events, as many calls, and the same end
pub data GoAlike {Rule : Type 0} (old new old' new' : List Entry) (t t' : Tally) (outcome outcome' : Outcome Rule) : Type 0 where
  both_refused : (fault fault' : OpeningFailure) → outcome ≡ not_opened fault → outcome' ≡ not_opened fault' → GoAlike old new old' new' t t' outcome outcome'
  both_ran : (piece piece' : List Entry) (failure : Option Failure) → new ≡ old ++ piece → new' ≡ old' ++ piece' → events_of is_event piece ≡ events_of is_event piece' → t ≡ t'
      → outcome ≡ outcome_of failure → outcome' ≡ outcome_of failure → GoAlike old new old' new' t t' outcome outcome'

-- whatever faults kept two runs from getting past their opening, they go alike
abbrev pub RefusedGoAlike : Type 0 → Type 0
RefusedGoAlike Rule = (old new old' new' : List Entry) (t t' : Tally) (fault fault' : OpeningFailure) → GoAlike {Rule = Rule} old new old' new' t t' (not_opened fault) (not_opened fault')

-- two runs with the same events, as many calls and the same end go alike, whatever else they recorded
abbrev pub EqualEventsGoAlike : Type 0 → Type 0
EqualEventsGoAlike Rule = (old piece old' piece' : List Entry) (t : Tally) (failure : Option Failure) → events_of is_event piece ≡ events_of is_event piece'
    → GoAlike {Rule = Rule} old (old ++ piece) old' (old' ++ piece') t t (outcome_of failure) (outcome_of failure)
