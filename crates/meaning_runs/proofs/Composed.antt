-- A run for every host is the naive run by the answers that agree with it.
use Rattle.std.proofs.Common.{◌≡◌, ◌<◌, ℕ, List, [], ◌++◌, false, Option}
use Rattle.std.specs.List.{AllByRecursion}
use Rattle.std.specs.Bool.{Decides}
use Rattle.just_host.specs.declared.entry.Entry.{Entry}
use Rattle.meaning_dialogues.specs.Dialogue.{Lookup, Variable, Reading}
use Rattle.meaning_dialogues.specs.Evaluation.{Value}
use Rattle.meaning_dialogues.specs.Meaning.{Meaning}
use Rattle.meaning_runs.specs.Failures.{Failure}
use Rattle.meaning_runs.specs.Told.{Answers, holds, Agrees}
use Rattle.meaning_runs.specs.Meant.{is_event}
use Rattle.meaning_runs.specs.Acts.{Acts, host_parts, meaning_of}
use Rattle.meaning_runs.specs.Tallies.{Tally}
use Rattle.meaning_runs.specs.Goes.{Goes}
use Rattle.meaning_runs.specs.Naive.{IsSteady, naive}
use Rattle.meaning_runs.specs.Laws.{events_of, end_by, IsRanked, OfTrees}
use Rattle.meaning_runs.proofs.Acting.{AreSound, acts_go_by}
use Rattle.meaning_runs.proofs.Restricted.{only_of, AreClosed, restricted}
use Rattle.meaning_runs.proofs.Sharing.{runs_are_naive}

pub acts_are_naive : {Call Bound : Type 0} (a : Acts Call Bound) (decides : (x y : Call) → Decides (a.same x y) (x ≡ y)) (f : Answers) (reading : Call → Reading) (variables : Call → Lookup → Variable → Meaning Value) (rank : Call → ℕ) (Of : Call → Type 0)
    → AreSound a reading variables Of → AreClosed (host_parts a reading) Of → IsRanked (meaning_of a f variables) rank
    → (n : ℕ) (calls done : List Call) (old new piece : List Entry) (t t' : Tally) (failure : Option Failure) → ((c : Call) → OfTrees (meaning_of a f variables) calls c → IsSteady a.shares (meaning_of a f variables) c)
    → AllByRecursion (λ c. rank c < n) calls → AllByRecursion Of calls → Goes (host_parts a reading) false [] old t calls done new t' failure → new ≡ old ++ piece → Agrees f piece
    → naive a.same a.shares (meaning_of a f variables) n calls ≡ record { events = events_of is_event piece; end = end_by failure }
acts_are_naive a decides f reading variables rank Of sound closed ranked n calls done old new piece t t' failure steady lie those g grows agrees =
    runs_are_naive (only_of (host_parts a reading) Of) decides is_event (holds f f.recipe) (meaning_of a f variables) rank (acts_go_by a f reading variables Of sound) ranked n calls done old new piece t t' failure steady lie (restricted (host_parts a reading) Of closed g those) grows agrees
