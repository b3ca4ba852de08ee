-- Whatever is taken from here is taken from the start.
use Rattle.std.proofs.Common.{◌≡◌, ◌≤◌, length}
use Rattle.analyze_words.specs.Takings.{IsAt}
use Rattle.meaning_runs.specs.Invokes.{At}
use Rattle.analyze_words.proofs.Taken.{IsTaking}
use Rattle.analyze_words.proofs.taking.Taking.take_all.Given as goal

abbrev pub invariant-loop-word : goal.invariant-loop-word
invariant-loop-word l = ((at : At) → IsAt l.callable.slots.items l.initial.self at → at.words ≡ l.words → IsTaking l.callable.slots.items at l.self l.left) × (length l.left ≤ length l.words)

abbrev pub decreases-loop-word : goal.decreases-loop-word
decreases-loop-word l = length l.left
