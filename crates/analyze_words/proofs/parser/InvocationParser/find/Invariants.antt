-- The words that are left name from here what all words name from the root.
use Rattle.std.proofs.Common.{◌≡◌, ◌≤◌, length}
use Rattle.meaning_runs.specs.Invokes as spec
use Rattle.analyze_words.specs.Worded.{words_of}
use Rattle.analyze_words.proofs.parser.InvocationParser.find.Given as goal

abbrev pub invariant-loop-word : goal.invariant-loop-word
invariant-loop-word l = (spec.find (words_of l.self.menus.now) 0 l.words ≡ spec.find (words_of l.self.menus.now) l.here l.left) × (length l.left ≤ length l.words)

abbrev pub decreases-loop-word : goal.decreases-loop-word
decreases-loop-word l = length l.left
