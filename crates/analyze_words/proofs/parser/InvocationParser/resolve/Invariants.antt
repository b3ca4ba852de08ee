-- The rest of the path means from here what the path means from the start.
use Rattle.std.proofs.Common.{◌≡◌, length}
use denote.Text.{Utf8}
use denote.Shadow.{shadow}
use Rattle.meaning_runs.specs.Invokes.{follow}
use Rattle.modules_compilation.specs.Modulepaths.{pieces}
use Rattle.analyze_words.specs.Worded.{words_of}
use Rattle.analyze_words.proofs.parser.InvocationParser.resolve.Given as goal

abbrev pub invariant-loop-name : goal.invariant-loop-name
invariant-loop-name l = shadow (Utf8 l.path) × (follow (words_of l.self.menus.now) l.place (pieces l.word) ≡ follow (words_of l.self.menus.now) l.here (pieces l.path))

abbrev pub decreases-loop-name : goal.decreases-loop-name
decreases-loop-name l = length l.path
