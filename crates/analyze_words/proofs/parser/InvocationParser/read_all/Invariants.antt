-- Whatever the words that are left invoke, all words invoke after what was read.
use Rattle.std.proofs.Common.{length}
use Rattle.analyze_words.specs.Worded.{words_of}
use Rattle.analyze_words.proofs.Invoking.{IsReading}
use Rattle.analyze_words.proofs.parser.InvocationParser.read_all.Given as goal

abbrev pub invariant-loop-left : goal.invariant-loop-left
invariant-loop-left l = IsReading (words_of l.self.menus.now) l.words l.initial.invocations.items l.invocations.items l.left

abbrev pub decreases-loop-left : goal.decreases-loop-left
decreases-loop-left l = length l.left
