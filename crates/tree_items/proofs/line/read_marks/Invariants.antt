-- The marks so far, and those that follow, are the marks of the text.
use Rattle.std.proofs.Common.{◌≡◌, drop}
use Rattle.tree_items.specs.Lines.{read_sigils, no_sigils}
use Rattle.tree_items.proofs.line.read_marks.Given as goal

abbrev pub invariant-loop-byte : goal.invariant-loop-byte
invariant-loop-byte l = read_sigils l.guards l.sigils (drop l.byte-index l.byte-items) ≡ read_sigils l.guards no_sigils l.byte-items
