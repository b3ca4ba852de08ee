-- The strings so far are written.
use Rattle.std.proofs.Common.{take}
use Rattle.std.specs.Fmt.{HasWritten, IsPlainFormatter}
use Rattle.tree_attributes.specs.Attributes.{strings_text, strings_of}
use Rattle.tree_attributes.proofs.rows.StringsDisplay.fmt.Given as goal

abbrev pub invariant-loop-string : goal.invariant-loop-string
invariant-loop-string g l =
    IsPlainFormatter l.initial.f → HasWritten g.W.Write.write_str_gives l.initial.f (strings_text (strings_of (take l.string-index l.string-items))) l.f
