-- The spaces so far stand after the text.
use Rattle.std.proofs.Common.{◌≡◌, ◌++◌, replicate}
use Rattle.std.specs.String.{string_bytes}
use Rattle.justfile_analyzer.proofs.padding.push_spaces.Given as goal

abbrev pub invariant-loop-i : goal.invariant-loop-i
invariant-loop-i l = string_bytes l.text ≡ string_bytes l.initial.text ++ replicate l._i 32
