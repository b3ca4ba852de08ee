-- The characters so far are written, escaped, and what is left of the text stands after them.
use Rattle.std.proofs.Common.{◌≡◌, ◌++◌}
use Rattle.std.specs.Fmt.{HasWritten, IsPlainFormatter}
use Rattle.std.specs.List.{flat_map}
use Rattle.std.specs.Str.{encode_utf8_all}
use Rattle.just_value.specs.Values.{escaped}
use Rattle.just_value.proofs.display.QuotedDisplay.fmt.Given as goal

abbrev pub invariant-loop-character : goal.invariant-loop-character
invariant-loop-character g l = record {
  written : IsPlainFormatter l.initial.f → HasWritten g.W.Write.write_str_gives l.initial.f (flat_map escaped (encode_utf8_all l.yielded)) l.f;
  reached : encode_utf8_all l.yielded ++ l.character-iterator.rest.now ≡ l.self.0.now;
}
