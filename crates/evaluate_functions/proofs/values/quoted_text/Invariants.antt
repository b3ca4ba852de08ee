-- The characters so far stand after a quote, and what is left of the text stands after them.
use Rattle.std.proofs.Common.{◌≡◌, ◌∷◌, ◌++◌}
use Rattle.std.specs.List.{flat_map}
use Rattle.std.specs.Str.{encode_utf8_all}
use Rattle.std.specs.String.{string_bytes}
use Rattle.evaluate_functions.specs.Values.{shell_byte}
use Rattle.evaluate_functions.proofs.values.quoted_text.Given as goal

abbrev pub invariant-loop-character : goal.invariant-loop-character
invariant-loop-character l = record {
  written : string_bytes l.quoted ≡ 39 ∷ flat_map shell_byte (encode_utf8_all l.yielded);
  reached : encode_utf8_all l.yielded ++ l.character-iterator.rest.now ≡ l.text;
}
