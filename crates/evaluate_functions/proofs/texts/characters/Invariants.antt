-- The characters so far, and what is left of the text.
use Rattle.std.proofs.Common.{◌≡◌, ◌∷◌, [], ◌++◌, map}
use Rattle.std.specs.Str.{encode_utf8_all}
use Rattle.evaluate_functions.proofs.texts.characters.Given as goal

abbrev pub invariant-loop-character : goal.invariant-loop-character
invariant-loop-character l = record {
  made : l.value ≡ map (λ c. encode_utf8_all (c ∷ [])) l.yielded;
  reached : encode_utf8_all l.yielded ++ l.character-iterator.rest.now ≡ l.text;
}
