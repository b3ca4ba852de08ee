-- The characters spell the text.
use Rattle.std.proofs.Common.{◌∷◌, ◌++◌, sym, ap, ◌∙◌}
use Rattle.std.specs.Char.{encode_utf8}
use Rattle.std.specs.List.{flat_map}
use Rattle.just_value.proofs.Escapes.{spelled}
use Rattle.evaluate_functions.specs.Values.{shell_byte}
use Rattle.evaluate_functions.proofs.Quotes.{quoted_next}
use Rattle.evaluate_functions.proofs.values.quoted_text.Goals as goal

pub loop-character-preserved : goal.loop-character-preserved
loop-character-preserved c = record {
  written =
      c.in_ok-push_quoted.ensures
      ∙ ap (λ l. l ++ flat_map shell_byte (encode_utf8 c.in-Some.character)) c.loop-character.invariant.written ∙ ap (λ l. 39 ∷ l) (sym (quoted_next c.loop-character.yielded c.in-Some.character));
  reached = spelled c.loop-character.yielded c.loop-character.character-iterator.rest.now c.next.new.self.rest.now c.args.text.now c.in-Some.character c.loop-character.invariant.reached c.in-Some.ensures.steps.0;
}
