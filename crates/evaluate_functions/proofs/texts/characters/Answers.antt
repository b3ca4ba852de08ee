-- The characters spell the text.
use Rattle.std.proofs.Common.{◌≡◌, ◌∷◌, [], ◌++◌, map, sym, ap, ◌∙◌, append-nil}
use Rattle.std.proofs.lemmas.Str.{chars_from_encodes}
use Rattle.std.specs.Char.{encode_utf8}
use Rattle.std.specs.Str.{encode_utf8_all}
use Rattle.std.specs.String.{string_bytes}
use Rattle.just_value.proofs.Escapes.{ended, spelled}
use Rattle.evaluate_functions.proofs.Characters.{one_more}
use Rattle.evaluate_functions.proofs.texts.characters.Goals as goal

pub loop-character-preserved : goal.loop-character-preserved
loop-character-preserved c =
    let one : string_bytes c.push.new.self ≡ encode_utf8_all (c.in-Some.character ∷ [])
    = c.in_ok-push.ensures.bytes ∙ ap (λ l. l ++ encode_utf8 c.in-Some.character) c.new-element.ensures.bytes ∙ sym (append-nil (encode_utf8 c.in-Some.character)) in
    record {
      made = c.in_ok-push-2.ensures.grown ∙ ap (λ l. c.loop-character.value ++ l ∷ []) one ∙ ap (λ l. l ++ encode_utf8_all (c.in-Some.character ∷ []) ∷ []) c.loop-character.invariant.made ∙ sym (one_more c.loop-character.yielded c.in-Some.character);
      reached = spelled c.loop-character.yielded c.loop-character.character-iterator.rest.now c.next.new.self.rest.now c.args.text.now c.in-Some.character c.loop-character.invariant.reached c.in-Some.ensures.steps.0;
    }

pub returns : goal.returns
returns c =
    c.loop-character.invariant.made
    ∙ ap (map (λ c. encode_utf8_all (c ∷ []))) (chars_from_encodes c.loop-character.yielded c.args.text.now c.utf8.text (ended (encode_utf8_all c.loop-character.yielded) c.loop-character.character-iterator.rest.now c.args.text.now c.loop-character.invariant.reached c.in-None.ensures.steps.0.0))
