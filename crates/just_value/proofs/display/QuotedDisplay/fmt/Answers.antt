-- The characters spell the text.
use Rattle.std.proofs.Common.{◌≡◌, ◌∷◌, [], ◌++◌, ℕ, List, ap, refl}
use Rattle.std.proofs.lemmas.Grind.{put_two, put_three}
use Rattle.std.specs.List.{flat_map}
use Rattle.std.specs.Str.{encode_utf8_all}
use Rattle.just_value.specs.Values.{escaped}
use Rattle.just_value.proofs.Escapes.{ended, spelled, escaped_next}
use Rattle.just_value.proofs.display.QuotedDisplay.fmt.Goals as goal

pub loop-character-preserved : goal.loop-character-preserved
loop-character-preserved g c = record {
  written = λ plain.
      let text = c.loop-character.invariant.written plain in
      let one = c.in_ok-write.ensures.writes text.plain refl in
      put_two _ _ _ _ _ _ _ text one (escaped_next c.loop-character.yielded c.in-Some.character);
  reached = spelled c.loop-character.yielded c.loop-character.character-iterator.rest.now c.next.new.self.rest.now c.args.self.now.0.now c.in-Some.character c.loop-character.invariant.reached c.in-Some.ensures.steps.0;
}

pub returns-clause-writes : goal.returns-clause-writes
returns-clause-writes g c = λ plain ok.
    let spells : encode_utf8_all c.loop-character.yielded ≡ c.args.self.now.0.now = ended (encode_utf8_all c.loop-character.yielded) c.loop-character.character-iterator.rest.now c.args.self.now.0.now c.loop-character.invariant.reached c.in-None.ensures.steps.0.0 in
    let mark = c.in_ok-write_str.ensures.writes plain refl in
    let text = c.loop-character.invariant.written mark.plain in
    let last = c.write_str-2.ensures.writes text.plain ok in
    put_three _ _ _ _ _ _ _ _ _ mark text last (ap (λ (xs : List ℕ). 34 ∷ (flat_map escaped xs ++ 34 ∷ [])) spells)
