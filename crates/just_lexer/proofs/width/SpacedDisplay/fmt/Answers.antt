-- A character more is written, or four spaces for a tab.
use Rattle.std.proofs.Common.{◌≡◌, ℕ, List, [], ◌∷◌, ◌++◌, sym, ap, ◌∙◌, rules, encode_utf8_all, map-id}
use Rattle.std.proofs.Output.{has_written_append, has_written_of_eq}
use Rattle.std.proofs.lemmas.Str.{encodes-append}
use Rattle.std.proofs.lemmas.Grind.{flat_map-append}
use Rattle.std.proofs.lemmas.Iterator.{YieldsList-from_chars}
use Rattle.std.proofs.lemmas.Iterator.Consumers.{YieldsList-end}
use Rattle.just_lexer.specs.Columns.{spaced, shown}
use Rattle.just_lexer.proofs.width.SpacedDisplay.fmt.Goals as goal

-- the characters before, and one more
more_spaced : (cs : List ℕ) (c : ℕ) → encode_utf8_all (spaced cs) ++ encode_utf8_all (spaced (c ∷ [])) ≡ encode_utf8_all (spaced (cs ++ c ∷ []))
more_spaced cs c = sym (encodes-append (spaced cs) (spaced (c ∷ []))) ∙ ap encode_utf8_all (sym (flat_map-append _ cs (c ∷ [])))

pub loop-character-preserved : goal.loop-character-preserved
loop-character-preserved g c =
    λ p. has_written_of_eq _ _ _ _ _ (more_spaced c.loop-character.yielded c.in-Some.character) (has_written_append _ _ _ _ _ _ (c.loop-character.invariant p) (search rules))

pub returns-clause-writes : goal.returns-clause-writes
returns-clause-writes g c =
    λ p ok.
    let text = c.text.result.now in
    let same : text ≡ c.args.self.now.0.now = c.text.ensures in
    let road = YieldsList-from_chars text c.text.utf8 (ap (λ s. s.rest.now) c.into_iter-character-iterator.ensures.into_iter_gives ∙ c.chars-character-items.ensures.rest) in
    let all = YieldsList-end road c.loop-character.yielded c.loop-character.character-iterator c.loop-character.yielded_by c.next.result c.next.new.self c.in-None.is c.next.ensures.steps in
    has_written_of_eq _ _ _ _ _ (ap (λ cs. encode_utf8_all (spaced cs)) (sym (map-id c.loop-character.yielded) ∙ all.0) ∙ ap shown same) (c.loop-character.invariant p)
