-- Four spaces are written for a tab.
use Rattle.std.proofs.Common.{◌≡◌, [], ◌∷◌, ◌++◌, sym, ap, ◌∙◌, arith, encode_utf8_all}
use Rattle.std.proofs.Output.{has_written_of_eq}
use Rattle.std.proofs.lemmas.Str.{encode_ascii}
use Rattle.just_lexer.specs.Columns.{spaced}
use Rattle.just_lexer.proofs.width.SpacedCharacterDisplay.fmt.Goals as goal

-- a space is one byte
four : 32 ∷ 32 ∷ 32 ∷ 32 ∷ [] ≡ encode_utf8_all (32 ∷ 32 ∷ 32 ∷ 32 ∷ [])
four = sym (ap (λ s. s ++ (s ++ (s ++ (s ++ [])))) (encode_ascii 32 (omega arith)))

pub returns-then-character-eq9-clause-writes : goal.returns-then-character-eq9-clause-writes
returns-then-character-eq9-clause-writes g c =
    λ p ok. has_written_of_eq _ _ _ _ _ (four ∙ ap (λ k. encode_utf8_all (spaced (k ∷ []))) (sym c.if-character-eq9.true)) (c.write.ensures.writes p ok)
