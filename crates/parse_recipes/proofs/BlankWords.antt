-- Blank lines of tokens are those of their words.
use Rattle.std.proofs.Common.{◌≡◌, List, [], ◌∷◌, map, refl, inl, inr}
use Rattle.just_text.specs.Tokens.{Word}
use Rattle.just_text.specs.declared.token_kind.TokenKind.TheVariants.{Comment, Eol}
use Rattle.parse_expressions.specs.Words.{is_kind}
use Rattle.parse_recipes.specs.Bodies.{behind_blank, behind_comment}
use Rattle.parse_expressions.proofs.Taken.{test}

module _ {T : Type 0} (word : T → Word) where
  mutual
    unfolding behind_blank behind_comment

    pub same_blank : (ts : List T) → behind_blank (λ w. w) (map word ts) ≡ map word (behind_blank word ts)
    same_blank [] = refl
    same_blank (t ∷ ts) =
        elim (test (is_kind (word t).kind Eol)) [
          | inl e ↦ rw e (same_blank ts)
          | inr e ↦ elim (test (is_kind (word t).kind Comment)) [
            | inl f ↦ rw (e, f) (same_comment t ts)
            | inr f ↦ rw (e, f) refl
          ]
        ]

    same_comment : (t : T) (ts : List T) → behind_comment (λ w. w) (word t) (map word ts) ≡ map word (behind_comment word t ts)
    same_comment t [] = refl
    same_comment t (u ∷ us) =
        elim (test (is_kind (word u).kind Eol)) [
          | inl e ↦ rw e (same_blank us)
          | inr e ↦ rw e refl
        ]
