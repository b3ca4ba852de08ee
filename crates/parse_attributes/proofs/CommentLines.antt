-- Comment lines, one at a time.
use Rattle.std.proofs.Common.{◌≡◌, ◌<◌, List, [], ◌∷◌, length, Some, None, refl, arith, inl, inr}
use Rattle.just_text.specs.Tokens.{Word}
use Rattle.just_text.specs.declared.token_kind.TokenKind.TheVariants.{Comment, Eol}
use Rattle.parse_expressions.specs.Reading.{accept}
use Rattle.parse_expressions.specs.Words.{is_kind}
use Rattle.parse_expressions.proofs.Shorter.{accept_shorter}
use Rattle.parse_attributes.specs.Held.{comment_line_at}
use Rattle.parse_attributes.specs.Lines.{behind_comments, behind_one}
use Rattle.parse_expressions.proofs.Taken.{inspect, test, some_is}

module _ {T : Type 0} (word : T → Word) where
  pub comment_line_shorter : (ts rest : List T) → comment_line_at word ts ≡ Some rest → length rest < length ts
  unfolding comment_line_at
  comment_line_shorter ts rest h =
      elim (inspect (accept word Comment ts)) [
        | inl w ↦ let q = rw w at h in absurd cc
        | inr w ↦
            let i = accept_shorter word Comment ts w.0 w.1 in
            elim (inspect (accept word Eol w.0.1)) [
              | inl u ↦ let q = rw (w.1, u) at h in absurd cc
              | inr u ↦ let j = accept_shorter word Eol w.0.1 u.0 u.1 in let q = some_is u.0.1 rest (rw (w.1, u.1) at h) in rw (← q) (omega (arith, i, j))
            ]
      ]

  -- a comment line falls away
  pub one_less : (ts rest : List T) → comment_line_at word ts ≡ Some rest → behind_comments word ts ≡ behind_comments word rest
  unfolding comment_line_at behind_comments behind_one accept
  one_less [] rest h = absurd cc
  one_less (t ∷ []) rest h =
      elim (test (is_kind (word t).kind Comment)) [
        | inl f ↦ let q = rw f at h in absurd cc
        | inr f ↦ let q = rw f at h in absurd cc
      ]
  one_less (t ∷ u ∷ us) rest h =
      elim (test (is_kind (word t).kind Comment)) [
        | inr f ↦ let q = rw f at h in absurd cc
        | inl f ↦ elim (test (is_kind (word u).kind Eol)) [
          | inl g ↦ let q = some_is us rest (rw (f, g) at h) in rw (f, g, ← q) refl
          | inr g ↦ let q = rw (f, g) at h in absurd cc
        ]
      ]

  -- where no comment line comes, none falls away
  pub none_less : (ts : List T) → comment_line_at word ts ≡ None → behind_comments word ts ≡ ts
  unfolding comment_line_at behind_comments behind_one accept
  none_less [] h = refl
  none_less (t ∷ []) h = elim (test (is_kind (word t).kind Comment)) [ inl f ↦ rw f refl | inr f ↦ rw f refl ]
  none_less (t ∷ u ∷ us) h =
      elim (test (is_kind (word t).kind Comment)) [
        | inr f ↦ rw f refl
        | inl f ↦ elim (test (is_kind (word u).kind Eol)) [
          | inl g ↦ let q = rw (f, g) at h in absurd cc
          | inr g ↦ rw (f, g) refl
        ]
      ]
