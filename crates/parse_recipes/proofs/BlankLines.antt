-- Blank lines, a line at a time.
use Rattle.std.proofs.Common.{◌≡◌, ◌<◌, List, [], ◌∷◌, length, Some, None, refl, arith, inl, inr}
use Rattle.just_text.specs.Tokens.{Word}
use Rattle.just_text.specs.declared.token_kind.TokenKind.TheVariants.{Comment, Eol}
use Rattle.parse_expressions.specs.Reading.{accept}
use Rattle.parse_expressions.specs.Words.{is_kind}
use Rattle.parse_expressions.proofs.Shorter.{accept_shorter}
use Rattle.parse_recipes.specs.Bodies.{behind_blank, behind_comment}
use Rattle.parse_recipes.specs.Seen.{blank_line_at}
use Rattle.parse_expressions.proofs.Taken.{inspect, test, some_is}

module _ {T : Type 0} (word : T → Word) where
  pub blank_line_shorter : (ts rest : List T) → blank_line_at word ts ≡ Some rest → length rest < length ts
  unfolding blank_line_at
  blank_line_shorter ts rest h =
      elim (inspect (accept word Eol ts)) [
        | inr w ↦ let less = accept_shorter word Eol ts w.0 w.1 in let q = some_is w.0.1 rest (rw w.1 at h) in rw (← q) less
        | inl w ↦ elim (inspect (accept word Comment ts)) [
          | inl v ↦ let q = rw (w, v) at h in absurd cc
          | inr v ↦
              let i = accept_shorter word Comment ts v.0 v.1 in
              elim (inspect (accept word Eol v.0.1)) [
                | inl u ↦ let q = rw (w, v.1, u) at h in absurd cc
                | inr u ↦ let j = accept_shorter word Eol v.0.1 u.0 u.1 in let q = some_is u.0.1 rest (rw (w, v.1, u.1) at h) in rw (← q) (omega (arith, i, j))
              ]
        ]
      ]

  -- a blank line falls away
  pub one_less : (ts rest : List T) → blank_line_at word ts ≡ Some rest → behind_blank word ts ≡ behind_blank word rest
  unfolding blank_line_at behind_blank behind_comment accept
  one_less [] rest h = absurd cc
  one_less (t ∷ []) rest h =
      elim (test (is_kind (word t).kind Eol)) [
        | inl e ↦ let q = some_is [] rest (rw e at h) in rw (e, ← q) refl
        | inr e ↦ elim (test (is_kind (word t).kind Comment)) [
          | inl f ↦ let q = rw (e, f) at h in absurd cc
          | inr f ↦ let q = rw (e, f) at h in absurd cc
        ]
      ]
  one_less (t ∷ u ∷ us) rest h =
      elim (test (is_kind (word t).kind Eol)) [
        | inl e ↦ let q = some_is (u ∷ us) rest (rw e at h) in rw (e, ← q) refl
        | inr e ↦ elim (test (is_kind (word t).kind Comment)) [
          | inr f ↦ let q = rw (e, f) at h in absurd cc
          | inl f ↦ elim (test (is_kind (word u).kind Eol)) [
            | inl g ↦ let q = some_is us rest (rw (e, f, g) at h) in rw (e, f, g, ← q) refl
            | inr g ↦ let q = rw (e, f, g) at h in absurd cc
          ]
        ]
      ]

  -- where no blank line comes, none falls away
  pub none_less : (ts : List T) → blank_line_at word ts ≡ None → behind_blank word ts ≡ ts
  unfolding blank_line_at behind_blank behind_comment accept
  none_less [] h = refl
  none_less (t ∷ []) h =
      elim (test (is_kind (word t).kind Eol)) [
        | inl e ↦ let q = rw e at h in absurd cc
        | inr e ↦ elim (test (is_kind (word t).kind Comment)) [
          | inl f ↦ rw (e, f) refl
          | inr f ↦ rw (e, f) refl
        ]
      ]
  none_less (t ∷ u ∷ us) h =
      elim (test (is_kind (word t).kind Eol)) [
        | inl e ↦ let q = rw e at h in absurd cc
        | inr e ↦ elim (test (is_kind (word t).kind Comment)) [
          | inr f ↦ rw (e, f) refl
          | inl f ↦ elim (test (is_kind (word u).kind Eol)) [
            | inl g ↦ let q = rw (e, f, g) at h in absurd cc
            | inr g ↦ rw (e, f, g) refl
          ]
        ]
      ]
