-- Where no mark of a parameter and no name comes, nothing is taken.
use Rattle.std.proofs.Common.{◌≡◌, false, List, Ok, None, refl, sym, ap, ◌∙◌, inl, inr}
use Rattle.just_text.specs.Tokens.{Word}
use Rattle.just_text.specs.declared.token_kind.TokenKind.{TokenKind}
use Rattle.just_text.specs.declared.token_kind.TokenKind.TheVariants.{Asterisk, Dollar, Identifier, Plus as PlusMark}
use Rattle.tree_items.specs.Recipes.{is_variadic}
use Rattle.tree_items.specs.declared.recipe.ParameterKind.{ParameterKind}
use Rattle.parse_expressions.specs.Literals.{Expansion}
use Rattle.parse_expressions.specs.Reading.{accept, is_next}
use Rattle.parse_recipes.specs.Reading.{kind_at, marked_at, parameter_at}
use Rattle.parse_expressions.proofs.Taken.{inspect}

module _ {T : Type 0} (word : T → Word) where
  no_kind : (ts : List T) → is_variadic (kind_at word ts).0 ≡ false → (kind_at word ts).1 ≡ ts
  unfolding kind_at
  no_kind ts h =
      elim (inspect (accept word PlusMark ts)) [
        | inr w ↦ let q = rw w.1 at h in absurd cc
        | inl w ↦ elim (inspect (accept word Asterisk ts)) [
          | inr v ↦ let q = rw (w, v.1) at h in absurd cc
          | inl v ↦ rw (w, v) refl
        ]
      ]

  no_mark : (kind : TokenKind) (ts : List T) → (marked_at word kind ts).0 ≡ false → (marked_at word kind ts).1 ≡ ts
  unfolding marked_at
  no_mark kind ts h =
      elim (inspect (accept word kind ts)) [
        | inr w ↦ let q = rw w.1 at h in absurd cc
        | inl w ↦ rw w refl
      ]

  pub no_parameter : (x : Expansion) (ts a b : List T) (k : ParameterKind) → kind_at word ts ≡ (k, a) → marked_at word Dollar a ≡ (false, b) → is_variadic k ≡ false → is_next word Identifier b ≡ false → parameter_at word x ts ≡ Ok (None, b)
  unfolding parameter_at
  no_parameter x ts a b k kind mark single name =
      let first : (kind_at word ts).1 ≡ ts = no_kind ts (rw kind single) in
      let second : (marked_at word Dollar a).1 ≡ a = no_mark Dollar a (rw mark refl) in
      let same : a ≡ ts = rw kind at first in
      let same_too : b ≡ a = rw mark at second in
      rw (kind, mark, single, name) (ap (λ (us : List T). Ok (None, us)) (sym (same_too ∙ same)))
