-- What stands alone or in brackets, by the token that is next.
use Rattle.std.proofs.Common.{◌≡◌, ℕ, true, false, List, Ok, Err, Option, Some, None, refl, ◌∙◌}
use Rattle.std.specs.Prelude.{is_some}
use Rattle.just_text.specs.Tokens.{Word}
use Rattle.just_text.specs.declared.token_kind.TokenKind.TheVariants.{Backtick, FormatStringStart, Identifier, StringToken}
use Rattle.tree_expressions.specs.Shape.{Shape}
use Rattle.parse_expressions.specs.Literals.{Expansion}
use Rattle.parse_expressions.specs.Reading.{◌>>=◌, on, Stop, Read, accept, expect, is_next, literal_next, command_next, format_next, named_next, bracketed_at, primary_at}

goes : {T : Type 0} (o : Option (T × List T)) (u : Stop T) → is_some o ≡ true → (n : Read T Shape) (s : T × List T → Read T Shape) → on o n s ≡ (on o (Err u) (λ p. Ok p) >>= s)
goes None u h n s = absurd cc
goes (Some p) u h n s = refl

skips : {T : Type 0} (o : Option (T × List T)) → is_some o ≡ false → (n : Read T Shape) (s : T × List T → Read T Shape) → on o n s ≡ n
skips None h n s = refl
skips (Some p) h n s = absurd cc

module _ {T : Type 0} (word : T → Word) (expansion : Expansion) (deeper : ℕ → List T → Read T Shape) (ts : List T) where
  pub at_string : is_next word StringToken ts ≡ true → primary_at word expansion deeper ts ≡ literal_next word expansion ts
  unfolding primary_at is_next expect
  at_string here = goes (accept word StringToken ts) _ here _ _

  module _ (no_string : is_next word StringToken ts ≡ false) where
    pub at_command : is_next word Backtick ts ≡ true → primary_at word expansion deeper ts ≡ command_next word ts
    unfolding primary_at is_next expect
    at_command here = skips (accept word StringToken ts) no_string _ _ ∙ goes (accept word Backtick ts) _ here _ _

    module _ (no_command : is_next word Backtick ts ≡ false) where
      pub at_format : is_next word FormatStringStart ts ≡ true → primary_at word expansion deeper ts ≡ format_next word expansion deeper ts
      unfolding primary_at is_next expect
      at_format here = skips (accept word StringToken ts) no_string _ _ ∙ skips (accept word Backtick ts) no_command _ _ ∙ goes (accept word FormatStringStart ts) _ here _ _

      module _ (no_format : is_next word FormatStringStart ts ≡ false) where
        pub at_name : is_next word Identifier ts ≡ true → primary_at word expansion deeper ts ≡ named_next word expansion deeper ts
        unfolding primary_at is_next expect
        at_name here = skips (accept word StringToken ts) no_string _ _ ∙ skips (accept word Backtick ts) no_command _ _ ∙ skips (accept word FormatStringStart ts) no_format _ _ ∙ goes (accept word Identifier ts) _ here _ _

        pub at_bracket : is_next word Identifier ts ≡ false → primary_at word expansion deeper ts ≡ bracketed_at word expansion deeper ts
        unfolding primary_at is_next
        at_bracket other = skips (accept word StringToken ts) no_string _ _ ∙ skips (accept word Backtick ts) no_command _ _ ∙ skips (accept word FormatStringStart ts) no_format _ _ ∙ skips (accept word Identifier ts) other _ _
