-- Rows: what stands between two items, and what ends them.
use Rattle.std.specs.Prelude.{List, Bool, true, false, Ok}
use Rattle.just_text.specs.Tokens.{Word}
use Rattle.just_text.specs.declared.token_kind.TokenKind.{TokenKind}
use Rattle.just_text.specs.declared.token_kind.TokenKind.TheVariants.{Comma}
use Rattle.parse_expressions.specs.Words.{Mark, Lacks}
use Rattle.parse_expressions.specs.Grammar.{Closes}
use Rattle.parse_expressions.specs.Reading.{◌>>=◌, on, Read, accept, expect}

-- up to rest there is a comma after which something other than the closing mark follows
abbrev pub IsComma : TokenKind → List Word → List Word → Type 0
IsComma close words rest = Mark Comma words rest × Lacks close rest

-- up to rest there is what stands between two items, or the end after the last
abbrev pub BetweenOrEnd : (List Word → List Word → Type 0) → (List Word → List Word → Type 0) → Bool → List Word → List Word → Type 0
BetweenOrEnd Between End true words rest = Between words rest
BetweenOrEnd Between End false words rest = End words rest

-- up to rest there is a comma before another item, or the closing mark, perhaps after a comma
abbrev pub MoreOrEnd : TokenKind → Bool → List Word → List Word → Type 0
MoreOrEnd close = BetweenOrEnd (IsComma close) (Closes close)

module _ {T : Type 0} (word : T → Word) where
  -- whether another item comes, where the closing mark ends the row, perhaps after a comma
  unfoldable pub more_at : TokenKind → List T → Read T Bool
  more_at close ts =
      on (accept word Comma ts)
      (expect word close ts >>= λ p. Ok (false, p.1))
      (λ c. on (accept word close c.1) (Ok (true, c.1)) (λ p. Ok (false, p.1)))
