-- Lexing is total: each text has tokens or a fault, and whether it has a fault for a reason is decidable.
use Rattle.std.specs.Prelude.{ℕ, ◌⊎◌, List, [], IsUtf8}
use Rattle.just_text.specs.declared.compile_error.CompileErrorKind.{CompileErrorKind}
use Rattle.just_text.specs.declared.token.Token.{Token}
use Rattle.just_lexer.specs.declared.position.Position.{Position}
use Rattle.just_lexer.specs.Lexes.{pieces, Lexes}
use Rattle.just_lexer.specs.Lexed.{AllBorrow, HasFault}

-- a proof of a proposition, or a refutation of it
abbrev pub Decidable : Type 0 → Type 0
Decidable A = A ⊎ (A → ⊥)

-- tokens of the text, which borrow from it and from no path
pub record HasTokens (text : List ℕ) : Type 0 where
  pub tokens : List Token
  pub lexed : Lexes text (pieces tokens)
  pub borrowed : AllBorrow [] text tokens

-- the text has a fault for that reason, at some position
abbrev pub IsFaulty : List ℕ → CompileErrorKind → Type 0
IsFaulty text kind = (at : Position) × HasFault text kind at

-- each UTF-8 text has tokens, or a fault for some reason
abbrev pub TextsLex : Type 0
TextsLex = (text : List ℕ) → IsUtf8 text → HasTokens text ⊎ ((kind : CompileErrorKind) × IsFaulty text kind)

-- of each UTF-8 text and each reason it is decidable whether the text has a fault for it
abbrev pub FaultsAreDecidable : Type 0
FaultsAreDecidable = (text : List ℕ) → IsUtf8 text → (kind : CompileErrorKind) → Decidable (IsFaulty text kind)
