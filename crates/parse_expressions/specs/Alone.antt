-- Operands that are one word, after which nothing goes on.
use Rattle.std.specs.Prelude.{List, [], ◌∷◌, Bool, true, false, not, ◌&&◌, ◌||◌, is_some}
use Rattle.std.specs.Str.{bytes_eq}
use Rattle.just_text.specs.Tokens.{Word}
use Rattle.just_text.specs.declared.token_kind.TokenKind.{TokenKind}
use Rattle.just_text.specs.declared.token_kind.TokenKind.TheVariants.{Identifier, ParenL, StringToken}
use Rattle.parse_expressions.specs.Words.{is_kind, if_keyword}
use Rattle.parse_expressions.specs.Operators.{operator_of}

-- a string, or a name that begins no choice
abbrev pub may_be_alone : Word → Bool
may_be_alone w = is_kind w.kind StringToken || (is_kind w.kind Identifier && not (bytes_eq w.text if_keyword))

-- what goes on after an operand: an operator, or the arguments of a call
abbrev pub goes_on : TokenKind → Bool
goes_on kind = is_kind kind ParenL || is_some (operator_of kind)

module _ {T : Type 0} (word : T → Word) where
  abbrev pub is_end : List T → Bool
  is_end [] = true
  is_end (t ∷ ts) = not (goes_on (word t).kind)

  -- what comes first is a whole operand
  unfoldable pub is_alone : List T → Bool
  is_alone [] = false
  is_alone (t ∷ ts) = may_be_alone (word t) && is_end ts
