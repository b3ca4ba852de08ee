-- When the words of a printed expression are its tokens.
use Rattle.std.specs.Prelude.{◌≡◌, ℕ, Bool, true, false, not, ◌&&◌, ◌==◌, List, length, drop, Some, None}
use Rattle.just_text.specs.Tokens.{Word}
use Rattle.just_text.specs.declared.token_kind.TokenKind.{TokenKind}
use Rattle.just_text.specs.declared.token_kind.TokenKind.TheVariants.{Backtick, FormatStringStart, Identifier, StringToken}
use Rattle.just_lexer.specs.declared.quotes.Quotes.{Quotes}
use Rattle.just_lexer.specs.declared.mode.Open.TheVariants.{FormatInterpolation}
use Rattle.just_lexer.specs.Modes.{Mode}
use Rattle.just_lexer.specs.Strings.{quotes_at, ends_in_format_interpolation}
use Rattle.tree_expressions.specs.Shape.{Shape, Shapes, Interpolations, literal, command, format, variable, call, assertion, assertion_alone, group, listing, choice, choice_alone, negation, rooted, binary, end, more, closed, interpolation}
use Rattle.parse_expressions.specs.Grammar.{part_kind}
use Rattle.justfile_syntax.specs.Words.{LexesFrom, joined}
use Rattle.justfile_syntax.specs.Fits.{is_lexeme, keeps_apart}
use Rattle.justfile_syntax.specs.InCode.{is_code}
use Rattle.laws_printing.specs.Printing.Words.{words_of}

abbrev mutual
  -- names, strings, commands and parts are tokens by themselves
  pub is_written : Shape → Bool
  is_written (literal s) = is_lexeme None StringToken s
  is_written (command s) = is_lexeme None Backtick s
  is_written (format s closed) = is_lexeme None FormatStringStart s && not (ends_in_format_interpolation (length s) s)
  is_written (format s (interpolation e part hs)) = is_lexeme None FormatStringStart s && ends_in_format_interpolation (length s) s && not (length s == 3) && are_parts_written (quotes_at (drop 1 s)) (interpolation e part hs)
  is_written (variable x) = is_lexeme None Identifier x
  is_written (call f es) = is_lexeme None Identifier f && are_written es
  is_written (assertion c m) = is_written c && is_written m
  is_written (assertion_alone c) = is_written c
  is_written (group e) = is_written e
  is_written (listing es) = are_written es
  is_written (choice c t o) = is_written c && is_written t && is_written o
  is_written (choice_alone c t) = is_written c && is_written t
  is_written (negation e) = is_written e
  is_written (rooted e) = is_written e
  is_written (binary operator l r) = is_written l && is_written r

  pub are_written : Shapes → Bool
  are_written end = true
  are_written (more e es) = is_written e && are_written es

  pub are_parts_written : Quotes → Interpolations → Bool
  are_parts_written q closed = true
  are_parts_written q (interpolation e part hs) = is_written e && is_lexeme (Some (FormatInterpolation q false)) (part_kind hs) part && are_parts_written q hs

-- the kinds with which an expression ends, brackets and parts apart
abbrev pub ends_expression : TokenKind → Bool
ends_expression Backtick = true
ends_expression FormatStringStart = true
ends_expression Identifier = true
ends_expression StringToken = true
ends_expression k = false

-- what follows runs together with no end of an expression
pub record Apart (rest : List ℕ) : Type 0 where
  pub keeps : (k : TokenKind) (text : List ℕ) → ends_expression k ≡ true → is_lexeme None k text ≡ true → keeps_apart k text rest ≡ true

-- in code the printed words of an expression are its tokens, before what runs together with none of them
abbrev pub ExpressionsLex : Type 0
ExpressionsLex = (m to : Mode) (e : Shape) (after : List Word) (rest : List ℕ) → is_code m ≡ true → is_written e ≡ true → Apart (joined after rest) → LexesFrom m after rest to → LexesFrom m (words_of e after) rest to
