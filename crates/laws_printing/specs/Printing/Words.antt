-- The words of a printed expression, white space among them.
use Rattle.std.specs.Prelude.{ℕ, List, ◌∷◌, codes, if◌then◌else◌}
use Rattle.just_text.specs.Tokens.{Word}
use Rattle.just_text.specs.declared.token_kind.TokenKind.{TokenKind}
use Rattle.just_text.specs.declared.token_kind.TokenKind.TheVariants.{Backtick, Bang, BraceL, BraceR, BracketL, BracketR, Comma, FormatStringStart, Identifier, ParenL, ParenR, Slash, StringToken, Whitespace}
use Rattle.tree_expressions.specs.Operators.{mark_of}
use Rattle.tree_expressions.specs.Shape.{Shape, Shapes, Interpolations, literal, command, format, variable, call, assertion, assertion_alone, group, listing, choice, choice_alone, negation, rooted, binary, end, more, closed, interpolation}
use Rattle.tree_items.specs.Printable.{is_choice}
use Rattle.parse_expressions.specs.Words.{if_keyword, else_keyword, assert_keyword}
use Rattle.parse_expressions.specs.Operators.{sign}
use Rattle.parse_expressions.specs.Grammar.{part_kind}

abbrev pub word : TokenKind → List ℕ → Word
word kind text = record { kind = kind; text = text }

abbrev pub space : Word
space = word Whitespace (codes " ")

abbrev pub open_paren : Word
open_paren = word ParenL (codes "(")

abbrev pub close_paren : Word
close_paren = word ParenR (codes ")")

abbrev pub comma : Word
comma = word Comma (codes ",")

-- between braces, before the rest
abbrev pub braced_words : (List Word → List Word) → List Word → List Word
braced_words inside rest = word BraceL (codes "{") ∷ space ∷ inside (space ∷ word BraceR (codes "}") ∷ rest)

-- after `else`: a conditional without braces, all else in braces
abbrev pub other_words : Shape → (List Word → List Word) → List Word → List Word
other_words o inside rest = if is_choice o then inside rest else braced_words inside rest

unfoldable mutual
  -- the words of the expression, before the rest
  pub words_of : Shape → List Word → List Word
  words_of (literal s) rest = word StringToken s ∷ rest
  words_of (command s) rest = word Backtick s ∷ rest
  words_of (format s hs) rest = word FormatStringStart s ∷ words_inside hs rest
  words_of (variable x) rest = word Identifier x ∷ rest
  words_of (call f es) rest = word Identifier f ∷ open_paren ∷ words_of_all es (close_paren ∷ rest)
  words_of (assertion c m) rest = word Identifier assert_keyword ∷ open_paren ∷ words_of c (comma ∷ space ∷ words_of m (close_paren ∷ rest))
  words_of (assertion_alone c) rest = word Identifier assert_keyword ∷ open_paren ∷ words_of c (close_paren ∷ rest)
  words_of (group e) rest = open_paren ∷ words_of e (close_paren ∷ rest)
  words_of (listing es) rest = word BracketL (codes "[") ∷ words_of_all es (word BracketR (codes "]") ∷ rest)
  words_of (choice c t o) rest =
      word Identifier if_keyword ∷ space ∷ words_of c (space ∷ braced_words (words_of t) (space ∷ word Identifier else_keyword ∷ space ∷ other_words o (words_of o) rest))
  words_of (choice_alone c t) rest = word Identifier if_keyword ∷ space ∷ words_of c (space ∷ braced_words (words_of t) rest)
  words_of (negation e) rest = word Bang (codes "!") ∷ words_of e rest
  words_of (rooted e) rest = word Slash (codes "/") ∷ space ∷ words_of e rest
  words_of (binary operator l r) rest = words_of l (space ∷ word (sign operator) (mark_of operator) ∷ space ∷ words_of r rest)

  pub words_of_all : Shapes → List Word → List Word
  words_of_all end rest = rest
  words_of_all (more e es) rest = words_of e (words_of_others es rest)

  pub words_of_others : Shapes → List Word → List Word
  words_of_others end rest = rest
  words_of_others (more e es) rest = comma ∷ space ∷ words_of e (words_of_others es rest)

  pub words_inside : Interpolations → List Word → List Word
  words_inside closed rest = rest
  words_inside (interpolation e part hs) rest = words_of e (word (part_kind hs) part ∷ words_inside hs rest)
