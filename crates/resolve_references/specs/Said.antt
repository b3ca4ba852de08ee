-- What expressions say, whatever numbers their variables have.
use Rattle.std.specs.Prelude.{◌≡◌, ℕ, List, map}
use Rattle.just_text.specs.declared.token.Token.{Token}
use Rattle.tree_expressions.specs.Numbering.{literals_of, texts_of, tokens_of}
use Rattle.tree_expressions.specs.Shape.{Shape, shape_of}
use Rattle.tree_expressions.specs.declared.expression.Expression.{Expression}
use Rattle.tree_expressions.specs.declared.string_literal.StringLiteral.{StringLiteral}
use Rattle.resolve_references.specs.Seen.{Seen}

-- the shape of an expression, the texts of its strings and commands, its tokens, and its strings
pub record Said : Type 0 where
  pub shape : Shape
  pub texts : List (List ℕ)
  pub tokens : List Token
  pub literals : List StringLiteral

abbrev pub said_of : Expression → Said
said_of e = record { shape = shape_of e; texts = texts_of e; tokens = tokens_of e; literals = literals_of e }

-- what the expressions say that are seen, in order
abbrev pub said_by : List Seen → List Said
said_by = map (λ (s : Seen). said_of s.expression)

-- what is seen after says what was said before, whatever names are seen
abbrev pub SayTheSame : (List (List ℕ × ℕ) → List Seen) → (List (List ℕ × ℕ) → List Seen) → Type 0
SayTheSame before after = (names : List (List ℕ × ℕ)) → said_by (after names) ≡ said_by (before names)
