-- What is said of a whole expression, and what that says of its outermost level, the expressions inside apart.
use Rattle.std.specs.Prelude.{ℕ, ◌≡◌, List, map, Option}
use Rattle.std.specs.List.{AllByRecursion}
use Rattle.just_text.specs.Tokens.{lexeme}
use Rattle.tree_expressions.specs.declared.string_literal.StringLiteral.{StringLiteral}
use Rattle.tree_expressions.specs.declared.string_kind.StringKind.{StringKind}
use Rattle.tree_expressions.specs.declared.expression.Expression.{Expression}
use Rattle.tree_expressions.specs.declared.expression.Expression.TheOpen.{Expression-F}
use Rattle.tree_expressions.specs.Cooking.{cooked, command}
use Rattle.tree_expressions.specs.Kinds.{kind_of}
use Rattle.tree_expressions.specs.Numbering.{numbers_of, variables_of}
use Rattle.tree_expressions.specs.Parts.{cooked_part}
use Rattle.tree_expressions.specs.Shape.{written}
use Rattle.parse_expressions.specs.Literals.{Expansion, IsCooked, Origin, text_or_none}
use Rattle.parse_expressions.specs.Words.{assert_keyword}

-- a string, or a part of a format string, has this kind and this cooked text
pub record HasText (kind : StringKind) (text : List ℕ) (s : StringLiteral) : Type 0 where
  pub kind_is : s.kind ≡ kind
  pub text_is : s.cooked ≡ text

-- a string has the kind and the cooked text of its lexeme
abbrev pub IsStringCooked : Expansion → StringLiteral → Type 0
IsStringCooked expansion s = HasText (kind_of (written s)) (text_or_none (cooked expansion (written s))) s

-- a part of a format string of that kind has the kind, and the cooked text of its lexeme
abbrev pub IsPartCooked : StringKind → StringLiteral → Type 0
IsPartCooked kind part = HasText kind (text_or_none (cooked_part kind (written part))) part

-- the strings, parts, command and name of the level itself are what its words come to, and a call's name has the path of the file
abbrev pub IsLevelCooked : Origin → Expression-F Expression → Type 0
IsLevelCooked origin (Expression-F.Assert c m name) = lexeme name.token ≡ assert_keyword
IsLevelCooked origin (Expression-F.Backtick contents token) = contents ≡ command (lexeme token)
IsLevelCooked origin (Expression-F.Call name es) = name.token.path.now ≡ origin.path
IsLevelCooked origin (Expression-F.FormatString start es) = IsPartCooked (kind_of (written start)) start × AllByRecursion (λ e. IsPartCooked (kind_of (written start)) e.1) es.items
IsLevelCooked origin (Expression-F.StringLiteral s) = IsStringCooked origin.expansion s
IsLevelCooked origin level = Unit {0}

-- each variable of the expression has the number of its name
abbrev pub HasNumbers : (List ℕ → Option ℕ) → Expression → Type 0
HasNumbers number e = numbers_of e ≡ map number (variables_of e)

-- where the level is a variable, it has the number of its name
abbrev pub HasLevelNumber : (List ℕ → Option ℕ) → Expression-F Expression → Type 0
HasLevelNumber number (Expression-F.Variable name it) = it ≡ number (lexeme name.token)
HasLevelNumber number level = Unit {0}

-- An expression as it is written in this file: texts are cooked, calls know the file, and variables have the numbers of their names.
pub record IsWrittenIn (origin : Origin) (number : List ℕ → Option ℕ) (e : Expression) : Type 0 where
  pub cooked : IsCooked origin e
  pub numbered : HasNumbers number e
