-- Strings that stand alone, and what stands around them.
use Rattle.std.specs.Prelude.{ℕ, ◌≡◌, ◌⊎◌, List, Ok}
use Rattle.just_text.specs.Tokens.{Word}
use Rattle.just_text.specs.declared.token_kind.TokenKind.TheVariants.{Comment, StringToken}
use Rattle.tree_expressions.specs.declared.string_literal.StringLiteral.{StringLiteral}
use Rattle.tree_expressions.specs.Cooking.{cooked}
use Rattle.tree_expressions.specs.Kinds.{kind_of}
use Rattle.tree_expressions.specs.Shape.{Shape, written}
use Rattle.parse_expressions.specs.Words.{Begins, Mark, Lacks}
use Rattle.parse_expressions.specs.Literals.{Expansion, Cooks}
use Rattle.parse_expressions.specs.Grammar.{Derives}
use Rattle.parse_expressions.specs.Reading.{◌>>=◌, Read, expect, taken_if}

-- up to rest there is the string, which has a cooked text
abbrev pub IsString : Expansion → List ℕ → List Word → List Word → Type 0
IsString expansion s words rest = Begins StringToken s words rest × Cooks expansion s

-- the words up to rest spell a whole expression
abbrev pub IsExpression : Expansion → Shape → List Word → List Word → Type 0
IsExpression expansion e words rest = Derives expansion 256 6 words e rest

-- up to rest there is a comment, or nothing
abbrev pub IsAside : List Word → List Word → Type 0
IsAside words rest = Mark Comment words rest ⊎ ((words ≡ rest) × Lacks Comment words)

-- the string is of the kind that it is written as, and holds what it stands for
pub record IsCookedString (expansion : Expansion) (s : StringLiteral) : Type 0 where
  pub text : cooked expansion (written s) ≡ Ok s.cooked
  pub kind : s.kind ≡ kind_of (written s)

module _ {T : Type 0} (word : T → Word) (expansion : Expansion) where
  -- a string
  unfoldable pub string_at : List T → Read T (List ℕ)
  string_at ts = expect word StringToken ts >>= λ t. taken_if word t.0 (cooked expansion (word t.0).text) >>= λ s. Ok (s, t.1)
