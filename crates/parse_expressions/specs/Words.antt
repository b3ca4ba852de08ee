-- Words as the grammar sees them.
use Rattle.std.specs.Prelude.{ℕ, ◌≡◌, List, ◌∷◌, Bool, not, filter, codes}
use Rattle.just_text.specs.Tokens.{Word}
use Rattle.just_text.specs.declared.token_kind.TokenKind.{TokenKind}
use Rattle.just_text.specs.declared.token_kind.TokenKind.TheVariants.{Identifier, Whitespace}
use Rattle.just_text.specs.contracts.token_kind.TokenKind.{the_type}
use denote.Enum.Bare.{sameb}

-- whether two kinds are the same
abbrev pub is_kind : TokenKind → TokenKind → Bool
is_kind = sameb the_type

abbrev pub is_significant : Word → Bool
is_significant w = not (is_kind w.kind Whitespace)

-- the words that are not white space
abbrev pub significant : List Word → List Word
significant words = filter is_significant words

-- a word of that kind comes first, with that text, and the others follow
abbrev pub Begins : TokenKind → List ℕ → List Word → List Word → Type 0
Begins kind text words rest = words ≡ record { kind = kind; text = text } ∷ rest

-- the same, whatever its text
abbrev pub Mark : TokenKind → List Word → List Word → Type 0
Mark kind words rest = (text : List ℕ) × Begins kind text words rest

-- no word of that kind comes first
abbrev pub Lacks : TokenKind → List Word → Type 0
Lacks kind words = (rest : List Word) → Mark kind words rest → ⊥

-- that keyword, an identifier with that text, doesn't come first
abbrev pub LacksKeyword : List ℕ → List Word → Type 0
LacksKeyword keyword words = (rest : List Word) → Begins Identifier keyword words rest → ⊥

abbrev pub if_keyword : List ℕ
if_keyword = codes "if"

abbrev pub else_keyword : List ℕ
else_keyword = codes "else"

abbrev pub assert_keyword : List ℕ
assert_keyword = codes "assert"
