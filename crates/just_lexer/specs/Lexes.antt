-- A token list lexes a text.
use Rattle.std.specs.Prelude.{◌≡◌, ℕ, true, List, [], ◌∷◌, ◌++◌, length, drop, map}
use Rattle.std.specs.List.{fold}
use Rattle.just_text.specs.declared.token_kind.TokenKind.{TokenKind}
use Rattle.just_text.specs.declared.token.Token.{Token}
use Rattle.just_lexer.specs.declared.position.Position.{Position}
use Rattle.just_lexer.specs.declared.mode.Line.TheVariants.{Begin}
use Rattle.just_text.specs.Tokens.{Word, lexeme}
use Rattle.just_lexer.specs.Modes.{Mode, after, is_over, moved}
use Rattle.just_lexer.specs.Longest.{IsLongest}

-- a token and its place, without the texts that it borrows
pub record Piece : Type 0 where
  pub kind : TokenKind
  pub text : List ℕ
  pub at : Position

-- what a piece says
abbrev pub piece_word : Piece → Word
piece_word p = record { kind = p.kind; text = p.text }

-- where a token stands
abbrev pub position_of : Token → Position
position_of t = record { column = t.column; line = t.line; offset = t.offset }

abbrev pub piece : Token → Piece
piece t = record { kind = t.kind; text = lexeme t; at = position_of t }

abbrev pub pieces : List Token → List Piece
pieces ts = map piece ts

-- a place in a text: what the tokens before it say, where it is, and the text after it
pub record Place : Type 0 where
  pub mode : Mode
  pub at : Position
  pub rest : List ℕ

-- the place in front of the first token
abbrev pub start : List ℕ → Place
start text = record { mode = record { line = Begin; opened = [] }; at = record { column = 0; line = 0; offset = 0 }; rest = text }

-- the place after a token
abbrev pub behind : Place → Piece → Place
behind p t = record { mode = after p.mode t.kind t.text; at = moved p.at t.kind t.text; rest = drop (length t.text) p.rest }

-- the token stands at the place, and is the longest there
pub record IsTokenAt (p : Place) (t : Piece) : Type 0 where
  pub at : t.at ≡ p.at
  pub front : p.rest ≡ t.text ++ (behind p t).rest
  pub longest : IsLongest p.mode p.rest t.kind (length t.text)

-- the tokens stand one after the other from the place on
abbrev pub AllTokens : Place → List Piece → Type 0
AllTokens p [] = Unit {0}
AllTokens p (t ∷ ts) = IsTokenAt p t × AllTokens (behind p t) ts

-- the tokens lex the text: each is the longest at its place, and the last one is the text's end
pub record Lexes (text : List ℕ) (ts : List Piece) : Type 0 where
  pub each : AllTokens (start text) ts
  pub whole : is_over (fold behind (start text) ts).mode.line ≡ true
