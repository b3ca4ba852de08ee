-- Words, and when they are the tokens of their joined text.
use Rattle.std.specs.Prelude.{◌≡◌, ℕ, true, List, [], ◌∷◌, ◌++◌, length}
use Rattle.std.specs.List.{fold}
use Rattle.just_text.specs.Tokens.{Word}
use Rattle.just_lexer.specs.declared.position.Position.{Position}
use Rattle.just_lexer.specs.Modes.{Mode, after, is_over, moved}
use Rattle.just_lexer.specs.Longest.{IsLongest}
use Rattle.just_lexer.specs.Lexes.{Piece, Lexes, start}

-- the texts of the words in order, and what comes after them
abbrev pub joined : List Word → List ℕ → List ℕ
joined [] rest = rest
joined (w ∷ ws) rest = w.text ++ joined ws rest

-- the words as tokens from a position on
abbrev pub placed : Position → List Word → List Piece
placed at [] = []
placed at (w ∷ ws) = record { kind = w.kind; text = w.text; at = at } ∷ placed (moved at w.kind w.text) ws

-- the mode after a word
abbrev pub behind_word : Mode → Word → Mode
behind_word m w = after m w.kind w.text

-- before the rest the word is the longest token
abbrev pub StandsBefore : Mode → Word → List ℕ → Type 0
StandsBefore m w rest = IsLongest m (w.text ++ rest) w.kind (length w.text)

-- each word is the longest token where the words before it lead, before those after it and the rest
abbrev pub AllStand : Mode → List Word → List ℕ → Type 0
AllStand m [] rest = Unit {0}
AllStand m (w ∷ ws) rest = StandsBefore m w (joined ws rest) × AllStand (behind_word m w) ws rest

-- before the rest the words are the tokens of their joined text, and lead from one mode to another
pub record LexesFrom (from : Mode) (ws : List Word) (rest : List ℕ) (to : Mode) : Type 0 where
  pub each : AllStand from ws rest
  pub goes : fold behind_word from ws ≡ to

-- words that lead on from the mode that others lead to may stand after them
abbrev pub JoinsUp : Type 0
JoinsUp = (from between to : Mode) (ws vs : List Word) (rest : List ℕ) → LexesFrom from ws (joined vs rest) between → LexesFrom between vs rest to → LexesFrom from (ws ++ vs) rest to

-- a mode between the first words and the others
pub record Between (from : Mode) (ws vs : List Word) (rest : List ℕ) (to : Mode) : Type 0 where
  pub between : Mode
  pub before : LexesFrom from ws (joined vs rest) between
  pub behind : LexesFrom between vs rest to

-- words one after the other have one
abbrev pub ComesApart : Type 0
ComesApart = (from to : Mode) (ws vs : List Word) (rest : List ℕ) → LexesFrom from (ws ++ vs) rest to → Between from ws vs rest to

-- words that lead from the start to the end, with nothing after them, are the tokens of their joined text
abbrev pub LexesBack : Type 0
LexesBack = (ws : List Word) (to : Mode) → LexesFrom (start []).mode ws [] to → is_over to.line ≡ true → Lexes (joined ws []) (placed (start []).at ws)
