-- When the words of printed items are their tokens.
use Rattle.std.specs.Prelude.{◌≡◌, ℕ, Bool, true, not, ◌||◌, List}
use Rattle.just_text.specs.Tokens.{Word}
use Rattle.just_lexer.specs.Classes.{first, is_blank, at_line_end}
use Rattle.just_lexer.specs.Modes.{Mode}
use Rattle.tree_items.specs.Files.{ItemShape}
use Rattle.justfile_syntax.specs.Words.{LexesFrom, joined}
use Rattle.justfile_syntax.specs.Bodies.{is_indentation}
use Rattle.justfile_syntax.specs.Lines.{at_line}
use Rattle.laws_printing.specs.Formatting.FileWords.{item_words}
use Rattle.laws_printing.specs.Formatting.Written.{is_item_written}

-- neither white space nor a line end comes first
abbrev pub is_outside : List ℕ → Bool
is_outside rest = not (is_blank (first rest) || at_line_end rest)

-- the words of an item, before words that lead on from any line's start, lead on from any line's start
abbrev pub ItemsLex : Type 0
ItemsLex = (indentation : List ℕ) (item : ItemShape) (n : ℕ) (after : List Word) (rest : List ℕ) (to : Mode) → is_indentation indentation ≡ true → is_item_written item ≡ true → ((may : Bool) → LexesFrom (at_line may) after rest to) → is_outside (joined after rest) ≡ true
    → (may : Bool) → LexesFrom (at_line may) (item_words indentation item n after) rest to
