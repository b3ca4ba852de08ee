-- What reading items with attributes and deriving them have to do with each other.
use Rattle.std.specs.Prelude.{ℕ, ◌≡◌, List, map, Ok}
use Rattle.just_text.specs.Tokens.{Word, word_of}
use Rattle.tree_items.specs.Files.{ItemShape}
use Rattle.parse_expressions.specs.Literals.{Expansion}
use Rattle.parse_attributed_items.specs.Items.{IsAttributed}
use Rattle.parse_attributed_items.specs.Reading.{attributed_at}
use Rattle.semver.specs.declared.Version.{Version}

-- What is read is derived, and what is derived is read.
pub record AttributedExactly {T : Type 0} (word : T → Word) (expansion : Expansion) (current : Version) : Type 0 where
  pub found : (ts rest : List T) (i : ItemShape) (blanks : ℕ) → attributed_at word expansion current ts ≡ Ok ((i, blanks), rest) → IsAttributed expansion current i blanks (map word ts) (map word rest)
  pub only : (ts : List T) (rest : List Word) (i : ItemShape) (blanks : ℕ) → IsAttributed expansion current i blanks (map word ts) rest → (behind : List T) × (attributed_at word expansion current ts ≡ Ok ((i, blanks), behind)) × (map word behind ≡ rest)

-- This is so of tokens, and of words alone.
abbrev pub AttributedHold : Type 0
AttributedHold = (expansion : Expansion) (current : Version) → AttributedExactly word_of expansion current

abbrev pub AttributedHoldOfWords : Type 0
AttributedHoldOfWords = (expansion : Expansion) (current : Version) → AttributedExactly (λ (w : Word). w) expansion current
