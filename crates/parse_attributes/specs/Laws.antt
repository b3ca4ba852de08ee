-- What reading attributes and deriving them have to do with each other.
use Rattle.std.specs.Prelude.{◌≡◌, List, map, Some, Ok}
use Rattle.just_text.specs.Tokens.{Word, word_of}
use Rattle.tree_attributes.specs.Attributes.{AttributeShape}
use Rattle.parse_expressions.specs.Literals.{Expansion}
use Rattle.parse_attributes.specs.Lines.{AreAttributes}
use Rattle.parse_attributes.specs.Reading.{attributes_at}

-- What is read is derived, and what is derived is read.
pub record AttributesExactly {T : Type 0} (word : T → Word) (expansion : Expansion) : Type 0 where
  pub found : (ts rest : List T) (as' : List AttributeShape) → attributes_at word expansion ts ≡ Ok (map Some as', rest) → AreAttributes expansion as' (map word ts) (map word rest)
  pub only : (ts : List T) (rest : List Word) (as' : List AttributeShape) → AreAttributes expansion as' (map word ts) rest → (behind : List T) × (attributes_at word expansion ts ≡ Ok (map Some as', behind)) × (map word behind ≡ rest)

-- This is so of tokens, and of words alone.
abbrev pub AttributesHold : Type 0
AttributesHold = (expansion : Expansion) → AttributesExactly word_of expansion

abbrev pub AttributesHoldOfWords : Type 0
AttributesHoldOfWords = (expansion : Expansion) → AttributesExactly (λ (w : Word). w) expansion
