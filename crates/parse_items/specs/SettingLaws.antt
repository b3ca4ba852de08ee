-- What reading settings and deriving them have to do with each other.
use Rattle.std.specs.Prelude.{◌≡◌, List, map, Ok}
use Rattle.just_text.specs.Tokens.{Word, word_of}
use Rattle.tree_attributes.specs.declared.item_kind.ItemKind.TheVariants.{Set}
use Rattle.tree_attributes.specs.Settings.{SetShape}
use Rattle.parse_expressions.specs.Literals.{Expansion}
use Rattle.parse_items.specs.Reading.{kind_at}
use Rattle.semver.specs.declared.Version.{Version as SemanticVersion}
use Rattle.parse_items.specs.Settings.{IsSet}
use Rattle.parse_items.specs.SettingReading.{set_at}

-- What is read where a setting begins is derived, what is derived is read, and a setting is told by its first words.
pub record SetsExactly {T : Type 0} (word : T → Word) (expansion : Expansion) (current : SemanticVersion) : Type 0 where
  pub found : (ts rest : List T) (s : SetShape) → kind_at word ts ≡ Set → set_at word expansion current ts ≡ Ok (s, rest) → IsSet expansion current s (map word ts) (map word rest)
  pub only : (ts : List T) (rest : List Word) (s : SetShape) → IsSet expansion current s (map word ts) rest → (behind : List T) × (set_at word expansion current ts ≡ Ok (s, behind)) × (map word behind ≡ rest)
  pub told : (ts : List T) (rest : List Word) (s : SetShape) → IsSet expansion current s (map word ts) rest → kind_at word ts ≡ Set

abbrev pub SetsHold : Type 0
SetsHold = (expansion : Expansion) (current : SemanticVersion) → SetsExactly word_of expansion current

abbrev pub SetsHoldOfWords : Type 0
SetsHoldOfWords = (expansion : Expansion) (current : SemanticVersion) → SetsExactly (λ (w : Word). w) expansion current
