-- What reading items and deriving them have to do with each other.
use Rattle.std.specs.Prelude.{ℕ, ◌≡◌, List, map, Ok}
use Rattle.just_text.specs.Tokens.{Word, word_of}
use Rattle.tree_attributes.specs.declared.item_kind.ItemKind.TheVariants.{Recipe}
use Rattle.tree_items.specs.Files.{ItemShape}
use Rattle.tree_items.specs.Recipes.{RecipeShape}
use Rattle.parse_expressions.specs.Literals.{Expansion}
use Rattle.parse_recipes.specs.Headers.{IsRecipe}
use Rattle.parse_items.specs.Items.{IsItem}
use Rattle.parse_items.specs.Reading.{kind_at, item_of}

-- What is read is derived, what is derived is read, and a recipe is told from all other items by its first words.
pub record ItemsExactly {T : Type 0} (word : T → Word) (expansion : Expansion) : Type 0 where
  pub found : (ts rest : List T) (i : ItemShape) → item_of word expansion (kind_at word ts) ts ≡ Ok (i, rest) → IsItem expansion i (map word ts) (map word rest)
  pub only : (ts : List T) (rest : List Word) (i : ItemShape) → IsItem expansion i (map word ts) rest → (behind : List T) × (item_of word expansion (kind_at word ts) ts ≡ Ok (i, behind)) × (map word behind ≡ rest)
  pub recipes : (ts : List T) (rest : List Word) (r : RecipeShape) (blanks : ℕ) → IsRecipe expansion r blanks (map word ts) rest → kind_at word ts ≡ Recipe

abbrev pub ItemsHold : Type 0
ItemsHold = (expansion : Expansion) → ItemsExactly word_of expansion

abbrev pub ItemsHoldOfWords : Type 0
ItemsHoldOfWords = (expansion : Expansion) → ItemsExactly (λ (w : Word). w) expansion
