-- Items of all kinds without their attributes: their grammar, and how they are read.
use Rattle.std.specs.Prelude.{ℕ, ◌≡◌, List, [], Ok}
use Rattle.just_text.specs.Tokens.{Word}
use Rattle.tree_attributes.specs.declared.item_kind.ItemKind.{ItemKind}
use Rattle.tree_attributes.specs.declared.item_kind.ItemKind.TheVariants.{Recipe, Set}
use Rattle.tree_items.specs.Files.{ItemShape, recipe_item, set_item}
use Rattle.parse_expressions.specs.Literals.{Expansion}
use Rattle.parse_expressions.specs.Reading.{◌>>=◌, Read}
use Rattle.parse_recipes.specs.Headers.{IsRecipe}
use Rattle.parse_recipes.specs.Reading.{recipe_at}
use Rattle.parse_items.specs.Items.{IsItem}
use Rattle.parse_items.specs.Reading.{item_of}
use Rattle.parse_items.specs.Settings.{IsSet}
use Rattle.parse_items.specs.SettingReading.{set_at}
use Rattle.semver.specs.declared.Version.{Version}

-- Up to rest there is the item, which has no attributes; so many blank lines after the body of a recipe belong to the file.
abbrev pub IsBare : Expansion → Version → ItemShape → ℕ → List Word → List Word → Type 0
IsBare expansion current (recipe_item [] r) blanks words rest = IsRecipe expansion r blanks words rest
IsBare expansion current (set_item [] s) blanks words rest = IsSet expansion current s words rest × (blanks ≡ 0)
IsBare expansion current other blanks words rest = IsItem expansion other words rest × (blanks ≡ 0)

module _ {T : Type 0} (word : T → Word) (expansion : Expansion) (current : Version) where
  -- the item of that kind, and how many blank lines after its body belong to the file
  unfoldable pub bare_of : ItemKind → List T → Read T (ItemShape × ℕ)
  bare_of Recipe ts = recipe_at word expansion ts >>= λ r. Ok ((recipe_item [] r.0.0, r.0.1), r.1)
  bare_of Set ts = set_at word expansion current ts >>= λ s. Ok ((set_item [] s.0, 0), s.1)
  bare_of kind ts = item_of word expansion kind ts >>= λ i. Ok ((i.0, 0), i.1)
