-- What a world that breaks no rule says of what is defined by name: each name that is read or called is known, and words invoke recipes that are there.
use Rattle.std.specs.Prelude.{◌≡◌, ℕ, List, Some, Contains}
use Rattle.tree_attributes.specs.Attributes.{AttributeShape}
use Rattle.tree_attributes.specs.Sets.Order.{in_order}
use Rattle.tree_items.specs.Files.{recipe_item}
use Rattle.tree_items.specs.Recipes.{RecipeShape}
use Rattle.meaning_rules.specs.Worlds.Given.{Text, World, Overrides}
use Rattle.meaning_rules.specs.Worlds.Sources.{AreSaid, Has, Reached}
use Rattle.meaning_rules.specs.Worlds.Modules.{IsModule, IsReadingOrder}
use Rattle.meaning_rules.specs.Rules.{Rule, Broken}
use Rattle.meaning_evaluation.specs.Named.{ModuleRow, Definitions, paths_of}

-- the world breaks no rule, with these overrides
abbrev pub BreaksNoRule : World → Overrides → Type 0
BreaksNoRule w o = (rule : Rule) → Broken w o rule → ⊥

-- The files of a world are read: each that is reached says something, and the files of each module have an order.
pub record IsRead (w : World) : Type 0 where
  pub said : AreSaid w
  pub orders : (path : List Text) (own : Text) → IsModule w path own → (files : List Text) × IsReadingOrder w own files

-- the attributes of each recipe stand in their order
abbrev pub AreInOrder : World → Type 0
AreInOrder w = (key : Text) (place : ℕ) (attributes : List AttributeShape) (r : RecipeShape) → Reached w key → Has w key place (recipe_item attributes r) → in_order attributes ≡ attributes

-- each module of the tree has a row
abbrev pub HaveRows : Definitions → Type 0
HaveRows defined = (path : List Text) → Contains (paths_of defined.modules) path → (row : ModuleRow) × (defined.inside path ≡ Some row)
