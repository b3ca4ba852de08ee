-- The list of what a module offers: the recipes that it keeps and its submodules, but for private ones.
use Rattle.std.specs.Prelude.{◌≡◌, ◌↔◌, ℕ, false, List, map, Option, Some, Contains, length, slice_get, take}
use Rattle.std.specs.List.Sorted.{IsStrictlySortedBy}
use Rattle.tree_attributes.specs.Attributes.{AttributeShape}
use Rattle.tree_items.specs.Files.{ItemShape, recipe_item}
use Rattle.tree_items.specs.Recipes.{ParameterShape, RecipeShape, signature_text}
use Rattle.modules_compilation.specs.Tables.{text_cmp}
use Rattle.meaning_rules.specs.Worlds.Docs.{doc_at}
use Rattle.meaning_rules.specs.Worlds.Given.{Given, Text, World, filled}
use Rattle.meaning_rules.specs.Worlds.Keeping.{KeepsAt, a_recipe}
use Rattle.meaning_rules.specs.Worlds.Laws.{IsRead}
use Rattle.meaning_rules.specs.Worlds.Sources.{IsFileOf, IsSubmodule}
use Rattle.just_meaning.specs.Defining.{is_private}
use Rattle.justfile_analyzer.specs.Listings.{Listed, listing_text}

-- a recipe of the list: its name, its parameters as they are written, and what is said of it
pub record OfferedRecipe : Type 0 where
  pub name : Text
  pub parameters : List ParameterShape
  pub doc : Option Text

-- its signature: the name, and each parameter after a space
abbrev pub listed_row : OfferedRecipe → Listed
listed_row row = record { signature = signature_text row.name row.parameters; doc = row.doc }

-- What is said of the recipe that stands at a place of a file, where blank lines have none: by its attribute `doc`, else by the comment directly above it in the file's text.
pub record IsDoc (source : Given) (key : Text) (at : ℕ) (attributes : List AttributeShape) (shape : RecipeShape) (doc : Option Text) : Type 0 where
  pub items : List ItemShape
  pub says : IsRead source key items
  pub place : ℕ
  pub there : slice_get items place ≡ Some (recipe_item attributes shape)
  pub rank : length (filled (take place items)) ≡ at
  pub is : doc ≡ doc_at source.expansion items place attributes

module _ (source : Given) (w : World) (own : Text) where
  -- a recipe that the module keeps, and that is not private
  pub record IsOffered (row : OfferedRecipe) : Type 0 where
    pub key : Text
    pub at : ℕ
    pub attributes : List AttributeShape
    pub shape : RecipeShape
    pub kept : KeepsAt w own a_recipe row.name key at (recipe_item attributes shape)
    pub shown : is_private attributes row.name ≡ false
    pub parameters : row.parameters ≡ shape.parameters
    pub doc : IsDoc source key at attributes shape row.doc

  -- these are they, in byte order of their names
  pub record AreOffered (rows : List OfferedRecipe) : Type 0 where
    pub sorted : IsStrictlySortedBy text_cmp (map (λ row. row.name) rows)
    pub each : (row : OfferedRecipe) → Contains rows row ↔ IsOffered row

module _ (w : World) (own : Text) where
  -- a submodule that is not private
  pub record IsOfferedModule (name : Text) : Type 0 where
    pub file : Text
    pub key : Text
    pub of : IsFileOf w own file
    pub is : IsSubmodule w file name key
    pub shown : is_private is.has.attributes name ≡ false

  -- these are they, in byte order
  pub record AreOfferedModules (names : List Text) : Type 0 where
    pub sorted : IsStrictlySortedBy text_cmp names
    pub each : (name : Text) → Contains names name ↔ IsOfferedModule name

-- the text is the list of what the module offers that has the own file
pub record IsListing (source : Given) (w : World) (own text : Text) : Type 0 where
  pub rows : List OfferedRecipe
  pub recipes : AreOffered source w own rows
  pub names : List Text
  pub submodules : AreOfferedModules w own names
  pub is : text ≡ listing_text (map listed_row rows) names
