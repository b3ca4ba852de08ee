-- The rules on single items of a module, and the refusals that name them.
use Rattle.std.specs.Prelude.{◌≡◌, ℕ, zero, suc, slice_get, ◌&&◌, Bool, true, false, ◌||◌, if◌then◌else◌, List, Option, Some, None, Contains, codes, bytes_eq}
use Rattle.just_text.specs.declared.compile_error.CompileErrorKind.{CompileErrorKind}
use Rattle.just_text.specs.declared.compile_error.CompileErrorKind.TheVariants.{ExtraLeadingWhitespace, GuardAndInfallible}
use Rattle.tree_attributes.specs.declared.attribute.AttributeKind.TheVariants.{Cache, Script}
use Rattle.tree_attributes.specs.Attributes.{AttributeShape}
use Rattle.tree_items.specs.declared.ast.Item.{Item}
use Rattle.tree_items.specs.declared.ast.Item.TheVariants.{Recipe as RecipeItem}
use Rattle.tree_items.specs.declared.ast.ListFeature.{ListFeature}
use Rattle.tree_items.specs.declared.ast.UnstableFeature.{UnstableFeature}
use Rattle.tree_items.specs.declared.ast.UnstableFeature.TheVariants.{CachedRecipes, DefinedFunctions, Lists}
use Rattle.tree_items.specs.Files.{ItemShape, item_shape, function_item, recipe_item, set_item}
use Rattle.tree_items.specs.Lines.{Piece, text, begins_with_space, is_continuation, sigils_of}
use Rattle.tree_attributes.specs.Sets.Sets.{shapes_in}
use Rattle.tree_items.specs.Recipes.{RecipeShape, recipe_shape}
use Rattle.modules_compilation.specs.declared.module_node.File.{File}
use Rattle.just_modules.specs.declared.truths.Truths.{Truths}
use Rattle.just_modules.specs.Lists.{lists_of}
use Rattle.meaning_rules.specs.Worlds.Given.{World}
use Rattle.meaning_rules.specs.Worlds.Sources.{is_enabled}
use Rattle.meaning_rules.specs.Rules.{Rule, syntax, unstable_feature, lists_needed, cache_left_out, attribute_conflict, has, first_of, last_of, begins_shebang, Excludes, UsesUnstable, IsOwnLine}

-- what is wrong with a line of a body that doesn't go on with the one before
pub data BreaksLine (guards : Bool) (line : List Piece) : CompileErrorKind → Type 0 where
  space : begins_with_space (first_of line) ≡ true → BreaksLine guards line ExtraLeadingWhitespace
  marks : guards ≡ true → (sigils_of true (first_of line)).guard ≡ true → (sigils_of true (first_of line)).infallible ≡ true → BreaksLine guards line GuardAndInfallible

-- a line goes on with the one before
abbrev pub continues : Option (List Piece) → Bool
continues None = false
continues (Some line) = is_continuation (last_of line)

abbrev pub goes_on : List (List Piece) → ℕ → Bool
goes_on lines zero = false
goes_on lines (suc k) = continues (slice_get lines k)

-- the line at the place doesn't, and something is wrong with it
abbrev pub BreaksPlace : Bool → List (List Piece) → ℕ → CompileErrorKind → Type 0
BreaksPlace guards lines place kind = (line : List Piece) × (slice_get lines place ≡ Some line) × (goes_on lines place ≡ false) × BreaksLine guards line kind

abbrev pub is_text : Option Piece → Bool
is_text (Some (text t)) = true
is_text other = false

abbrev pub both_marks : Option Piece → Bool
both_marks piece = (sigils_of true piece).guard && (sigils_of true piece).infallible

-- a line of the recipe's body breaks the rule
abbrev pub BreaksBody : World → Bool → RecipeShape → CompileErrorKind → Type 0
BreaksBody w guards r kind = (line : List Piece) × IsOwnLine w r line × BreaksLine guards line kind

-- the recipe is a script
abbrev pub is_script : Truths → List AttributeShape → RecipeShape → Bool
is_script truths attributes r = truths.default_script || has Script attributes || begins_shebang r.body

-- what a recipe that is there breaks
pub data BreaksRecipe (w : World) (truths : Truths) (attributes : List AttributeShape) (r : RecipeShape) : Rule → Type 0 where
  body : {kind : CompileErrorKind} → is_script truths attributes r ≡ false → BreaksBody w truths.guards r kind → BreaksRecipe w truths attributes r (syntax kind)
  cache : has Cache attributes ≡ true → BreaksRecipe w truths attributes r (cache_left_out r.name)
  conflict : {one other : List ℕ} → Excludes attributes r one other → BreaksRecipe w truths attributes r (attribute_conflict r.name one other)

-- the same of an item, if it is a recipe
abbrev pub BreaksIfRecipe : World → Truths → Item → Rule → Type 0
BreaksIfRecipe w truths (RecipeItem r) rule = BreaksRecipe w truths (shapes_in r.attributes) (recipe_shape r) rule
BreaksIfRecipe w truths other rule = ⊥

-- what an item that is there breaks, in a module with these settings
pub data BreaksEnabled (w : World) (truths : Truths) (item : Item) : Rule → Type 0 where
  lists : {feature : ListFeature} → truths.lists ≡ false → Contains (lists_of item) feature → BreaksEnabled w truths item (lists_needed feature)
  recipe : {rule : Rule} → BreaksIfRecipe w truths item rule → BreaksEnabled w truths item rule

-- what an item breaks; of one for another system only features that may still change are looked at
pub data BreaksItem (w : World) (truths : Truths) (item : Item) : Rule → Type 0 where
  unstable : {feature : UnstableFeature} → truths.unstable ≡ false → UsesUnstable (item_shape item) feature → BreaksItem w truths item (unstable_feature feature)
  there : {rule : Rule} → is_enabled w.os (item_shape item) ≡ true → BreaksEnabled w truths item rule → BreaksItem w truths item rule

-- one of the items breaks the rule
abbrev pub BreaksItems : World → Truths → List Item → Rule → Type 0
BreaksItems w truths items rule = (item : Item) × Contains items item × BreaksItem w truths item rule

-- an item of one of the files does
abbrev pub BreaksFiles : World → Truths → List File → Rule → Type 0
BreaksFiles w truths files rule = (file : File) × Contains files file × BreaksItems w truths file.ast.items.items rule

-- the feature that must be asked for and that an item uses, if it uses one
abbrev pub unstable_in : ItemShape → Option UnstableFeature
unstable_in (function_item f) = Some DefinedFunctions
unstable_in (recipe_item attributes r) = if has Cache attributes then Some CachedRecipes else None
unstable_in (set_item attributes s) = if bytes_eq s.name (codes "lists") then Some Lists else None
unstable_in other = None
