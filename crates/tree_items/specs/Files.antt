-- Items and files: what they say, and how items are printed.
use Rattle.std.specs.Prelude.{ℕ, ◌+◌, ◌==◌, Bool, true, false, if◌then◌else◌, List, [], ◌∷◌, ◌++◌, map, codes}
use Rattle.tree_items.specs.declared.ast.Item.{Item}
use Rattle.tree_items.specs.declared.ast.Item.TheVariants.{Alias, Assignment, Comment, Function, Import, Module, Newline, Recipe, Set, Unexport}
use Rattle.tree_attributes.specs.declared.item_kind.ItemKind.{ItemKind}
use Rattle.tree_attributes.specs.declared.item_kind.ItemKind.TheVariants.{Alias as AliasKind, Assignment as AssignmentKind, Comment as CommentKind, Function as FunctionKind, Import as ImportKind, Module as ModuleKind, Newline as NewlineKind, Recipe as RecipeKind, Set as SetKind, Unexport as UnexportKind}
use Rattle.tree_items.specs.declared.ast.UnstableFeature.{UnstableFeature}
use Rattle.tree_items.specs.declared.ast.UnstableFeature.TheVariants.{CachedRecipes, DefinedFunctions, Lists}
use Rattle.tree_items.specs.declared.ast.ListFeature.{ListFeature}
use Rattle.tree_items.specs.declared.ast.ListFeature.TheVariants.{Comparison, Concatenation, ConditionalWithoutElse, Literal, Not, StarredArgument}
use Rattle.tree_attributes.specs.Attributes.{AttributeShape, attributes_text}
use Rattle.tree_items.specs.Items.{AliasShape, alias_shape, alias_text, AssignmentShape, assignment_shape, assignment_text, FunctionShape, function_shape, function_text, ImportShape, import_shape, import_text, ModuleShape, module_shape, module_text, set_shape, unexport_shape, unexport_text}
use Rattle.tree_items.specs.Recipes.{RecipeShape, recipe_shape, recipe_text}
use Rattle.tree_attributes.specs.Settings.{SetShape, set_text}
use Rattle.tree_attributes.specs.Sets.Sets.{shapes_in}

-- an item with its attributes, without places
pub data ItemShape : Type 0 where
  alias_item : List AttributeShape → AliasShape → ItemShape
  assignment_item : List AttributeShape → AssignmentShape → ItemShape
  comment_item : List ℕ → ItemShape
  function_item : FunctionShape → ItemShape
  import_item : ImportShape → ItemShape
  module_item : List AttributeShape → ModuleShape → ItemShape
  newline_item : ItemShape
  recipe_item : List AttributeShape → RecipeShape → ItemShape
  set_item : List AttributeShape → SetShape → ItemShape
  unexport_item : List ℕ → ItemShape

abbrev pub item_shape : Item → ItemShape
item_shape (Alias a) = alias_item (shapes_in a.attributes) (alias_shape a)
item_shape (Assignment a) = assignment_item (shapes_in a.attributes) (assignment_shape a)
item_shape (Comment text) = comment_item text.now
item_shape (Function f) = function_item (function_shape f)
item_shape (Import i) = import_item (import_shape i)
item_shape (Module m) = module_item (shapes_in m.attributes) (module_shape m)
item_shape Newline = newline_item
item_shape (Recipe r) = recipe_item (shapes_in r.attributes) (recipe_shape r)
item_shape (Set s) = set_item (shapes_in s.attributes) (set_shape s)
item_shape (Unexport u) = unexport_item (unexport_shape u)

abbrev pub kind_of : ItemShape → ItemKind
kind_of (alias_item attributes a) = AliasKind
kind_of (assignment_item attributes a) = AssignmentKind
kind_of (comment_item text) = CommentKind
kind_of (function_item f) = FunctionKind
kind_of (import_item i) = ImportKind
kind_of (module_item attributes m) = ModuleKind
kind_of newline_item = NewlineKind
kind_of (recipe_item attributes r) = RecipeKind
kind_of (set_item attributes s) = SetKind
kind_of (unexport_item name) = UnexportKind

-- the attributes in front of an item; some items have none
abbrev pub attributes_of : ItemShape → List AttributeShape
attributes_of (alias_item attributes a) = attributes
attributes_of (assignment_item attributes a) = attributes
attributes_of (module_item attributes m) = attributes
attributes_of (recipe_item attributes r) = attributes
attributes_of (set_item attributes s) = attributes
attributes_of other = []

-- an item without its attributes, bodies with this indentation; a comment as it is
abbrev pub bare_text : List ℕ → ItemShape → List ℕ
bare_text indentation (alias_item attributes a) = alias_text a
bare_text indentation (assignment_item attributes a) = assignment_text a
bare_text indentation (comment_item text) = text
bare_text indentation (function_item f) = function_text f
bare_text indentation (import_item i) = import_text i
bare_text indentation (module_item attributes m) = module_text m
bare_text indentation newline_item = codes ""
bare_text indentation (recipe_item attributes r) = recipe_text indentation r
bare_text indentation (set_item attributes s) = set_text s
bare_text indentation (unexport_item name) = unexport_text name

-- an item after its attributes
abbrev pub item_text : List ℕ → ItemShape → List ℕ
item_text indentation item = attributes_text (attributes_of item) ++ bare_text indentation item

-- features that must be asked for
abbrev pub unstable_text : UnstableFeature → List ℕ
unstable_text CachedRecipes = codes "[cache]"
unstable_text DefinedFunctions = codes "defined functions"
unstable_text Lists = codes "lists"

-- features of lists
abbrev pub list_text : ListFeature → List ℕ
list_text Comparison = codes "comparison"
list_text Concatenation = codes "++"
list_text ConditionalWithoutElse = codes "if without else"
list_text Literal = codes "list literal"
list_text Not = codes "!"
list_text StarredArgument = codes "starred argument"

abbrev pub item_shapes : List Item → List ItemShape
item_shapes = map item_shape

-- a blank line
abbrev pub is_blank : ItemShape → Bool
is_blank newline_item = true
is_blank other = false

-- blank lines, two at most
abbrev pub blank_lines : ℕ → List ℕ
blank_lines n = if n == 0 then codes "" else if n == 1 then codes "\n" else codes "\n\n"

-- an item after blank lines, and a newline after it
abbrev pub text_behind : List ℕ → ℕ → ItemShape → List ℕ
text_behind indentation blank item = blank_lines blank ++ item_text indentation item ++ codes "\n"

-- items after blank lines; those after the last item are not written
unfoldable pub file_text_behind : List ℕ → ℕ → List ItemShape → List ℕ
file_text_behind indentation blank [] = []
file_text_behind indentation blank (item ∷ items) =
    if is_blank item then file_text_behind indentation (blank + 1) items else text_behind indentation blank item ++ file_text_behind indentation 0 items

-- a file: between items and at the start a run of blank lines is cut to two, and one newline stands after the last item
abbrev pub file_text : List ℕ → List ItemShape → List ℕ
file_text indentation items = file_text_behind indentation 0 items
