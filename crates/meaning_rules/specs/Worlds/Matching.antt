-- Files that say what their sources say.
use Rattle.std.specs.Prelude.{◌≡◌, ℕ, Some, Ok, slice_get}
use Rattle.std.specs.List.{All}
use Rattle.tree_expressions.specs.Cooking.{cooked}
use Rattle.tree_expressions.specs.Shape.{written}
use Rattle.tree_expressions.specs.declared.string_literal.StringLiteral.{StringLiteral}
use Rattle.tree_attributes.specs.declared.attribute.Attribute.{Attribute}
use Rattle.tree_attributes.specs.declared.attribute.Attribute.TheVariants.{Doc}
use Rattle.tree_attributes.specs.declared.setting.Setting.{Setting}
use Rattle.tree_attributes.specs.declared.setting.Setting.TheVariants.{Indentation}
use Rattle.tree_attributes.specs.Sets.Sets.{items_of}
use Rattle.tree_attributes.specs.declared.attribute_item.AttributeItem.{AttributeItem}
use Rattle.tree_items.specs.declared.ast.Item.{Item}
use Rattle.tree_items.specs.declared.ast.Item.TheVariants as items
use Rattle.parse_attributed_items.specs.Held.{IsOwnItem}
use Rattle.parse_expressions.specs.Literals.{Expansion}
use Rattle.tree_items.specs.Files.{item_shapes}
use Rattle.modules_compilation.specs.declared.compilation.Compilation.{Compilation}
use Rattle.modules_compilation.specs.declared.module_node.File.{File}
use Rattle.meaning_rules.specs.Worlds.Given.{Given}
use Rattle.meaning_rules.specs.Worlds.Laws.{IsRead}

-- a string holds what it stands for
abbrev pub HasOwnText : Expansion → StringLiteral → Type 0
HasOwnText expansion s = cooked expansion (written s) ≡ Ok s.cooked

-- that of an attribute `doc` does
abbrev pub DocText : Expansion → Attribute → Type 0
DocText expansion (Doc (Some s)) = HasOwnText expansion s
DocText expansion other = Unit {0}

abbrev pub HasDocText : Expansion → AttributeItem → Type 0
HasDocText expansion item = DocText expansion item.attribute

-- that of a setting of the indentation does
abbrev pub HasIndentationText : Expansion → Setting → Type 0
HasIndentationText expansion (Indentation s) = HasOwnText expansion s
HasIndentationText expansion other = Unit {0}

abbrev pub HoldsTexts : Expansion → Item → Type 0
HoldsTexts expansion (items.Recipe r) = All (HasDocText expansion) (items_of r.attributes)
HoldsTexts expansion (items.Set s) = HasIndentationText expansion s.value
HoldsTexts expansion other = Unit {0}

-- a file says all that its text says, blank lines too, and its strings hold what they stand for
pub record MatchesSource (source : Given) (file : File) : Type 0 where
  pub says : IsRead source file.key.now (item_shapes file.ast.items.items)
  pub own : All (IsOwnItem source.expansion) file.ast.items.items
  pub texts : All (HoldsTexts source.expansion) file.ast.items.items

-- so does each file of a compilation
abbrev pub MatchSources : Given → Compilation → Type 0
MatchSources source compilation = (k : ℕ) (file : File) → slice_get compilation.files.items k ≡ Some file → MatchesSource source file
