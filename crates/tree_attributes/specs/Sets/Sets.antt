-- What is asked of a set of attributes.
use Rattle.std.specs.Prelude.{ℕ, Bool, true, false, not, ◌||◌, List, Option, Some, None, bytes_eq, find, filter_map, map, option_map}
use Rattle.std.specs.List.{list_any}
use Rattle.just_text.specs.declared.compile_error.CompileErrorKind.{CompileErrorKind}
use Rattle.just_text.specs.declared.compile_error.CompileErrorKind.TheVariants.{InvalidAttribute}
use Rattle.just_text.specs.declared.name.Name.{Name}
use Rattle.just_text.specs.declared.os.Os.{Os}
use Rattle.just_text.specs.declared.os.Os.TheVariants.{Android as AndroidOs, Dragonfly as DragonflyOs, Freebsd as FreebsdOs, Linux as LinuxOs, Macos as MacosOs, Netbsd as NetbsdOs, Openbsd as OpenbsdOs}
use Rattle.tree_attributes.specs.declared.item_kind.ItemKind.{ItemKind}
use Rattle.tree_attributes.specs.declared.item_kind.ItemKind.TheVariants.{Alias, Assignment, Module, Recipe, Set}
use Rattle.tree_attributes.specs.declared.attribute.Attribute.{Attribute}
use Rattle.tree_attributes.specs.declared.attribute.Attribute.TheVariants.{Group}
use Rattle.tree_attributes.specs.declared.attribute.AttributeKind.{AttributeKind}
use Rattle.tree_attributes.specs.declared.attribute.AttributeKind.TheVariants.{Android, Doc, Dragonfly, Freebsd, Group as GroupKind, Linux, Macos, Netbsd, Openbsd, Private, Unix, Windows}
use Rattle.tree_attributes.specs.Attributes.{AttributeShape, kind_name, kind_of}
use Rattle.tree_attributes.specs.declared.attribute_item.AttributeItem.{AttributeItem}
use Rattle.tree_attributes.specs.declared.attribute_set.AttributeSet.{AttributeSet}
use Rattle.tree_attributes.specs.Sets.Order.{name_text, item_shape}

-- the items of a set in their order
abbrev pub items_of : AttributeSet → List AttributeItem
items_of set = set.items.items

-- what the attributes of a set say, in their order
abbrev pub shapes_in : AttributeSet → List AttributeShape
shapes_in set = map item_shape (items_of set)

-- where an item is written and what it says
abbrev pub written_item : AttributeItem → Name × AttributeShape
written_item item = (item.name, item_shape item)

-- an attribute has the name of this kind
abbrev pub has_kind : AttributeKind → AttributeShape → Bool
has_kind kind attribute = bytes_eq (name_text attribute) (kind_name kind)

abbrev pub is_of : AttributeKind → AttributeItem → Bool
is_of kind item = has_kind kind (item_shape item)

-- private by an attribute
abbrev pub is_private : List AttributeItem → Bool
is_private = list_any (is_of Private)

-- the text of a group
abbrev pub group_of : Attribute → Option (List ℕ)
group_of (Group text) = Some text.cooked
group_of other = None

-- the groups in the order of their attributes
abbrev pub groups_of : List AttributeItem → List (List ℕ)
groups_of = filter_map (λ item. group_of item.attribute)

-- the attributes that name an operating system or a family of them
abbrev pub is_system : AttributeKind → Bool
is_system Android = true
is_system Dragonfly = true
is_system Freebsd = true
is_system Linux = true
is_system Macos = true
is_system Netbsd = true
is_system Openbsd = true
is_system Unix = true
is_system Windows = true
is_system other = false

-- the attribute that names an operating system
abbrev pub kind_for : Os → AttributeKind
kind_for AndroidOs = Android
kind_for DragonflyOs = Dragonfly
kind_for FreebsdOs = Freebsd
kind_for LinuxOs = Linux
kind_for MacosOs = Macos
kind_for NetbsdOs = Netbsd
kind_for OpenbsdOs = Openbsd

abbrev pub names_system : AttributeShape → Bool
names_system attribute = is_system (kind_of attribute)

-- enabled where no attribute names a system, one names the family, or one names this system
abbrev pub is_enabled : Os → List AttributeItem → Bool
is_enabled os items = not (list_any (λ item. names_system (item_shape item)) items) || list_any (is_of Unix) items || list_any (is_of (kind_for os)) items

abbrev pub is_private_kind : AttributeKind → Bool
is_private_kind Private = true
is_private_kind other = false

abbrev pub is_description : AttributeKind → Bool
is_description Doc = true
is_description GroupKind = true
is_description other = false

-- which attributes an item may carry: a recipe all, a module its description, privacy and systems
abbrev pub may_carry : ItemKind → AttributeKind → Bool
may_carry Recipe kind = true
may_carry Module kind = is_description kind || is_private_kind kind || is_system kind
may_carry Alias kind = is_private_kind kind
may_carry Assignment kind = is_private_kind kind || is_system kind
may_carry Set kind = is_system kind
may_carry other kind = false

-- an attribute that the item may not carry
abbrev pub is_misfit : ItemKind → AttributeItem → Bool
is_misfit carrier item = not (may_carry carrier (kind_of (item_shape item)))

-- the refusal names the first attribute that the item may not carry, and the item
abbrev pub misfit : ItemKind → List ℕ → List AttributeItem → Option CompileErrorKind
misfit carrier name items = option_map (λ item. InvalidAttribute (name_text (item_shape item)) name) (find (is_misfit carrier) items)
