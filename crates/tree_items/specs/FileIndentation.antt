-- The indentation that a file sets.
use Rattle.std.specs.Prelude.{ℕ, if◌then◌else◌, List, [], ◌∷◌, Option, Some, None}
use Rattle.std.specs.Option.{option_and_then}
use Rattle.just_text.specs.declared.os.Os.{Os}
use Rattle.tree_items.specs.declared.ast.Item.{Item}
use Rattle.tree_items.specs.declared.ast.Item.TheVariants.{Set as SetItem}
use Rattle.tree_attributes.specs.declared.setting.Setting.{Setting}
use Rattle.tree_attributes.specs.declared.setting.Setting.TheVariants.{Indentation}
use Rattle.tree_attributes.specs.Sets.Indentations.{is_indentation}
use Rattle.tree_attributes.specs.Sets.Sets.{is_enabled, items_of}

-- the text of a setting of the indentation
abbrev pub indentation_text : Setting → Option (List ℕ)
indentation_text (Indentation text) = Some text.cooked
indentation_text other = None

-- the indentation that an item sets where it is enabled
abbrev pub item_indentation : Os → Item → Option (List ℕ)
item_indentation os (SetItem set) = if is_enabled os (items_of set.attributes) then indentation_text set.value else None
item_indentation os other = None

abbrev pub or_next : {B : Type 0} → Option B → Option B → Option B
or_next None next = next
or_next (Some b) next = Some b

-- what the first element gives that gives something
unfoldable pub first_given : {A B : Type 0} → (A → Option B) → List A → Option B
first_given f [] = None
first_given f (x ∷ xs) = or_next (f x) (first_given f xs)

-- a text that is an indentation
abbrev pub known : List ℕ → Option (List ℕ)
known text = if is_indentation text then Some text else None

-- the indentation by the first enabled item that sets it
abbrev pub file_indentation : Os → List Item → Option (List ℕ)
file_indentation os items = option_and_then known (first_given (item_indentation os) items)
