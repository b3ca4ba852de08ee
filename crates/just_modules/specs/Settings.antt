-- What the settings of a module say of its files.
use Rattle.std.specs.Prelude.{ℕ, Bool, false, ◌&&◌, ◌||◌, List, codes, bytes_eq}
use Rattle.std.specs.List.{list_any}
use Rattle.just_text.specs.declared.os.Os.{Os}
use Rattle.tree_attributes.specs.Settings.{ValueShape, truth}
use Rattle.tree_items.specs.Files.{ItemShape, item_shape, set_item}
use Rattle.tree_items.specs.declared.ast.Item.{Item}
use Rattle.modules_compilation.specs.declared.module_node.File.{File}
use Rattle.modules_definitions.specs.declared.keep.Allowed.{Allowed}
use Rattle.just_modules.specs.declared.truths.Truths.{Truths}
use Rattle.meaning_rules.specs.Worlds.Sources.{enabled}

abbrev pub is_true : ValueShape → Bool
is_true (truth value) = value
is_true other = false

-- the item makes this setting true, and is not for another system
abbrev pub turns_on : Os → List ℕ → ItemShape → Bool
turns_on os name (set_item attributes s) = enabled os attributes && bytes_eq s.name name && is_true s.value
turns_on os name other = false

-- one of the items does
abbrev pub is_on_among : Os → List ℕ → List Item → Bool
is_on_among os name items = list_any (λ item. turns_on os name (item_shape item)) items

-- an item of one of the files does
abbrev pub is_on : Os → List File → List ℕ → Bool
is_on os files name = list_any (λ file. is_on_among os name file.ast.items.items) files

-- what the settings in these files say; features that may still change may be asked for without one
abbrev pub truths_of : Os → Bool → List File → Truths
truths_of os unstable files = record {
  allow_duplicate_recipes = is_on os files (codes "allow-duplicate-recipes");
  allow_duplicate_variables = is_on os files (codes "allow-duplicate-variables");
  default_script = is_on os files (codes "default-script");
  guards = is_on os files (codes "guards");
  lists = is_on os files (codes "lists");
  unstable = unstable || is_on os files (codes "unstable");
}

-- what they let a module define twice
abbrev pub allowed_by : Truths → Allowed
allowed_by truths = record { duplicate_recipes = truths.allow_duplicate_recipes; duplicate_variables = truths.allow_duplicate_variables }
