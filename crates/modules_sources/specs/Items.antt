-- What items say of files.
use Rattle.std.specs.Prelude.{ℕ, Bool, if◌then◌else◌, List, [], Option, Some, None}
use Rattle.std.specs.Option.{option_map}
use Rattle.just_text.specs.declared.name.Name.{Name}
use Rattle.just_text.specs.declared.os.Os.{Os}
use Rattle.tree_attributes.specs.Sets.Sets.{is_enabled, items_of}
use Rattle.tree_items.specs.declared.ast.Item.{Item}
use Rattle.tree_items.specs.declared.ast.Item.TheVariants.{Import as import_item, Module as module_item}
use Rattle.tree_items.specs.declared.item.Import.{Import}
use Rattle.tree_items.specs.declared.item.Module.{Module}
use Rattle.modules_compilation.specs.declared.module_node.File.{File}
use Rattle.modules_files.specs.declared.lines.ImportLine.{ImportLine}
use Rattle.modules_files.specs.declared.lines.ModuleLine.{ModuleLine}

-- a path as it is cooked, and whether its file may be missing
abbrev pub ImportParts : Type 0
ImportParts = List ℕ × Bool

-- a name, a path as it is cooked, and whether the file may be missing
abbrev pub ModuleParts : Type 0
ModuleParts = Name × Option (List ℕ) × Bool

abbrev pub import_parts : Import → ImportParts
import_parts line = (line.path.cooked, line.optional)

abbrev pub module_parts : Module → ModuleParts
module_parts line = (line.name, option_map (λ path. path.cooked) line.path, line.optional)

abbrev pub line_of_import : ImportLine → ImportParts
line_of_import line = (line.path.now, line.optional)

abbrev pub line_of_module : ModuleLine → ModuleParts
line_of_module line = (line.name, option_map (λ path. path.now) line.path, line.optional)

-- what an item says, if it is an import
abbrev pub import_of : Item → Option ImportParts
import_of (import_item line) = Some (import_parts line)
import_of other = None

-- what an item says, if it is a submodule that the operating system enables
abbrev pub module_of : Os → Item → Option ModuleParts
module_of os (module_item line) = if is_enabled os (items_of line.attributes) then Some (module_parts line) else None
module_of os other = None

-- the key of the file that may stand at a place, empty where there is none
abbrev pub key_of : Option File → List ℕ
key_of None = []
key_of (Some file) = file.key.now
