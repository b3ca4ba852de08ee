-- Files: what they say, what they import, and which are reached.
use Rattle.std.specs.Prelude.{◌≡◌, ◌⊎◌, ℕ, suc, ◌≤◌, Bool, true, false, not, ◌||◌, List, ◌++◌, Option, Some, None, Ok, codes, map, slice_get, bytes_eq}
use Rattle.std.specs.List.{list_any}
use Rattle.std.specs.Char.{to_ascii_lowercase}
use Rattle.just_text.specs.declared.os.Os.{Os}
use Rattle.tree_attributes.specs.declared.attribute.AttributeKind.TheVariants.{Unix}
use Rattle.tree_attributes.specs.Attributes.{AttributeShape}
use Rattle.tree_attributes.specs.Sets.Sets.{has_kind, kind_for, names_system}
use Rattle.tree_expressions.specs.Cooking.{cooked}
use Rattle.tree_items.specs.Files.{ItemShape, import_item, module_item, attributes_of}
use Rattle.tree_items.specs.Items.{ImportShape, ModuleShape}
use Rattle.modules_compilation.specs.Paths.{key_from, folder_from}
use Rattle.meaning_rules.specs.Worlds.Given.{Text, World}

-- enabled where no attribute names a system, one names the family, or one names this system
abbrev pub enabled : Os → List AttributeShape → Bool
enabled os attributes = not (list_any names_system attributes) || list_any (has_kind Unix) attributes || list_any (has_kind (kind_for os)) attributes

abbrev pub is_enabled : Os → ItemShape → Bool
is_enabled os item = enabled os (attributes_of item)

-- `justfile` or `.justfile` in any capitals
abbrev pub is_justfile : Text → Bool
is_justfile name = bytes_eq (map to_ascii_lowercase name) (codes "justfile") || bytes_eq (map to_ascii_lowercase name) (codes ".justfile")

-- a file of this name stands for the folder
pub record IsOfFolder (folder key : Text) : Type 0 where
  pub name : Text
  pub whole : key ≡ folder ++ name
  pub is : (name ≡ codes "mod.just") ⊎ (is_justfile name ≡ true)

-- the path of a folder, from a file on, for which the key stands
abbrev pub InFolder : Text → Text → Text → Type 0
InFolder file path key = (folder : Text) × (folder_from file path ≡ Some folder) × IsOfFolder folder key

-- what a module without a path may mean
abbrev pub Beside : Text → Text → Text → Type 0
Beside file name key = (key_from file (name ++ codes ".just") ≡ Some key) ⊎ InFolder file name key

module _ (w : World) where
  -- there is a file at the key
  abbrev pub IsThere : Text → Type 0
  IsThere key = w.there key ≡ true

  abbrev pub IsMissing : Text → Type 0
  IsMissing key = w.there key ≡ false

  -- the file at the key has this item at this place; blank lines have none
  pub record Has (key : Text) (place : ℕ) (item : ItemShape) : Type 0 where
    pub items : List ItemShape
    pub says : w.said key ≡ Some items
    pub at : slice_get items place ≡ Some item

  -- the path that an import or a module writes as a string
  abbrev pub Writes : Text → Text → Type 0
  Writes string path = cooked w.expansion string ≡ Ok path

  -- an import at a place of a file names this path
  pub record ImportsAt (file : Text) (place : ℕ) (optional : Bool) (path : Text) : Type 0 where
    pub line : ImportShape
    pub has : Has file place (import_item line)
    pub is_optional : line.optional ≡ optional
    pub written : Writes line.path path

  -- an import of the first file names the second, which is there
  pub record Imports (file other : Text) : Type 0 where
    pub place : ℕ
    pub optional : Bool
    pub path : Text
    pub line : ImportsAt file place optional path
    pub names : key_from file path ≡ Some other
    pub there : IsThere other

  -- so many imports lead from one file to another
  pub data Leads : Text → ℕ → Text → Type 0 where
    itself : {file : Text} → Leads file 0 file
    further : {file between other : Text} {count : ℕ} → Leads file count between → Imports between other → Leads file (suc count) other

  -- a file is one of the module that has the first as its own
  pub record IsFileOf (own file : Text) : Type 0 where
    pub count : ℕ
    pub leads : Leads own count file

  -- the depth of a file: the least number of imports that lead to it
  pub record IsDepth (own file : Text) (depth : ℕ) : Type 0 where
    pub leads : Leads own depth file
    pub least : (count : ℕ) → Leads own count file → depth ≤ count

  -- ---- the file of a module

  -- no file is there at the key that the path names, if it names one
  abbrev pub IsNoKey : Text → Text → Type 0
  IsNoKey file path = (key : Text) → key_from file path ≡ Some key → IsMissing key

  -- what one with a path may mean: its key, else what stands for the folder
  abbrev pub ByPath : Text → Text → Text → Type 0
  ByPath file path key = (key_from file path ≡ Some key) ⊎ (IsNoKey file path × InFolder file path key)

  abbrev pub May : Text → ModuleShape → Option Text → Text → Type 0
  May file m None key = Beside file m.name key
  May file m (Some string) key = (path : Text) × Writes string path × ByPath file path key

  -- a file that the module in this file may mean
  pub record MayMean (file : Text) (m : ModuleShape) (key : Text) : Type 0 where
    pub there : IsThere key
    pub named : May file m m.path key

  -- an enabled module stands at a place of a file
  pub record HasModule (file : Text) (place : ℕ) (m : ModuleShape) : Type 0 where
    pub attributes : List AttributeShape
    pub has : Has file place (module_item attributes m)
    pub enabled : enabled w.os attributes ≡ true

  -- a module of a file, by its name, with the one file that it may mean
  pub record IsSubmodule (file name key : Text) : Type 0 where
    pub place : ℕ
    pub line : ModuleShape
    pub has : HasModule file place line
    pub is_named : line.name ≡ name
    pub means : MayMean file line key
    pub alone : (other : Text) → MayMean file line other → other ≡ key

  -- ---- what is reached (the least set that holds the root and is closed under imports and module files)

  pub data Reached : Text → Type 0 where
    root : Reached w.root
    imported : {file other : Text} → Reached file → Imports file other → Reached other
    submodule : {file name other : Text} → Reached file → IsSubmodule file name other → Reached other

  -- each file that is reached says something
  abbrev pub AreSaid : Type 0
  AreSaid = (key : Text) → Reached key → (items : List ItemShape) × (w.said key ≡ Some items)
