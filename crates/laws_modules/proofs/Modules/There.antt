-- A world for what is loaded.
use Rattle.std.proofs.Common.{◌≡◌, sym, ◌∙◌, ap, subst, Bool, true, false, cond, ◌∷◌, [], ℕ, zero, suc, List, Option, Some, None, refl, map}
use Rattle.std.specs.Prelude.{slice_get}
use Rattle.std.specs.BTreeMap.{BTreeMap}
use Rattle.std.specs.Map.{lookup}
use Rattle.std.specs.Option.{option_map}
use Rattle.std.specs.Str.{bytes_eq}
use Rattle.std.specs.declared.string.String.{String}
use Rattle.std.proofs.lemmas.Option.{none-some, same_Some}
use Rattle.std.proofs.lemmas.Slice.Eq.{bytes_eq-Decides}
use Rattle.just_text.specs.Numbers.{Numbers}
use Rattle.just_text.specs.declared.os.Os.{Os}
use Rattle.tree_items.specs.Files.{ItemShape, item_shapes}
use Rattle.parse_expressions.specs.Literals.{Expansion}
use Rattle.justfile_syntax.specs.Laws.{FaultsSayNothing, SaysAtMostOne}
use Rattle.justfile_syntax.specs.Reads.{Reads}
use Rattle.semver.specs.declared.Version.{Version}
use Rattle.modules_compilation.specs.declared.compilation.Compilation.{Compilation}
use Rattle.modules_compilation.specs.declared.module_node.File.{File}
use Rattle.modules_files.specs.Found.{source_of}
use Rattle.modules_sources.specs.Loaded.{AreLoaded}
use Rattle.modules_sources.specs.ReadingOrder.{IsOfModule}
use Rattle.meaning_rules.specs.Worlds.Given.{Given, Text, World, filled}
use Rattle.meaning_rules.specs.Worlds.Laws.{AreAllRead, IsRead, Row, WorldsAreThere, world_of}
use Rattle.meaning_rules.specs.Worlds.Standing.{StandsFor}
use Rattle.laws_modules.specs.Files.Files.{AreSaidWhereReached}
use Rattle.laws_modules.specs.Files.Laws.{LoadedAreFiles}
use Rattle.meaning_rules.specs.Worlds.Views.{given_of}
use Rattle.laws_modules.specs.Submodules.Submodules.{FoundAreSubmodules}
use Rattle.laws_modules.specs.Modules.Laws.{IsLoaded, WorldIsThere}
use Rattle.laws_modules.proofs.Modules.Loaded.{all_said}
use Rattle.laws_modules.proofs.Modules.Said.{each_read}

-- ---- rows of files

-- the items of a file
abbrev items_of : File → List ItemShape
items_of file = item_shapes file.ast.items.items

-- a file by its key, with what it says
abbrev row_of : File → Row
row_of file = (file.key.now, items_of file)

-- what is found at a key is what a file with that key says
record IsRowOf (files : List File) (key : Text) (items : List ItemShape) : Type 0 where
  place : ℕ
  file : File
  there : slice_get files place ≡ Some file
  key_is : file.key.now ≡ key
  says : items_of file ≡ items

found_row : (files : List File) (key : Text) (items : List ItemShape) → lookup (bytes_eq key) (map row_of files) ≡ Some items → IsRowOf files key items
found_row [] key items e = absurd (none-some items e)
found_row (file ∷ files) key items e = by_test (bytes_eq key file.key.now) refl (found_row files key items) e
  where
    by_test : (b : Bool) → bytes_eq key file.key.now ≡ b → (lookup (bytes_eq key) (map row_of files) ≡ Some items → IsRowOf files key items) → cond b (Some (items_of file)) (lookup (bytes_eq key) (map row_of files)) ≡ Some items
        → IsRowOf (file ∷ files) key items
    by_test true is later e = record { place = 0; file = file; there = refl; key_is = sym ((bytes_eq-Decides key file.key.now).0 is); says = same_Some (items_of file) items e }
    by_test false is later e = let r = later e in record { place = suc r.place; file = r.file; there = r.there; key_is = r.key_is; says = r.says }

-- at the key of each file something is found
row_there : (files : List File) (place : ℕ) (file : File) → slice_get files place ≡ Some file → (items : List ItemShape) × (lookup (bytes_eq file.key.now) (map row_of files) ≡ Some items)
row_there [] place file e = absurd (none-some file e)
row_there (other ∷ files) zero file e =
    let same = ap (λ f. f.key.now) (sym (same_Some other file e)) in
    (items_of other, ap (λ b. cond b (Some (items_of other)) (lookup (bytes_eq file.key.now) (map row_of files))) ((bytes_eq-Decides file.key.now other.key.now).1 same))
row_there (other ∷ files) (suc place) file e = by_test (bytes_eq file.key.now other.key.now) (row_there files place file e)
  where
    by_test : (b : Bool) → (items : List ItemShape) × (lookup (bytes_eq file.key.now) (map row_of files) ≡ Some items)
        → (items : List ItemShape) × (cond b (Some (items_of other)) (lookup (bytes_eq file.key.now) (map row_of files)) ≡ Some items)
    by_test true later = (items_of other, refl)
    by_test false later = later

-- where items without blank lines are found, so are items
items_found : (found : Option (List ItemShape)) (items : List ItemShape) → option_map filled found ≡ Some items → (all : List ItemShape) × (found ≡ Some all)
items_found None items e = absurd (none-some items e)
items_found (Some all) items e = (all, refl)

-- ---- the world of the files that are loaded

module _ {Y Z : Type 0} (sources : BTreeMap (String Y) (String Z)) (files_law : LoadedAreFiles sources) (submodules_law : FoundAreSubmodules sources) (worlds_law : WorldsAreThere) (one : SaysAtMostOne) (faultless : FaultsSayNothing)
    (os : Os) (unstable : Bool) (expansion : Expansion) (version : Version) (root : Text) (start : Numbers) (compilation : Compilation) (are : AreLoaded sources expansion version os start true root compilation) where
  abbrev files : List File
  files = compilation.files.items

  abbrev given : Given
  given = given_of sources os unstable expansion version root

  abbrev rows : List Row
  rows = map row_of files

  abbrev w : World
  w = world_of given rows

  -- each file was read
  read : (place : ℕ) (file : File) → slice_get files place ≡ Some file → (owner : ℕ) × IsOfModule sources expansion version owner file
  read = each_read sources expansion version os start files compilation.modules.items are.modules are.linked.covered

  -- so was each row
  row_read : (key : Text) (items : List ItemShape) → lookup (bytes_eq key) rows ≡ Some items → IsRead given key items
  row_read key items e =
      let r = found_row files key items e in
      let of = (read r.place r.file r.there).1 in
      (of.text, subst (λ k. source_of sources k ≡ Some of.text) r.key_is of.there, subst (Reads expansion version of.text) r.says of.says)

  -- the first row of a file's key says what the file says
  said : AreSaidWhereReached w files
  said place file e reached =
      let of = (read place file e).1 in
      let t = row_there files place file e in
      let r : IsRead given file.key.now t.0 = row_read file.key.now t.0 t.1 in
      let texts : r.0 ≡ of.text = same_Some r.0 of.text (sym r.1 ∙ of.there) in
      let same : t.0 ≡ items_of file = one expansion version of.text t.0 (items_of file) (subst (λ text. Reads expansion version text t.0) texts r.2) of.says in
      ap (option_map filled) t.1 ∙ ap (λ items. Some (filled items)) same

  is_loaded : IsLoaded sources w compilation
  is_loaded = record { os = os; expansion = expansion; version = version; root = root; start = start; has = record { same_expansion = refl; there = λ key. refl }; same_os = refl; same_root = refl; said = said; are = are }

  -- all files that the world reaches are among those that are loaded
  all_read : AreAllRead given rows
  all_read = record {
    each = row_read;
    all = λ key reached. let s = all_said sources files_law submodules_law w compilation is_loaded key reached in items_found (lookup (bytes_eq key) rows) s.0 s.1;
  }

  pub its_world : (w : World) × StandsFor given w
  its_world = (w, worlds_law one faultless given rows all_read)

module _ {Y Z : Type 0} (sources : BTreeMap (String Y) (String Z)) (files_law : LoadedAreFiles sources) (submodules_law : FoundAreSubmodules sources) (worlds_law : WorldsAreThere) where
  pub world_is_there : WorldIsThere sources
  world_is_there one faultless os unstable expansion version root start compilation are = its_world sources files_law submodules_law worlds_law one faultless os unstable expansion version root start compilation are
