-- The files of a module in reading order.
use Rattle.std.specs.Prelude.{◌≡◌, ◌<◌, ◌≤◌, ◌+◌, ℕ, suc, List, [], ◌∷◌, ◌++◌, map, length, slice_get, take, drop, Ok, Some, Contains}
use Rattle.std.specs.BTreeMap.{BTreeMap}
use Rattle.std.specs.List.{flat_map}
use Rattle.std.specs.declared.string.String.{String}
use Rattle.just_text.specs.Numbers.{Numbers}
use Rattle.tree_items.specs.Files.{item_shapes}
use Rattle.parse_expressions.specs.Literals.{Expansion, from_file}
use Rattle.justfile_syntax.specs.Numbered.{AreInOrder}
use Rattle.justfile_syntax.specs.Parsed.{IsWhole}
use Rattle.justfile_syntax.specs.Reads.{Reads}
use Rattle.semver.specs.declared.Version.{Version}
use Rattle.modules_compilation.specs.declared.error.Error.{Error}
use Rattle.modules_compilation.specs.declared.module_node.File.{File as LoadedFile}
use Rattle.modules_files.specs.Chosen.{File}
use Rattle.modules_files.specs.Found.{source_of}
use Rattle.resolve_order.specs.Needs.{IsCycle, rows}
use Rattle.modules_sources.specs.Imports.{depth_behind, imports_among}
use Rattle.modules_sources.specs.Loading.{IsTurnRefused, IsUnread}
use Rattle.modules_sources.specs.Reached.{AreReached, IsStepBack, with_new}
use Rattle.modules_sources.specs.declared.imports.Reached.{Reached}

-- a text: a name, a key or a path
abbrev Text : Type 0
Text = List ℕ

abbrev pub loaded_keys : List LoadedFile → List Text
loaded_keys files = map (λ file. file.key.now) files

-- the places of each row are those of these files' keys
abbrev pub ArePlacesOfRows : List Text → List (List File) → List (List ℕ) → Type 0
ArePlacesOfRows keys imports places = map (map (slice_get keys)) places ≡ map (map (λ file. Some file.0)) imports

-- the numbers in files that are read one after the other
pub data AreNumbered : Numbers → List LoadedFile → Numbers → Type 0 where
  numbered_none : {numbers : Numbers} → AreNumbered numbers [] numbers
  numbered_more : {old now new : Numbers} {files : List LoadedFile} (file : LoadedFile) → AreNumbered old files now → AreInOrder now new file.ast.items.items → AreNumbered old (files ++ file ∷ []) new

-- the first of the files that import it stands earlier, and it is one import deeper
pub record IsLed (files : List LoadedFile) (imports : List (List File)) (place : ℕ) (file : LoadedFile) : Type 0 where
  pub at : ℕ
  pub earlier : at < place
  pub row : List File
  pub here : slice_get imports at ≡ Some row
  pub imported : Contains (map (λ f. f.0) row) file.key.now
  pub first : (other : ℕ) (others : List File) → other < at → slice_get imports other ≡ Some others → Contains (map (λ f. f.0) others) file.key.now → ⊥
  pub depth : file.depth ≡ depth_behind (slice_get files at)

module _ {Y Z : Type 0} (sources : BTreeMap (String Y) (String Z)) where
  -- each of the files names these files by its imports
  abbrev pub AreImports : List LoadedFile → List (List File) → Type 0
  AreImports files imports = map (λ file. imports_among sources file.key.now file.ast.items.items) files ≡ map Ok imports

  module _ (expansion : Expansion) (version : Version) (owner : ℕ) where
    -- the file says what the text at its key says, and is the module's
    pub record IsOfModule (file : LoadedFile) : Type 0 where
      pub text : Text
      pub there : source_of sources file.key.now ≡ Some text
      pub says : Reads expansion version text (item_shapes file.ast.items.items)
      pub whole : IsWhole (from_file file.key.now expansion) file.ast
      pub owner_is : file.module ≡ owner

    -- the module's own file stands alone
    pub record IsOwnAlone (own : Text) (files : List LoadedFile) : Type 0 where
      pub file : LoadedFile
      pub alone : files ≡ file ∷ []
      pub key : file.key.now ≡ own
      pub depth : file.depth ≡ 0
      pub of : IsOfModule file

    -- The first so many files are followed: the keys are the module's own and those that these files import, in order and each once; each file after the own one comes after one that imports it.
    pub record AreFollowed (own : Text) (count : ℕ) (files : List LoadedFile) (imports : List (List File)) : Type 0 where
      pub within : count ≤ length files
      pub named : AreImports (take count files) imports
      pub whole : loaded_keys files ≡ with_new (own ∷ []) (flat_map (λ row. row) imports)
      pub first : (file : LoadedFile) → slice_get files 0 ≡ Some file → file.depth ≡ 0
      pub led : (place : ℕ) (file : LoadedFile) → slice_get files (suc place) ≡ Some file → IsLed files imports (suc place) file
      pub each : (place : ℕ) (file : LoadedFile) → slice_get files place ≡ Some file → IsOfModule file

    -- the same, where their keys are reached and the places of what each imports are noted
    pub record AreNoted (own : Text) (count : ℕ) (files : List LoadedFile) (reached : Reached) : Type 0 where
      pub imports : List (List File)
      pub followed : AreFollowed own count files imports
      pub keys : AreReached (loaded_keys files) reached
      pub places : ArePlacesOfRows (loaded_keys files) imports (rows reached.imports.items)

    -- all files that a module's own leads to, in reading order
    pub record IsInReadingOrder (own : Text) (files : List LoadedFile) (places : List (List ℕ)) : Type 0 where
      pub imports : List (List File)
      pub followed : AreFollowed own (length files) files imports
      pub are : ArePlacesOfRows (loaded_keys files) imports places

    -- these are a module's files: they stand in reading order, and none imports itself through others
    pub record AreFilesOf (own : Text) (files : List LoadedFile) : Type 0 where
      pub places : List (List ℕ)
      pub order : IsInReadingOrder own files places
      pub no_cycle : (walk : List ℕ) → IsCycle places walk → ⊥

    -- what the file at a place imports is refused; the module's files begin at another, and those before the place are followed
    pub record IsRefusedBehind (own : Text) (first : ℕ) (refusal : Error) : Type 0 where
      pub count : ℕ
      pub files : List LoadedFile
      pub reached : Reached
      pub numbers : Numbers
      pub noted : AreNoted own count (drop first files) reached
      pub refused : IsTurnRefused sources expansion version owner (first + count) files reached numbers refusal

    -- all files are read, and a step of a cycle of imports is refused
    pub record IsCycleRefused (own : Text) (first : ℕ) (refusal : Error) : Type 0 where
      pub files : List LoadedFile
      pub places : List (List ℕ)
      pub order : IsInReadingOrder own (drop first files) places
      pub step : IsStepBack places files first refusal

    -- why the files of a module are refused
    pub data AreRefused (own : Text) (first : ℕ) (refusal : Error) : Type 0 where
      refused_import : IsRefusedBehind own first refusal → AreRefused own first refusal
      refused_cycle : IsCycleRefused own first refusal → AreRefused own first refusal

    -- why a module is refused that has this file: by its text, or by what that leads to
    pub data IsModuleRefused (source : File) (first : ℕ) (refusal : Error) : Type 0 where
      refused_text : (used : Numbers) → IsUnread expansion version owner 0 source used refusal → IsModuleRefused source first refusal
      refused_files : AreRefused source.0 first refusal → IsModuleRefused source first refusal
