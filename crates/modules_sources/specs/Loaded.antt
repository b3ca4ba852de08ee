-- Modules as they are loaded, and those that wait.
use Rattle.std.specs.Prelude.{◌≡◌, ◌<◌, ◌≤◌, ℕ, suc, Bool, true, List, [], take, drop, length, map, Option, Some, slice_get, ◌⊎◌, ◌-◌, false, None}
use Rattle.std.specs.BTreeMap.{BTreeMap}
use Rattle.std.specs.Option.{option_and_then}
use Rattle.std.specs.declared.string.String.{String}
use Rattle.just_text.specs.Numbers.{Numbers}
use Rattle.just_text.specs.declared.name.Name.{Name}
use Rattle.just_text.specs.declared.os.Os.{Os}
use Rattle.tree_items.specs.Files.{item_shapes}
use Rattle.parse_expressions.specs.Literals.{Expansion, from_file}
use Rattle.justfile_syntax.specs.Numbered.{AreInOrder}
use Rattle.justfile_syntax.specs.Parsed.{IsWhole}
use Rattle.justfile_syntax.specs.Reads.{Reads}
use Rattle.semver.specs.declared.Version.{Version}
use Rattle.modules_compilation.specs.Paths.{is_clean}
use Rattle.modules_compilation.specs.Places.{items_in}
use Rattle.modules_compilation.specs.declared.compilation.Compilation.{Compilation}
use Rattle.modules_compilation.specs.declared.error.Error.{Error}
use Rattle.modules_compilation.specs.declared.error.Error.TheVariants.{MissingRoot}
use Rattle.modules_compilation.specs.declared.module_node.File.{File as LoadedFile}
use Rattle.modules_compilation.specs.declared.module_node.ModuleNode.{ModuleNode}
use Rattle.modules_compilation.specs.declared.place.Place.{Place}
use Rattle.modules_files.specs.Chosen.{File}
use Rattle.modules_files.specs.Found.{AreGrouped, file_at, source_keys, source_of}
use Rattle.modules_files.specs.declared.search.Files.{Files}
use Rattle.modules_sources.specs.Items.{ModuleParts, key_of, module_of}
use Rattle.modules_sources.specs.Above.{AreAbove, AreAboveNext, AreQueued, HaveOwnFiles}
use Rattle.modules_sources.specs.Nodes.{KeepsNothing}
use Rattle.modules_sources.specs.Loading.{IsUnread}
use Rattle.modules_sources.specs.ReadingOrder.{AreFilesOf, AreNumbered, IsModuleRefused, IsOwnAlone}
use Rattle.modules_sources.specs.Submodules.{Above, AreFound, AreWaiting, Found, IsRefusedAmong, Waiting, waiting, waiting_view}
use Rattle.modules_sources.specs.declared.load.Parsed.{Parsed}
use Rattle.modules_sources.specs.declared.queue.Pending.{Pending}
use Rattle.modules_sources.specs.declared.queue.Queue.{Queue}

-- the refusal tells that this root is missing
abbrev pub IsMissingRoot : Error → List ℕ → Type 0
IsMissingRoot (MissingRoot root) own = root.now ≡ own
IsMissingRoot other own = ⊥

-- the submodule at a place of some files, if the operating system enables one there
abbrev pub submodule_at : Os → List LoadedFile → Place → Option ModuleParts
submodule_at os files place = option_and_then (module_of os) (slice_get (items_in files place.file) place.item)

-- a module's name is that of its item, where it has one
abbrev pub IsNameOf : Os → List LoadedFile → Option Place → Option Name → Type 0
IsNameOf os files item name = (place : Place) → item ≡ Some place → (line : ModuleParts) × (submodule_at os files place ≡ Some line) × (name ≡ Some line.0)

-- the files of a module
abbrev pub files_of : List LoadedFile → ModuleNode → List LoadedFile
files_of files node = drop node.first_file (take node.end_file files)

-- the numbers after those of the constants
abbrev pub first_numbers : Numbers
first_numbers = record { constants = 29; bindings = 29; recipes = 0 }

-- the first module is that of the root, which has this key
pub record HasRoot (own : List ℕ) (modules : List ModuleNode) : Type 0 where
  pub node : ModuleNode
  pub first : slice_get modules 0 ≡ Some node
  pub source : node.source.now ≡ own
  pub parent : node.parent ≡ None
  pub item : node.item ≡ None
  pub name : node.name ≡ None

-- a module is loaded for what waited
pub record IsLoadedFor (waiting : Waiting) (node : ModuleNode) : Type 0 where
  pub source : node.source.now ≡ waiting.file.0
  pub parent : node.parent ≡ waiting.parent
  pub item : node.item ≡ waiting.item
  pub name : node.name ≡ waiting.name

-- what waits is one of these, or a module is loaded for it
abbrev pub IsKnown : List ModuleNode → List Waiting → Waiting → Type 0
IsKnown modules waits waiting = ((i : ℕ) × (slice_get waits i ≡ Some waiting)) ⊎ ((place : ℕ) × (node : ModuleNode) × (slice_get modules place ≡ Some node) × IsLoadedFor waiting node)

-- the submodules of the module at a place are those whose parent it is, each once
pub record AreInner (modules : List ModuleNode) (place : ℕ) (node : ModuleNode) : Type 0 where
  pub listed : (inner : ℕ) (submodule : ModuleNode) → slice_get modules inner ≡ Some submodule → submodule.parent ≡ Some place → (i : ℕ) × (slice_get node.submodules.items i ≡ Some inner)
  pub only : (i inner : ℕ) → slice_get node.submodules.items i ≡ Some inner → (submodule : ModuleNode) × (slice_get modules inner ≡ Some submodule) × (submodule.parent ≡ Some place)
  pub once : (i j inner : ℕ) → slice_get node.submodules.items i ≡ Some inner → slice_get node.submodules.items j ≡ Some inner → i ≡ j

module _ (lookup : Files) (os : Os) (files : List LoadedFile) (modules : List ModuleNode) (waits : List Waiting) where
  -- each submodule that the files of the module at a place have waits or is loaded
  pub record IsFollowedUp (place : ℕ) (node : ModuleNode) : Type 0 where
    pub above : Above
    pub found : List Waiting
    pub are : AreWaiting lookup os files above place node.first_file (node.end_file - node.first_file) found
    pub all_above : AreAbove modules place above
    pub known : (i : ℕ) (waiting : Waiting) → slice_get found i ≡ Some waiting → IsKnown modules waits waiting
    pub inner : AreInner modules place node

  abbrev pub AllFollowedUp : Type 0
  AllFollowedUp = (place : ℕ) (node : ModuleNode) → slice_get modules place ≡ Some node → IsFollowedUp place node

module _ (lookup : Files) (os : Os) (files : List LoadedFile) (modules : List ModuleNode) where
  -- what waits is a submodule that a file of a module has
  pub record IsSubmodule (w : Waiting) : Type 0 where
    pub place : ℕ
    pub node : ModuleNode
    pub there : slice_get modules place ≡ Some node
    pub file : ℕ
    pub from : node.first_file ≤ file
    pub to : file < node.end_file
    pub found : List Found
    pub are : AreFound lookup os (key_of (slice_get files file)) (items_in files file) found
    pub i : ℕ
    pub one : Found
    pub found_at : slice_get found i ≡ Some one
    pub is : w ≡ waiting file place one

  -- so do all of these
  abbrev pub AreSubmodules : List Waiting → Type 0
  AreSubmodules waits = (i : ℕ) (w : Waiting) → slice_get waits i ≡ Some w → IsSubmodule w

  -- a module is loaded for a submodule that a file of a module has
  pub record IsLoadedBelow (node : ModuleNode) : Type 0 where
    pub submodule : Waiting
    pub is : IsSubmodule submodule
    pub loaded : IsLoadedFor submodule node

  -- so is each module behind the first
  abbrev pub AllLoadedBelow : Type 0
  AllLoadedBelow = (place : ℕ) (node : ModuleNode) → slice_get modules (suc place) ≡ Some node → IsLoadedBelow node

-- the files of an earlier module end before those of a later one begin
abbrev pub AreApart : List ModuleNode → Type 0
AreApart modules = (k l : ℕ) (node later : ModuleNode) → k < l → slice_get modules k ≡ Some node → slice_get modules l ≡ Some later → node.end_file ≤ later.first_file

-- each file is one of a module
abbrev pub AreCovered : List LoadedFile → List ModuleNode → Type 0
AreCovered files modules = (n : ℕ) → n < length files → (k : ℕ) × (node : ModuleNode) × (slice_get modules k ≡ Some node) × (node.first_file ≤ n) × (n < node.end_file)

-- one module at most is loaded for an item
abbrev pub AreOnce : List ModuleNode → Type 0
AreOnce modules = (k l : ℕ) (node other : ModuleNode) (place : Place) → slice_get modules k ≡ Some node → slice_get modules l ≡ Some other → node.item ≡ Some place → other.item ≡ Some place → k ≡ l

-- none that waits has the item of another, or of a module
pub record AreUnloaded (modules : List ModuleNode) (waits : List Waiting) : Type 0 where
  pub each : (i j : ℕ) (w other : Waiting) → slice_get waits i ≡ Some w → slice_get waits j ≡ Some other → w.item ≡ other.item → i ≡ j
  pub unloaded : (i k : ℕ) (w : Waiting) (node : ModuleNode) → slice_get waits i ≡ Some w → slice_get modules k ≡ Some node → w.item ≡ node.item → ⊥

-- Each module behind the first is loaded for a submodule, once; each file is one of one module, and none is that of a module above; what waits is a submodule for which none is loaded.
pub record AreLinked (lookup : Files) (os : Os) (files : List LoadedFile) (modules : List ModuleNode) (waits : List Waiting) : Type 0 where
  pub below : AllLoadedBelow lookup os files modules
  pub once : AreOnce modules
  pub apart : AreApart modules
  pub covered : AreCovered files modules
  pub own_files : HaveOwnFiles modules
  pub submodules : AreSubmodules lookup os files modules waits
  pub unloaded : AreUnloaded modules waits

module _ {Y Z : Type 0} (sources : BTreeMap (String Y) (String Z)) where
  -- files are looked up in these sources
  pub record IsLookupOf (lookup : Files) : Type 0 where
    pub same : (key : List ℕ) → source_of lookup.sources.now key ≡ source_of sources key
    pub grouped : AreGrouped (source_keys sources) lookup.folders.now.justfiles

  -- this is the text at its key
  abbrev pub IsSource : File → Type 0
  IsSource file = file_at sources (Some file.0) ≡ Some file

  module _ (os : Os) (files : List LoadedFile) where
    -- what waits is a file with its text, for a submodule of one of so many modules
    pub record IsAwaited (count : ℕ) (waiting : Waiting) : Type 0 where
      pub source : IsSource waiting.file
      pub named : IsNameOf os files waiting.item waiting.name
      pub parent : (place : ℕ) → waiting.parent ≡ Some place → place < count

    -- so do all of these
    abbrev pub AreAwaited : ℕ → List Waiting → Type 0
    AreAwaited count waits = (i : ℕ) (waiting : Waiting) → slice_get waits i ≡ Some waiting → IsAwaited count waiting

  -- the root's key is no clean path, or none of the sources
  pub record IsRootMissing (own : List ℕ) (refusal : Error) : Type 0 where
    pub missing : (is_clean own ≡ false) ⊎ (file_at sources (Some own) ≡ None)
    pub told : IsMissingRoot refusal own

  module _ (expansion : Expansion) (version : Version) where
    -- the root's text was read, and has the next numbers
    pub record IsRootRead (start : Numbers) (own : List ℕ) (parsed : Parsed) : Type 0 where
      pub text : List ℕ
      pub there : source_of sources own ≡ Some text
      pub says : Reads expansion version text (item_shapes parsed.ast.items.items)
      pub whole : IsWhole (from_file own expansion) parsed.ast
      pub numbered : AreInOrder start parsed.numerator parsed.ast.items.items

    -- why a module is refused that has this file and parent, once some modules are loaded: by its files, which begin at a place, or by one of their submodules
    pub data IsLoadRefused (lookup : Files) (os : Os) (modules : List ModuleNode) (parent : Option ℕ) (first : ℕ) (source : File) (refusal : Error) : Type 0 where
      files_refused : IsModuleRefused sources expansion version (length modules) source first refusal → IsLoadRefused lookup os modules parent first source refusal
      submodule_refused : (files : List LoadedFile) (above : Above) → AreFilesOf sources expansion version (length modules) source.0 (drop first files) → AreAboveNext modules parent source.0 above
          → IsRefusedAmong lookup os files above (length modules) first (length files - first) refusal → IsLoadRefused lookup os modules parent first source refusal

    -- Modules that are loaded, in a justfile whose root may be known to be read: numbers begin after these then.
    module _ (os : Os) (start : Numbers) (is_read : Bool) where
      -- the root's file alone is there, and its key is clean
      pub record IsBegun (own : List ℕ) (compilation : Compilation) (numbers : Numbers) : Type 0 where
        pub clean : is_clean own ≡ true
        pub none : compilation.modules.items ≡ []
        pub alone : is_read ≡ true → IsOwnAlone sources expansion version 0 own compilation.files.items
        pub numbered : is_read ≡ true → AreNumbered start compilation.files.items numbers

      -- the module at a place keeps nothing yet and stands after its parent; its files are all that its own file leads to
      pub record IsLoaded (files : List LoadedFile) (place : ℕ) (node : ModuleNode) : Type 0 where
        pub empty : KeepsNothing node
        pub named : IsNameOf os files node.item node.name
        pub parent : (above : ℕ) → node.parent ≡ Some above → above < place
        pub within : node.end_file ≤ length files
        pub own_files : is_read ≡ true → AreFilesOf sources expansion version place node.source.now (files_of files node)

      abbrev pub AllLoaded : List LoadedFile → List ModuleNode → Type 0
      AllLoaded files modules = (place : ℕ) (node : ModuleNode) → slice_get modules place ≡ Some node → IsLoaded files place node

      -- the root's module and some others are loaded, and others wait
      pub record AreLoadedSoFar (lookup : Files) (own : List ℕ) (compilation : Compilation) (numbers : Numbers) (pending : List Pending) (queue : Queue) : Type 0 where
        pub root : HasRoot own compilation.modules.items
        pub numbered : is_read ≡ true → AreNumbered start compilation.files.items numbers
        pub modules : AllLoaded compilation.files.items compilation.modules.items
        pub linked : AreLinked lookup os compilation.files.items compilation.modules.items (map waiting_view pending)
        pub waiting : AreAwaited os compilation.files.items (length compilation.modules.items) (map waiting_view pending)
        pub queued : AreQueued compilation.modules.items queue (map waiting_view pending)
        pub followed : AllFollowedUp lookup os compilation.files.items compilation.modules.items (map waiting_view pending)

      -- some modules are loaded, and one that waits is refused
      pub record IsNextRefused (lookup : Files) (own : List ℕ) (refusal : Error) : Type 0 where
        pub compilation : Compilation
        pub numbers : Numbers
        pub queue : Queue
        pub loaded : AreLoadedSoFar lookup own compilation numbers queue.pending.items queue
        pub next : Waiting
        pub awaited : IsAwaited os compilation.files.items (length compilation.modules.items) next
        pub submodule : IsSubmodule lookup os compilation.files.items compilation.modules.items next
        pub refused : IsLoadRefused lookup os compilation.modules.items next.parent (length compilation.files.items) next.file refusal

      -- the module of a root that was read is refused, or one below it
      pub data IsBelowRefused (own : List ℕ) (refusal : Error) : Type 0 where
        refused_root : (lookup : Files) → IsLookupOf lookup → (is_read ≡ true → (text : List ℕ) × IsSource (own, text) × IsLoadRefused lookup os [] None 0 (own, text) refusal) → IsBelowRefused own refusal
        refused_below : (lookup : Files) → IsLookupOf lookup → IsNextRefused lookup own refusal → IsBelowRefused own refusal

      -- the root's module and all below it are loaded
      pub record AreLoaded (own : List ℕ) (compilation : Compilation) : Type 0 where
        pub clean : is_clean own ≡ true
        pub root : HasRoot own compilation.modules.items
        pub numbers : Numbers
        pub numbered : is_read ≡ true → AreNumbered start compilation.files.items numbers
        pub modules : AllLoaded compilation.files.items compilation.modules.items
        pub lookup : Files
        pub looks_up : IsLookupOf lookup
        pub linked : AreLinked lookup os compilation.files.items compilation.modules.items []
        pub followed : AllFollowedUp lookup os compilation.files.items compilation.modules.items []

    -- why a justfile is refused as it is loaded: its root is missing or says nothing, or else a module is refused
    pub data IsRefused (os : Os) (start : Numbers) (is_read : Bool) (own : List ℕ) (refusal : Error) : Type 0 where
      root_missing : IsRootMissing own refusal → IsRefused os start is_read own refusal
      root_unread : (source : File) → source.0 ≡ own → IsSource source → (used : Numbers) → IsUnread expansion version 0 0 source used refusal → IsRefused os start is_read own refusal
      below_refused : IsBelowRefused os start is_read own refusal → IsRefused os start is_read own refusal
