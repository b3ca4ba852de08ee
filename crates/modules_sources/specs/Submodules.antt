-- The submodules that items are, and the files that they take.
use Rattle.std.specs.Prelude.{◌≡◌, ◌⊎◌, ◌<◌, ℕ, ◌+◌, true, false, List, [], ◌∷◌, ◌++◌, length, map, slice_get, take, Option, Some, None, Result, Ok, Err}
use Rattle.std.specs.BTreeSet.{BTreeSet}
use Rattle.std.specs.Borrow.{Bor}
use Rattle.std.specs.List.{list_any}
use Rattle.just_text.specs.Tokens.{lexeme}
use Rattle.just_text.specs.declared.name.Name.{Name}
use Rattle.just_text.specs.declared.os.Os.{Os}
use Rattle.tree_items.specs.declared.ast.Item.{Item}
use Rattle.modules_compilation.specs.Places.{items_in}
use Rattle.modules_compilation.specs.declared.error.Error.{Error}
use Rattle.modules_compilation.specs.declared.error.Error.TheVariants.{CircularImport}
use Rattle.modules_compilation.specs.declared.module_node.File.{File as LoadedFile}
use Rattle.modules_compilation.specs.declared.place.Place.{Place}
use Rattle.modules_files.specs.Chosen.{AreMeant, File, module_answer, view}
use Rattle.modules_files.specs.Found.{has_text}
use Rattle.modules_files.specs.declared.search.Files.{Files}
use Rattle.modules_sources.specs.Items.{ModuleParts, key_of, module_of}
use Rattle.modules_sources.specs.declared.queue.Pending.{Pending}
use Rattle.modules_sources.specs.declared.submodules.Submodule.{Submodule}

-- a text: a name, a key or a path
abbrev Text : Type 0
Text = List ℕ

-- a submodule of a file: its own file, the place of its item and its name
pub record Found : Type 0 where
  pub file : File
  pub item : ℕ
  pub name : Name

abbrev pub found_view : Submodule → Found
found_view submodule = record { file = view submodule.source; item = submodule.item; name = submodule.name }

-- a module that is still to load: its file, its parent, and its item and name there
pub record Waiting : Type 0 where
  pub file : File
  pub parent : Option ℕ
  pub item : Option Place
  pub name : Option Name

abbrev pub waiting_view : Pending → Waiting
waiting_view pending = record { file = view pending.source; parent = pending.parent; item = pending.item; name = pending.name }

-- the submodule of the file at a place, of the module at a place, waits
abbrev pub waiting : ℕ → ℕ → Found → Waiting
waiting file parent found = record { file = found.file; parent = Some parent; item = Some (record { file = file; item = found.item }); name = Some found.name }

-- what an item at a place gives, where it is a submodule that has a file
abbrev pub found_at : ℕ → Option ModuleParts → Option File → List Found
found_at place (Some line) (Some file) = record { file = file; item = place; name = line.0 } ∷ []
found_at place line _ = []

module _ (files : Files) (os : Os) (key : Text) where
  -- A submodule of the file with this key gives a file, none or a refusal: by the keys that it may mean.
  pub record IsAnswer (line : ModuleParts) (answer : Result (Option File) Error) : Type 0 where
    pub keys : List Text
    pub are : AreMeant files.sources.now files.folders.now.justfiles key (lexeme line.0.token) line.1 keys
    pub is : answer ≡ module_answer files.sources.now line.0 line.2 keys

  -- what an item gives: nothing where it is no submodule that is enabled
  abbrev pub Gives : Option ModuleParts → Result (Option File) Error → Type 0
  Gives None answer = answer ≡ Ok None
  Gives (Some line) answer = IsAnswer line answer

  -- the submodules that items give, in their order, where none is refused
  pub data AreFound : List Item → List Found → Type 0 where
    found_none : AreFound [] []
    found_more : {items : List Item} {found : List Found} (item : Item) (file : Option File) → AreFound items found → Gives (module_of os item) (Ok file)
        → AreFound (items ++ item ∷ []) (found ++ found_at (length items) (module_of os item) file)

  -- an item is refused, and none before it
  pub record IsRefused (items : List Item) (refusal : Error) : Type 0 where
    pub place : ℕ
    pub item : Item
    pub there : slice_get items place ≡ Some item
    pub earlier : List Found
    pub found : AreFound (take place items) earlier
    pub refused : Gives (module_of os item) (Err refusal)

-- a refusal of a circle tells these two files
abbrev pub IsCircular : Error → Text → Text → Type 0
IsCircular (CircularImport current other) importer imported = (current.now ≡ importer) × (other.now ≡ imported)
IsCircular other importer imported = ⊥

-- the files of the modules above
abbrev pub Above : Type 0
Above = BTreeSet (Bor Text)

-- none of these has the file of a module above
abbrev pub NoneAbove : Above → List Found → Type 0
NoneAbove above found = list_any (λ submodule. has_text above submodule.file.0) found ≡ false

-- one of these has the file of a module above, and none before it; that and the current file are told
pub record IsBack (above : Above) (current : Text) (found : List Found) (refusal : Error) : Type 0 where
  pub earlier : List Found
  pub submodule : Found
  pub later : List Found
  pub whole : found ≡ earlier ++ submodule ∷ later
  pub below : NoneAbove above earlier
  pub has : has_text above submodule.file.0 ≡ true
  pub told : IsCircular refusal current submodule.file.0

module _ (files : Files) (os : Os) (all : List LoadedFile) (above : Above) where
  -- the submodules of the file at a place, none of which has the file of a module above
  pub record AreBelow (place : ℕ) (found : List Found) : Type 0 where
    pub found_all : AreFound files os (key_of (slice_get all place)) (items_in all place) found
    pub below : NoneAbove above found

  -- a file's submodules are refused: one of them alone, or the first that has the file of a module above
  pub record IsRound (place : ℕ) (refusal : Error) : Type 0 where
    pub found : List Found
    pub found_all : AreFound files os (key_of (slice_get all place)) (items_in all place) found
    pub back : IsBack above (key_of (slice_get all place)) found refusal

  abbrev pub IsRefusedAt : ℕ → Error → Type 0
  IsRefusedAt place refusal = IsRefused files os (key_of (slice_get all place)) (items_in all place) refusal ⊎ IsRound place refusal

  module _ (parent first : ℕ) where
    -- the submodules of so many files from the first on, in their order
    pub data AreWaiting : ℕ → List Waiting → Type 0 where
      waiting_none : AreWaiting 0 []
      waiting_more : {count : ℕ} {earlier : List Waiting} {found : List Found} → AreWaiting count earlier → AreBelow (first + count) found → AreWaiting (count + 1) (earlier ++ map (waiting (first + count) parent) found)

    -- the submodules of one of so many files are refused, and none before it
    pub record IsRefusedAmong (many : ℕ) (refusal : Error) : Type 0 where
      pub count : ℕ
      pub within : count < many
      pub earlier : List Waiting
      pub are : AreWaiting count earlier
      pub refused : IsRefusedAt (first + count) refusal
