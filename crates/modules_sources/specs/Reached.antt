-- The files that a module has reached, by their keys.
use Rattle.std.specs.Prelude.{◌≡◌, ◌≤◌, ℕ, ◌+◌, cond, List, [], ◌∷◌, ◌++◌, length, map, slice_get, Some}
use Rattle.modules_compilation.specs.declared.error.Error.{Error}
use Rattle.modules_compilation.specs.declared.module_node.File.{File as LoadedFile}
use Rattle.modules_files.specs.Chosen.{File}
use Rattle.modules_files.specs.Found.{at_text}
use Rattle.resolve_order.specs.Needs.{IsCycle, rows}
use Rattle.modules_sources.specs.Items.{key_of}
use Rattle.modules_sources.specs.Queue.{is_among}
use Rattle.modules_sources.specs.Submodules.{IsCircular}
use Rattle.modules_sources.specs.declared.imports.Reached.{Reached}

-- a text: a name, a key or a path
abbrev Text : Type 0
Text = List ℕ

-- those of the files that have none of the earlier keys, each key once
abbrev pub new_files : List Text → List File → List File
new_files earlier [] = []
new_files earlier (file ∷ files) = cond (is_among earlier file.0) (new_files earlier files) (file ∷ new_files (earlier ++ file.0 ∷ []) files)

-- the keys, and the one behind them if it is new
abbrev pub with_key : List Text → Text → List Text
with_key keys key = cond (is_among keys key) keys (keys ++ key ∷ [])

-- the keys, and those of the files that are new behind them
abbrev pub with_new : List Text → List File → List Text
with_new keys [] = keys
with_new keys (file ∷ files) = with_new (with_key keys file.0) files

-- these are the keys of the files that were reached, in the order of their places
pub record AreReached (keys : List Text) (reached : Reached) : Type 0 where
  pub many : length reached.places.entries ≡ length keys
  pub placed : (place : ℕ) (key : Text) → slice_get keys place ≡ Some key → at_text reached.places key ≡ Some place
  pub listed : (key : Text) (place : ℕ) → at_text reached.places key ≡ Some place → slice_get keys place ≡ Some key

-- the places of files among the keys
abbrev pub ArePlaces : List Text → List File → List ℕ → Type 0
ArePlaces keys files row = map (slice_get keys) row ≡ map (λ file. Some file.0) files

-- The files that the next one imports are reached, and their places are its row; those that are new are told.
pub record IsFollowed (keys : List Text) (found : List File) (old new : Reached) (told : List File) : Type 0 where
  pub reached : AreReached (with_new keys found) new
  pub are_new : told ≡ new_files keys found
  pub row : List ℕ
  pub at : ArePlaces (with_new keys found) found row
  pub imports : rows new.imports.items ≡ rows old.imports.items ++ row ∷ []

-- A step of a cycle of imports leads to a file that was reached no later. The two files are told; the module's files begin at a place.
pub record IsStepBack (imports : List (List ℕ)) (files : List LoadedFile) (first : ℕ) (refusal : Error) : Type 0 where
  pub places : List ℕ
  pub cycle : IsCycle imports places
  pub at : ℕ
  pub importer : ℕ
  pub imported : ℕ
  pub from : slice_get places at ≡ Some importer
  pub to : slice_get places (at + 1) ≡ Some imported
  pub back : imported ≤ importer
  pub circular : IsCircular refusal (key_of (slice_get files (first + importer))) (key_of (slice_get files (first + imported)))
