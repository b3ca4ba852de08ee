-- Which file an import and a submodule take.
use Rattle.std.specs.Prelude.{◌≡◌, ℕ, Bool, true, false, List, [], ◌∷◌, Option, Some, None, Result, Ok, Err}
use Rattle.std.specs.BTreeMap.{BTreeMap}
use Rattle.std.specs.Borrow.{Bor}
use Rattle.std.specs.Global.{Vec}
use Rattle.std.specs.List.{list_any}
use Rattle.std.specs.List.Sorted.{IsStrictlySortedBy}
use Rattle.std.specs.Option.{option_map}
use Rattle.std.specs.Str.{bytes_eq}
use Rattle.std.specs.declared.string.String.{String}
use Rattle.just_text.specs.declared.name.Name.{Name}
use Rattle.modules_compilation.specs.Paths.{key_from}
use Rattle.modules_compilation.specs.Tables.{text_cmp}
use Rattle.modules_compilation.specs.declared.error.Error.{Error}
use Rattle.modules_compilation.specs.declared.error.Error.TheVariants.{OutOfMemory, MissingImport, MissingModule, AmbiguousModule}
use Rattle.modules_compilation.specs.declared.source.Source.{Source}
use Rattle.modules_files.specs.Found.{file_at, may_mean}

-- a text: a name, a key or a path
abbrev Text : Type 0
Text = List ℕ

-- a file's key and text
abbrev pub File : Type 0
File = Text × Text

abbrev pub view : Source → File
view source = (source.key.now, source.text.now)

-- a result is the answer, unless memory runs out
abbrev pub Gives : Result (Option Source) Error → Result (Option File) Error → Type 0
Gives (Ok found) answer = Ok (option_map view found) ≡ answer
Gives (Err OutOfMemory) answer = Unit {0}
Gives (Err refusal) answer = Err refusal ≡ answer

-- what a refusal says of an import: the key that it names, or its path where it names none
abbrev pub named_by : Option Text → Text → Text
named_by None path = path
named_by (Some key) path = key

-- the file that an import names; where there is none it may be missing, or is refused
abbrev pub import_answer : Option File → Bool → Text → Result (Option File) Error
import_answer (Some file) optional named = Ok (Some file)
import_answer None true named = Ok None
import_answer None false named = Err (MissingImport named)

-- a submodule that means no file may be missing, or is refused
abbrev pub none_answer : Name → Bool → Result (Option File) Error
none_answer name true = Ok None
none_answer name false = Err (MissingModule name)

module _ {Y Z : Type 0} (sources : BTreeMap (String Y) (String Z)) where
  -- what an import of a file gives
  abbrev pub imported : Text → Text → Bool → Result (Option File) Error
  imported file path optional = import_answer (file_at sources (key_from file path)) optional (named_by (key_from file path) path)

  -- where a submodule may mean these files: the only one; several are refused with their keys
  abbrev pub module_answer : Name → Bool → List Text → Result (Option File) Error
  module_answer name optional [] = none_answer name optional
  module_answer name optional (key ∷ []) = Ok (file_at sources (Some key))
  module_answer name optional (key ∷ other ∷ keys) = Err (AmbiguousModule name (key ∷ other ∷ keys))

  -- the keys that a submodule of a file may mean, each once and in byte order
  pub record AreMeant (folders : BTreeMap (Bor Text) (Vec (Bor Text))) (file name : Text) (path : Option Text) (keys : List Text) : Type 0 where
    pub sorted : IsStrictlySortedBy text_cmp keys
    pub each : (key : Text) → list_any (bytes_eq key) keys ≡ may_mean sources folders file name path key

  -- the file of a submodule is chosen among those that it may mean
  pub record IsChosen (folders : BTreeMap (Bor Text) (Vec (Bor Text))) (file text : Text) (path : Option Text) (name : Name) (optional : Bool) (result : Result (Option Source) Error) : Type 0 where
    pub keys : List Text
    pub are : AreMeant folders file text path keys
    pub gives : Gives result (module_answer name optional keys)

-- this holds, unless memory ran out
abbrev pub UnlessMemory : Result (Option Source) Error → Type 0 → Type 0
UnlessMemory (Ok found) holds = holds
UnlessMemory (Err OutOfMemory) holds = Unit {0}
UnlessMemory (Err refusal) holds = holds
