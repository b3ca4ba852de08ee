-- Laws of files that are loaded for a module, and of refusals of a module's files.
use Rattle.std.specs.Prelude.{◌≡◌, ℕ, Bool, true, false, List, Some}
use Rattle.std.specs.BTreeMap.{BTreeMap}
use Rattle.std.specs.declared.string.String.{String}
use Rattle.just_text.specs.declared.compile_error.CompileErrorKind.{CompileErrorKind}
use Rattle.just_text.specs.declared.os.Os.{Os}
use Rattle.parse_expressions.specs.Literals.{Expansion}
use Rattle.justfile_syntax.specs.Laws.{FaultsSayNothing}
use Rattle.semver.specs.declared.Version.{Version}
use Rattle.modules_compilation.specs.declared.error.Error.{Error}
use Rattle.modules_compilation.specs.declared.module_node.File.{File}
use Rattle.modules_files.specs.Found.{file_at}
use Rattle.modules_sources.specs.ReadingOrder.{AreFilesOf, IsModuleRefused}
use Rattle.meaning_rules.specs.Worlds.Given.{Overrides, Text, World}
use Rattle.meaning_rules.specs.Worlds.Sources.{ImportsAt, IsFileOf, Reached}
use Rattle.meaning_rules.specs.Worlds.Standing.{StandsFor}
use Rattle.meaning_rules.specs.Rules.{Broken, LeadsNowhere}
use Rattle.meaning_rules.specs.Told.{IsTold}
use Rattle.laws_modules.specs.Files.Files.{AreFiles, AreSaidWhereReached}
use Rattle.meaning_rules.specs.Worlds.Views.{given_of, HasSources}

module _ {Y Z : Type 0} (sources : BTreeMap (String Y) (String Z)) where
  -- these are the files of a module whose own file the world reaches; where it reaches them, they say what the world says
  pub record AreLoadedFiles (expansion : Expansion) (version : Version) (w : World) (owner : ℕ) (own : Text) (files : List File) : Type 0 where
    pub has : HasSources sources expansion w
    pub said : AreSaidWhereReached w files
    pub own_reached : Reached w own
    pub are : AreFilesOf sources expansion version owner own files

  -- files that are loaded for a module are its files in the world
  abbrev pub LoadedAreFiles : Type 0
  LoadedAreFiles = (expansion : Expansion) (version : Version) (w : World) (owner : ℕ) (own : Text) (files : List File) → AreLoadedFiles expansion version w owner own files → AreFiles w owner own files

  -- what they import is there, unless it may be missing
  abbrev pub LoadedImportThere : Type 0
  LoadedImportThere = (expansion : Expansion) (version : Version) (w : World) (owner : ℕ) (own : Text) (files : List File) → AreLoadedFiles expansion version w owner own files
      → (file : Text) (place : ℕ) (path told : Text) → IsFileOf w own file → ImportsAt w file place false path → LeadsNowhere w file path told → ⊥

  -- none of them is refused, in a world that the sources stand for
  abbrev pub LoadedAreFaultless : Type 0
  LoadedAreFaultless = FaultsSayNothing → (os : Os) (unstable : Bool) (expansion : Expansion) (version : Version) (root : Text) (w : World) → StandsFor (given_of sources os unstable expansion version root) w
      → (owner : ℕ) (own : Text) (files : List File) → AreLoadedFiles expansion version w owner own files
      → (file : Text) (kind : CompileErrorKind) → IsFileOf w own file → w.refused file kind ≡ true → ⊥

  -- where the files of a module are refused, a rule is broken that the refusal names
  abbrev pub RefusedAreTold : Type 0
  RefusedAreTold = (os : Os) (unstable : Bool) (expansion : Expansion) (version : Version) (root : Text) (w : World) → StandsFor (given_of sources os unstable expansion version root) w
      → (owner first : ℕ) (source : Text × Text) (refusal : Error) → Reached w source.0 → file_at sources (Some source.0) ≡ Some source → IsModuleRefused sources expansion version owner source first refusal
      → (o : Overrides) → IsTold (Broken w o) refusal
