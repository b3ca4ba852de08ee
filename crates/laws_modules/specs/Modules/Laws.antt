-- Laws of modules that are loaded.
use Rattle.std.specs.Prelude.{◌≡◌, Bool, true}
use Rattle.std.specs.BTreeMap.{BTreeMap}
use Rattle.std.specs.declared.string.String.{String}
use Rattle.just_text.specs.Numbers.{Numbers}
use Rattle.just_text.specs.declared.os.Os.{Os}
use Rattle.parse_expressions.specs.Literals.{Expansion}
use Rattle.justfile_syntax.specs.Laws.{FaultsSayNothing, SaysAtMostOne}
use Rattle.semver.specs.declared.Version.{Version}
use Rattle.modules_compilation.specs.declared.compilation.Compilation.{Compilation}
use Rattle.modules_sources.specs.Loaded.{AreLoaded}
use Rattle.meaning_rules.specs.Worlds.Given.{Text, World}
use Rattle.meaning_rules.specs.Worlds.Sources.{AreSaid}
use Rattle.meaning_rules.specs.Worlds.Standing.{StandsFor}
use Rattle.laws_modules.specs.Files.Files.{AreSaidWhereReached}
use Rattle.meaning_rules.specs.Worlds.Views.{given_of, HasSources}
use Rattle.laws_modules.specs.Modules.Modules.{AreModules}

module _ {Y Z : Type 0} (sources : BTreeMap (String Y) (String Z)) where
  -- a justfile is loaded, of which the root was read as well; where the world reaches its files, they say what the world says
  pub record IsLoaded (w : World) (compilation : Compilation) : Type 0 where
    pub os : Os
    pub expansion : Expansion
    pub version : Version
    pub root : Text
    pub start : Numbers
    pub has : HasSources sources expansion w
    pub same_os : w.os ≡ os
    pub same_root : w.root ≡ root
    pub said : AreSaidWhereReached w compilation.files.items
    pub are : AreLoaded sources expansion version os start true root compilation

  -- the modules that are loaded are those of the world
  abbrev pub LoadedAreModules : Type 0
  LoadedAreModules = (w : World) (compilation : Compilation) → IsLoaded w compilation → AreModules w compilation.files.items compilation.modules.items

  -- and each file that is reached says something
  abbrev pub LoadedAreSaid : Type 0
  LoadedAreSaid = (w : World) (compilation : Compilation) → IsLoaded w compilation → AreSaid w

  -- for what is loaded there is a world that its sources stand for (by laws of the syntax: a text says the items of one file at most, and one that is refused none)
  abbrev pub WorldIsThere : Type 0
  WorldIsThere = SaysAtMostOne → FaultsSayNothing → (os : Os) (unstable : Bool) (expansion : Expansion) (version : Version) (root : Text) (start : Numbers) (compilation : Compilation)
      → AreLoaded sources expansion version os start true root compilation → (w : World) × StandsFor (given_of sources os unstable expansion version root) w
