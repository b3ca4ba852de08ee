-- What files of modules that are loaded say, and what the world says.
use Rattle.std.proofs.Common.{◌≡◌, ◌+◌, ◌-◌, ℕ, List, Some, Bool, true, refl, take, drop}
use Rattle.std.specs.Prelude.{slice_get}
use Rattle.std.specs.BTreeMap.{BTreeMap}
use Rattle.std.specs.declared.string.String.{String}
use Rattle.std.proofs.lemmas.Option.{slice_get_within}
use Rattle.just_text.specs.Numbers.{Numbers}
use Rattle.just_text.specs.declared.os.Os.{Os}
use Rattle.parse_expressions.specs.Literals.{Expansion}
use Rattle.semver.specs.declared.Version.{Version}
use Rattle.modules_compilation.specs.declared.module_node.File.{File}
use Rattle.modules_compilation.specs.declared.module_node.ModuleNode.{ModuleNode}
use Rattle.modules_sources.specs.Loaded.{AllLoaded, AreCovered}
use Rattle.modules_sources.specs.ReadingOrder.{IsOfModule}
use Rattle.meaning_rules.specs.Worlds.Given.{Text, World}
use Rattle.meaning_rules.specs.Worlds.Standing.{StandsFor}
use Rattle.laws_modules.specs.Files.Files.{AreSaidWhereReached}
use Rattle.meaning_rules.specs.Worlds.Views.{given_of}
use Rattle.laws_modules.proofs.Files.Followed.{stands_said}
use Rattle.laws_modules.proofs.Modules.Ranges.{from_range, in_range}

-- where all files say what the world says, so do those from one place to before another
pub range_said : (w : World) (first end : ℕ) (files : List File) → AreSaidWhereReached w files → AreSaidWhereReached w (drop first (take end files))
range_said w first end files said place file e r = said (first + place) file (from_range first end files place file e).0 r

module _ {Y Z : Type 0} (sources : BTreeMap (String Y) (String Z)) (expansion : Expansion) (version : Version) (os : Os) (start : Numbers) (files : List File) (modules : List ModuleNode)
    (all : AllLoaded sources expansion version os start true files modules) (covered : AreCovered files modules) where
  -- each file was read, for one of the modules
  pub each_read : (place : ℕ) (file : File) → slice_get files place ≡ Some file → (owner : ℕ) × IsOfModule sources expansion version owner file
  each_read place file e =
      let c = covered place (slice_get_within files place file e) in
      let at = in_range c.1.first_file c.1.end_file files place file c.3 c.4 e in
      (c.0, ((all c.0 c.1 c.2).own_files refl).order.followed.each (place - c.1.first_file) file at)

  -- where a world reaches them that the sources stand for, they say what it says
  pub loaded_said : (unstable : Bool) (root : Text) (w : World) → StandsFor (given_of sources os unstable expansion version root) w → AreSaidWhereReached w files
  loaded_said unstable root w s = stands_said sources os unstable expansion version root w s files each_read
