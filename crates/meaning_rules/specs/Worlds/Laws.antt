-- What shows that the definitions carry: laws on worlds, modules and compilations.
use Rattle.std.specs.Prelude.{◌≡◌, ℕ, false, List, Some, None, is_some, slice_get}
use Rattle.std.specs.Map.{lookup}
use Rattle.std.specs.Option.{option_map}
use Rattle.std.specs.Str.{bytes_eq}
use Rattle.tree_attributes.specs.Attributes.{AttributeShape}
use Rattle.tree_attributes.specs.Settings.{SetShape}
use Rattle.tree_items.specs.Files.{ItemShape, set_item}
use Rattle.justfile_syntax.specs.Reads.{Reads}
use Rattle.justfile_syntax.specs.Laws.{FaultsSayNothing, SaysAtMostOne}
use Rattle.meaning_rules.specs.Worlds.Given.{Text, Given, World, filled}
use Rattle.meaning_rules.specs.Worlds.Standing.{StandsFor}
use Rattle.meaning_rules.specs.Worlds.Sources.{Has, IsFileOf, Reached}
use Rattle.meaning_rules.specs.Worlds.Modules.{IsModule}
use Rattle.meaning_rules.specs.Worlds.Keeping.{IsSet, a_setting, defined_by}
use Rattle.meaning_rules.specs.Worlds.Compiled.{FileView, NodeView, IsCompiled}

-- the files of a module are reached
abbrev pub ModulesAreReached : Type 0
ModulesAreReached = (w : World) (path : List Text) (own file : Text) → IsModule w path own → IsFileOf w own file → Reached w file

-- a setting counts whatever other files say
abbrev pub SettingsStandAlone : Type 0
SettingsStandAlone = (w : World) (own file : Text) (place : ℕ) (attributes : List AttributeShape) (s : SetShape) → IsFileOf w own file → Has w file place (set_item attributes s)
    → defined_by w.os (set_item attributes s) ≡ Some (a_setting, s.name) → IsSet w own s.name s.value

-- the first node of a compilation is the root
abbrev pub CompilationsHaveRoot : Type 0
CompilationsHaveRoot = (w : World) (files : List FileView) (nodes : List NodeView) → IsCompiled w files nodes → (node : NodeView) × (slice_get nodes 0 ≡ Some node) × (node.parent ≡ None) × (node.source ≡ w.root)

-- ---- worlds are there

-- a file by its key, with what its text says
abbrev pub Row : Type 0
Row = Text × List ItemShape

-- the world of files that were read
abbrev pub world_of : Given → List Row → World
world_of given rows = record {
  os = given.os;
  unstable = given.unstable;
  expansion = given.expansion;
  root = given.root;
  there = λ key. is_some (given.source key);
  said = λ key. option_map filled (lookup (bytes_eq key) rows);
  refused = λ key kind. false;
}

-- the text at a key says these items
abbrev pub IsRead : Given → Text → List ItemShape → Type 0
IsRead given key items = (text : Text) × (given.source key ≡ Some text) × Reads given.expansion given.version text items

-- rows of files that were read, all that are reached among them
pub record AreAllRead (given : Given) (rows : List Row) : Type 0 where
  pub each : (key : Text) (items : List ItemShape) → lookup (bytes_eq key) rows ≡ Some items → IsRead given key items
  pub all : (key : Text) → Reached (world_of given rows) key → (items : List ItemShape) × (lookup (bytes_eq key) rows ≡ Some items)

-- where all files that are reached were read, there is a world (by laws of the syntax: a text says the items of one file at most, and one that is refused none)
abbrev pub WorldsAreThere : Type 0
WorldsAreThere = SaysAtMostOne → FaultsSayNothing → (given : Given) (rows : List Row) → AreAllRead given rows → StandsFor given (world_of given rows)
