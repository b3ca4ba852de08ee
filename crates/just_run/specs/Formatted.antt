-- Sources of which some stand in their formatted text.
use Rattle.std.specs.BTreeMap.{BTreeMap}
use Rattle.std.specs.Prelude.{String}
use Rattle.parse_expressions.specs.Literals.{Expansion}
use Rattle.semver.specs.declared.Version.{Version}
use Rattle.modules_files.specs.Found.{source_of}
use Rattle.meaning_rules.specs.Worlds.Reformatted.{FormatsSome}

-- this is so of each other map in which some of these files stand in their formatted text, and all else is the same
abbrev pub InEachFormatted : {Y Z : Type 0} → Expansion → Version → BTreeMap (String Y) (String Z) → (BTreeMap (String Y) (String Z) → Type 0) → Type 0
InEachFormatted {Y = Y} {Z = Z} expansion version sources IsSo = (other : BTreeMap (String Y) (String Z)) → FormatsSome expansion version (source_of sources) (source_of other) → IsSo other
