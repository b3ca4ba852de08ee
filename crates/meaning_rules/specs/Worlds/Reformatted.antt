-- Texts of files, some of which stand in their formatted text.
use Rattle.std.specs.Prelude.{◌≡◌, ◌⊎◌, ◌↔◌, true, List, Option, Some}
use Rattle.std.specs.Str.{IsUtf8}
use Rattle.tree_items.specs.Files.{ItemShape, file_text}
use Rattle.tree_items.specs.Printable.{printable}
use Rattle.parse_expressions.specs.Literals.{Expansion}
use Rattle.justfile_syntax.specs.Bodies.{is_indentation}
use Rattle.justfile_syntax.specs.Laws.{FaultsSayNothing, SaysAtMostOne}
use Rattle.justfile_syntax.specs.Reads.{Reads}
use Rattle.semver.specs.declared.Version.{Version}
use Rattle.meaning_rules.specs.Worlds.Given.{Given, Text, World}
use Rattle.meaning_rules.specs.Worlds.Standing.{StandsFor}

module _ (expansion : Expansion) (version : Version) (source other : Text → Option Text) where
  -- where the first has a text that says printable items, the other has their formatted text, in some indentation
  pub record IsFormattedAt (key : Text) : Type 0 where
    pub text : Text
    pub found : source key ≡ Some text
    pub valid : IsUtf8 text
    pub items : List ItemShape
    pub reads : Reads expansion version text items
    pub printed : printable items ≡ true
    pub indentation : Text
    pub indents : is_indentation indentation ≡ true
    pub formatted : other key ≡ Some (file_text indentation items)

  -- at each key both have the same, or the other has the formatted text
  abbrev pub FormatsSome : Type 0
  FormatsSome = (key : Text) → (source key ≡ other key) ⊎ IsFormattedAt key

-- two calls are given the same, but that the other has some files in their formatted text
pub record IsReformatted (given other : Given) : Type 0 where
  pub same_os : given.os ≡ other.os
  pub same_unstable : given.unstable ≡ other.unstable
  pub same_expansion : given.expansion ≡ other.expansion
  pub same_version : given.version ≡ other.version
  pub same_root : given.root ≡ other.root
  pub formats : FormatsSome given.expansion given.version given.source other.source

-- both stand for the same worlds (by laws of the syntax: a text says the items of one file at most, and one that is refused none)
abbrev pub ReformattedStandAlike : Type 0
ReformattedStandAlike = SaysAtMostOne → FaultsSayNothing → (given other : Given) → IsReformatted given other → (w : World) → StandsFor given w ↔ StandsFor other w
