-- What a call is given, and the world that it stands for: what files say, without blank lines.
use Rattle.std.specs.Prelude.{ℕ, Bool, not, List, Option}
use Rattle.std.specs.List.{filter}
use Rattle.just_text.specs.declared.os.Os.{Os}
use Rattle.just_text.specs.declared.compile_error.CompileErrorKind.{CompileErrorKind}
use Rattle.tree_items.specs.Files.{ItemShape, is_blank}
use Rattle.parse_expressions.specs.Literals.{Expansion}
use Rattle.semver.specs.declared.Version.{Version}

-- a text: a name, a key or a path
abbrev pub Text : Type 0
Text = List ℕ

-- the configuration's part, the expander, the version that reads, the texts by their keys, and the root's key
pub record Given : Type 0 where
  pub os : Os
  pub unstable : Bool
  pub expansion : Expansion
  pub version : Version
  pub source : Text → Option Text
  pub root : Text

-- what the rules look at: where there is a file, what it says, and why it says nothing
pub record World : Type 0 where
  pub os : Os
  pub unstable : Bool
  pub expansion : Expansion
  pub root : Text
  pub there : Text → Bool
  pub said : Text → Option (List ItemShape)
  pub refused : Text → CompileErrorKind → Bool

-- an override as it is written, and its text
abbrev pub Overrides : Type 0
Overrides = List (Text × Text)

-- items without blank lines
unfoldable pub filled : List ItemShape → List ItemShape
filled items = filter (λ item. not (is_blank item)) items
