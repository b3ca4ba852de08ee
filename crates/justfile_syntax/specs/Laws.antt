-- What reading files and deriving them have to do with each other.
use Rattle.std.specs.Prelude.{ℕ, ◌≡◌, List, map, Ok}
use Rattle.just_text.specs.Tokens.{Word, word_of}
use Rattle.just_text.specs.declared.compile_error.CompileErrorKind.{CompileErrorKind}
use Rattle.tree_items.specs.Files.{ItemShape}
use Rattle.parse_expressions.specs.Literals.{Expansion}
use Rattle.justfile_syntax.specs.Files.{AreEntries, Derives, Entry, IsStart}
use Rattle.justfile_syntax.specs.Reading.{file_at}
use Rattle.justfile_syntax.specs.Reads.{IsSyntaxFault, Reads}
use Rattle.semver.specs.declared.Version.{Version}

-- the words, after a byte order mark if there is one, are these entries
pub record AreFile (expansion : Expansion) (current : Version) (es : List Entry) (words : List Word) : Type 0 where
  pub behind_mark : List Word
  pub start : IsStart words behind_mark
  pub stand : AreEntries expansion current es behind_mark

-- What is read is derived, and what is derived is read.
pub record FilesExactly {T : Type 0} (word : T → Word) (expansion : Expansion) (current : Version) : Type 0 where
  pub found : (ts : List T) (es : List Entry) → file_at word expansion current ts ≡ Ok es → AreFile expansion current es (map word ts)
  pub only : (ts : List T) (es : List Entry) → AreFile expansion current es (map word ts) → file_at word expansion current ts ≡ Ok es

abbrev pub FilesHold : Type 0
FilesHold = (expansion : Expansion) (current : Version) → FilesExactly word_of expansion current

-- a text that is refused says nothing
abbrev pub FaultsSayNothing : Type 0
FaultsSayNothing = (expansion : Expansion) (current : Version) (text : List ℕ) (kind : CompileErrorKind) → IsSyntaxFault expansion current text kind → (items : List ItemShape) → Reads expansion current text items → ⊥

-- a text says the items of one file at most
abbrev pub SaysAtMostOne : Type 0
SaysAtMostOne = (expansion : Expansion) (current : Version) (text : List ℕ) (items others : List ItemShape) → Reads expansion current text items → Reads expansion current text others → items ≡ others

-- words say the items of one file at most
abbrev pub AtMostOne : Type 0
AtMostOne = (expansion : Expansion) (current : Version) (words : List Word) (items others : List ItemShape) → Derives expansion current words items → Derives expansion current words others → items ≡ others
