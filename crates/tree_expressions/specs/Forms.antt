-- Strings, parts of format strings and commands as they are written.
use Rattle.std.specs.Prelude.{◌≡◌, ℕ, Bool, true, false, List, ◌++◌, codes}
use Rattle.tree_expressions.specs.Cutting.{begins}
use Rattle.tree_expressions.specs.Kinds.{prefix_text, mark, kind_of, contents}
use Rattle.tree_expressions.specs.Parts.{part_contents}
use Rattle.tree_expressions.specs.Cooking.{backticks, command_contents}
use Rattle.tree_expressions.specs.declared.string_kind.StringKind.{StringKind}

-- a string of this kind with this text between its marks
abbrev pub written : StringKind → List ℕ → List ℕ
written kind inside = prefix_text kind.prefix ++ (mark kind.delimiter kind.tripled ++ (inside ++ mark kind.delimiter kind.tripled))

-- after one mark, what is inside doesn't begin with another
abbrev pub IsInside : Bool → List ℕ → List ℕ → Type 0
IsInside tripled quote inside = tripled ≡ false → begins inside quote ≡ false

-- a string that is written is read as it was written
abbrev pub StringsAreRead : Type 0
StringsAreRead = (kind : StringKind) (inside : List ℕ) → IsInside kind.tripled (mark kind.delimiter false) inside → (kind_of (written kind inside) ≡ kind) × (contents (written kind inside) ≡ inside)

-- and so is a command
abbrev pub CommandsAreRead : Type 0
CommandsAreRead = (tripled : Bool) (inside : List ℕ) → IsInside tripled (codes "`") inside → command_contents (backticks tripled ++ (inside ++ backticks tripled)) ≡ inside

-- what opens a part of a format string of this kind, which is the first or a later one
abbrev pub part_opening : StringKind → Bool → List ℕ
part_opening kind true = codes "f" ++ mark kind.delimiter kind.tripled
part_opening kind false = codes "}}"

-- what closes a part, which is the last or an earlier one
abbrev pub part_closing : StringKind → Bool → List ℕ
part_closing kind true = mark kind.delimiter kind.tripled
part_closing kind false = codes "{{"

-- a part that is written is read as it was written
abbrev pub PartsAreRead : Type 0
PartsAreRead = (kind : StringKind) (first last : Bool) (inside : List ℕ) → part_contents (mark kind.delimiter kind.tripled) (part_opening kind first ++ (inside ++ part_closing kind last)) ≡ inside
