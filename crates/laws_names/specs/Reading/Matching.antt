-- Files say what their sources say once variables have their numbers.
use Rattle.std.specs.Prelude.{◌≡◌, ℕ, Some, slice_get}
use Rattle.std.specs.List.{All}
use Rattle.parse_attributed_items.specs.Held.{IsOwnItem}
use Rattle.resolve_analysis.specs.Numbered.{IsNumbered}
use Rattle.modules_compilation.specs.declared.compilation.Compilation.{Compilation}
use Rattle.modules_compilation.specs.declared.module_node.File.{File}
use Rattle.meaning_rules.specs.Worlds.Given.{Given}
use Rattle.meaning_rules.specs.Worlds.Matching.{MatchSources}

-- Files match their sources once variables have their numbers, where they did before and items stay what attributes make of them.
abbrev pub NumberedFilesMatch : Type 0
NumberedFilesMatch = (source : Given) (before after : Compilation) → IsNumbered before after
    → ((k : ℕ) (file : File) → slice_get after.files.items k ≡ Some file → All (IsOwnItem source.expansion) file.ast.items.items) → MatchSources source before → MatchSources source after
