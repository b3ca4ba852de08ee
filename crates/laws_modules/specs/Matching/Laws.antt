-- Files that were read say what their sources say.
use Rattle.std.specs.List.{All}
use Rattle.parse_attributed_items.specs.Held.{IsItemCooked, IsOwnItem}
use Rattle.parse_expressions.specs.Literals.{from_file}
use Rattle.tree_items.specs.Files.{item_shapes}
use Rattle.modules_compilation.specs.declared.module_node.File.{File}
use Rattle.meaning_rules.specs.Worlds.Given.{Given}
use Rattle.meaning_rules.specs.Worlds.Laws.{IsRead}
use Rattle.meaning_rules.specs.Worlds.Matching.{MatchesSource}

-- A file that was read matches its source, where its items are what attributes make of them and its strings are cooked.
abbrev pub ReadFilesMatch : Type 0
ReadFilesMatch = (source : Given) (file : File) → IsRead source file.key.now (item_shapes file.ast.items.items) → All (IsOwnItem source.expansion) file.ast.items.items
    → All (IsItemCooked (from_file file.key.now source.expansion)) file.ast.items.items → MatchesSource source file
