-- What is written, and what is left after the blank lines that wait, is the file.
use Rattle.std.proofs.Common.{◌≡◌, ◌≤◌, ℕ, List, ◌++◌, drop}
use Rattle.std.specs.Fmt.{HasWritten, IsPlainFormatter}
use Rattle.tree_items.specs.Files.{file_text, file_text_behind, item_shapes}
use Rattle.tree_items.proofs.ast.Ast.print.Given as goal

abbrev pub invariant-loop-item : goal.invariant-loop-item
invariant-loop-item g l =
    (l.blank ≤ l.item-index)
    × (IsPlainFormatter l.initial.f → (done : List ℕ) × HasWritten g.W.Write.write_str_gives l.initial.f done l.f
    × (done ++ file_text_behind l.indentation l.blank (item_shapes (drop l.item-index l.item-items)) ≡ file_text l.indentation (item_shapes l.item-items)))
