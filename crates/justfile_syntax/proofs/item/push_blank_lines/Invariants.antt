-- So many blank lines stand after the items.
use Rattle.std.proofs.Common.{◌≡◌, ◌++◌, replicate}
use Rattle.tree_items.specs.declared.ast.Item.TheVariants.{Newline}
use Rattle.justfile_syntax.proofs.item.push_blank_lines.Given as goal

abbrev pub invariant-loop : goal.invariant-loop
invariant-loop l = l.items.items ≡ l.fn.items.items ++ replicate l.counter Newline
