-- The entries so far are in the table.
use Rattle.std.proofs.Common.{◌≡◌}
use Rattle.modules_compilation.specs.Tables.{by_text, of_entries}
use Rattle.modules_compilation.proofs.table.Table.from_iter.Given as goal

abbrev pub invariant-loop-key : goal.invariant-loop-key
invariant-loop-key g l = l.table ≡ of_entries (by_text l.yielded)
