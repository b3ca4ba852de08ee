-- No key is in order.
use Rattle.modules_compilation.proofs.Tabled.{none_ascending}
use Rattle.modules_compilation.proofs.table.Table.new.Goals as goal

pub invariant_of-result : goal.invariant_of-result
invariant_of-result g c = none_ascending c.new.result.items c.new-2.result.items c.new.ensures.items c.new-2.ensures.items
