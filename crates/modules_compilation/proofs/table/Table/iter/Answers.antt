-- The order of the keys is the table's.
use Rattle.modules_compilation.proofs.Tabled.{ascending_view}
use Rattle.modules_compilation.proofs.table.Table.iter.Goals as goal

pub returns-clause-ascending : goal.returns-clause-ascending
returns-clause-ascending g c = ascending_view c.self.inside.keys.items c.self.inside.values.items c.args.self.now c.self.view_is c.self.invariant
