-- There are as many entries as keys.
use Rattle.std.proofs.Common.{arith}
use Rattle.modules_compilation.proofs.Tabled.{length_view}
use Rattle.modules_compilation.proofs.table.Table.len.Goals as goal

pub returns : goal.returns
returns g c = omega (arith, c.len.ensures, length_view c.self.inside.keys.items c.self.inside.values.items c.args.self.now c.self.view_is c.self.invariant)
