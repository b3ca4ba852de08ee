-- The keys and their order are the table's.
use Rattle.std.proofs.Common.{ap, ◌∙◌}
use Rattle.modules_compilation.specs.Tables.{texts}
use Rattle.modules_compilation.proofs.Tabled.{keys_view, ascending_view}
use Rattle.modules_compilation.proofs.table.Table.keys.Goals as goal

pub returns-clause-all : goal.returns-clause-all
returns-clause-all g c = ap texts (c.iter.ensures.rest ∙ c.deref.ensures.value) ∙ keys_view c.self.inside.keys.items c.self.inside.values.items c.args.self.now c.self.view_is c.self.invariant

pub returns-clause-ascending : goal.returns-clause-ascending
returns-clause-ascending g c = ascending_view c.self.inside.keys.items c.self.inside.values.items c.args.self.now c.self.view_is c.self.invariant
