-- The values and the order of their keys are the table's.
use Rattle.std.proofs.Common.{◌∙◌}
use Rattle.modules_compilation.proofs.Tabled.{values_view, ascending_view}
use Rattle.modules_compilation.proofs.table.Table.values.Goals as goal

pub returns-clause-all : goal.returns-clause-all
returns-clause-all g c = c.iter.ensures.rest ∙ c.deref.ensures.value ∙ values_view c.self.inside.keys.items c.self.inside.values.items c.args.self.now c.self.view_is c.self.invariant

pub returns-clause-ascending : goal.returns-clause-ascending
returns-clause-ascending g c = ascending_view c.self.inside.keys.items c.self.inside.values.items c.args.self.now c.self.view_is c.self.invariant
