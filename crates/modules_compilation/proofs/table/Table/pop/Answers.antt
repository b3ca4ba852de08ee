-- The other entries keep their order.
use Rattle.std.proofs.Common.{refl}
use Rattle.modules_compilation.proofs.Tabled.{ascending_view, popped}
use Rattle.modules_compilation.proofs.table.Table.pop.Goals as goal

pub invariant_of-self : goal.invariant_of-self
invariant_of-self g c = popped c.self.inside.keys.items c.self.inside.values.items c.args.self.now c.self.view_is c.self.invariant c.remove.new.self.items c.remove-2.new.self.items c.remove.ensures.items c.remove-2.ensures.items

pub returns-clause-ascending : goal.returns-clause-ascending
returns-clause-ascending g c = ascending_view c.remove.new.self.items c.remove-2.new.self.items _ refl
    (popped c.self.inside.keys.items c.self.inside.values.items c.args.self.now c.self.view_is c.self.invariant c.remove.new.self.items c.remove-2.new.self.items c.remove.ensures.items c.remove-2.ensures.items)
