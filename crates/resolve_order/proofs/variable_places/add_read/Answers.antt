-- The place's representative is led to, if it is there.
use Rattle.resolve_order.specs.Needs.{rows as rows_of}
use Rattle.resolve_order.proofs.Contraction.{led_here, on_ok}
use Rattle.resolve_order.proofs.variable_places.add_read.Goals as goal

pub returns-clause-led : goal.returns-clause-led
returns-clause-led c = on_ok c.add_lead.result c.add_lead.ensures.leads (led_here c.args.variables c.args.representatives.now (rows_of c.add_lead.new.rows) c.args.own c.args.read)
