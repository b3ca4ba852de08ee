-- The row has one more.
use Rattle.std.proofs.Common.{inr}
use Rattle.resolve_order.proofs.Contraction.{added, added_there}
use Rattle.resolve_order.proofs.variable_places.add_lead.Goals as goal

pub returns-in_ok-push-clause-grows : goal.returns-in_ok-push-clause-grows
returns-in_ok-push-clause-grows c = added c.args.rows.now c.args.own c.index-rows-own.result c.push.new.self c.args.found c.requires.own c.in_ok-push.ensures.items

pub returns-in_ok-push-clause-leads : goal.returns-in_ok-push-clause-leads
returns-in_ok-push-clause-leads c = inr (added_there c.args.rows.now c.args.own c.index-rows-own.result c.push.new.self c.args.found c.requires.own c.requires.found c.in_ok-push.ensures.items)
