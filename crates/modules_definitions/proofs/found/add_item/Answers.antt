-- The item defines a name.
use Rattle.modules_definitions.proofs.Apart.{item_apart}
use Rattle.modules_definitions.proofs.Finding.{item_found}
use Rattle.modules_definitions.proofs.found.add_item.Goals as goal

pub returns-in_ok-push-in-Some-clause-each : goal.returns-in_ok-push-in-Some-clause-each
returns-in_ok-push-in-Some-clause-each c =
    item_found c.args.os c.args.item.now c.args.place c.in-Some.named.kind c.in-Some.named.name.now c.new.result c.args.found.now.items c.push.new.self.items c.in-Some.ensures c.new.ensures c.in_ok-push-in-Some.ensures.items

pub returns-in_ok-push-in-Some-clause-apart : goal.returns-in_ok-push-in-Some-clause-apart
returns-in_ok-push-in-Some-clause-apart c = item_apart c.args.place c.new.result c.args.found.now.items c.push.new.self.items c.new.ensures.place_is c.in_ok-push-in-Some.ensures.items
