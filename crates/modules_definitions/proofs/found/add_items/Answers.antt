-- One more item, and all of them.
use Rattle.modules_definitions.proofs.Apart.{more_items_apart}
use Rattle.modules_definitions.proofs.Finding.{all_items, more_items, no_items}
use Rattle.modules_definitions.proofs.found.add_items.Goals as goal

pub loop-item-init : goal.loop-item-init
loop-item-init c = record { each = no_items c.args.os c.args.items.now c.args.file c.args.found.now.items; apart = λ elsewhere apart. apart }

pub loop-item-preserved : goal.loop-item-preserved
loop-item-preserved c = record {
  each = more_items c.args.os c.args.items.now c.args.file c.loop-item.item c.index-items-item.result c.args.found.now.items c.loop-item.found.items c.add_item.new.found.items c.loop-item-test.true c.index-items-item.is c.loop-item.invariant.each
      c.in_ok-add_item.ensures.each;
  apart = more_items_apart c.args.os c.args.items.now c.args.file c.loop-item.item c.args.found.now.items c.loop-item.found.items c.add_item.new.found.items c.loop-item.invariant.each c.loop-item.invariant.apart c.in_ok-add_item.ensures.apart;
}

pub returns-clause-each : goal.returns-clause-each
returns-clause-each c = all_items c.args.os c.args.items.now c.args.file c.loop-item.item c.args.found.now.items c.loop-item.found.items c.loop-item-test.false c.loop-item.invariant.each

pub returns-clause-apart : goal.returns-clause-apart
returns-clause-apart c = c.loop-item.invariant.apart
