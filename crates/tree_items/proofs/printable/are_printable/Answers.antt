-- One element settles the answer, or those that are left do.
use Rattle.std.proofs.Common.{◌≡◌, ◌<◌, ◌≤◌, true, false, length, sym, ◌∙◌, arith}
use Rattle.tree_items.specs.Files.{item_shape}
use Rattle.tree_items.specs.Printable.{is_item_printable}
use Rattle.tree_items.proofs.Apart.{one_does_not, passes_all, no_more_all}
use Rattle.tree_items.proofs.printable.are_printable.Goals as goal

pub loop-item-preserved : goal.loop-item-preserved
loop-item-preserved c =
    let items = c.args.items.now in
    let lt : c.loop-item.item-index < length items = omega arith in
    let so : is_item_printable (item_shape c.item-item.result) ≡ true = sym c.is_item_printable.ensures ∙ c.if-not-is_item_printable.false in
    passes_all is_item_printable item_shape items c.loop-item.item-index c.item-item.result lt c.item-item.is so ∙ c.loop-item.invariant

pub returns-then-not-is_item_printable : goal.returns-then-not-is_item_printable
returns-then-not-is_item_printable c =
    let items = c.args.items.now in
    let lt : c.loop-item.item-index < length items = omega arith in
    let so : is_item_printable (item_shape c.item-item.result) ≡ false = sym c.is_item_printable.ensures ∙ c.if-not-is_item_printable.true in
    sym (one_does_not is_item_printable item_shape items c.loop-item.item-index c.item-item.result lt c.item-item.is so)

pub returns : goal.returns
returns c =
    let le : length c.args.items.now ≤ c.loop-item.item-index = omega arith in
    sym (no_more_all is_item_printable item_shape c.args.items.now c.loop-item.item-index le) ∙ c.loop-item.invariant
