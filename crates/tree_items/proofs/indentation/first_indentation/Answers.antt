-- The first item that gives an indentation ends the search.
use Rattle.std.proofs.Common.{◌<◌, ◌≤◌, length, arith, sym, ◌∙◌}
use Rattle.tree_items.specs.FileIndentation.{item_indentation}
use Rattle.tree_items.proofs.First.{given_there, given_later, given_never}
use Rattle.tree_items.proofs.indentation.first_indentation.Goals as goal

pub loop-item-preserved : goal.loop-item-preserved
loop-item-preserved c =
    let items = c.args.items.now in
    let lt : c.loop-item.item-index < length c.args.items.now = omega arith in
    given_later (item_indentation c.args.os) items c.loop-item.item-index c.item-item.result lt c.item-item.is c.in-None.ensures ∙ c.loop-item.invariant

pub returns-in-Some : goal.returns-in-Some
returns-in-Some c =
    let items = c.args.items.now in
    let lt : c.loop-item.item-index < length c.args.items.now = omega arith in
    sym (given_there (item_indentation c.args.os) items c.loop-item.item-index c.item-item.result c.in-Some.text.now lt c.item-item.is c.in-Some.ensures) ∙ c.loop-item.invariant

pub returns : goal.returns
returns c =
    let le : length c.args.items.now ≤ c.loop-item.item-index = omega arith in
    sym (given_never (item_indentation c.args.os) c.args.items.now c.loop-item.item-index le) ∙ c.loop-item.invariant
