-- One element settles the answer, or those that are left do.
use Rattle.std.proofs.Common.{◌≡◌, ◌<◌, ◌≤◌, true, false, length, sym, ◌∙◌, arith}
use Rattle.tree_items.specs.Recipes.{dependency_shape}
use Rattle.tree_items.specs.Printable.{is_closed}
use Rattle.tree_items.proofs.Apart.{one_does_not, passes_all, no_more_all}
use Rattle.tree_items.proofs.printable.are_all_closed.Goals as goal

pub loop-dependency-preserved : goal.loop-dependency-preserved
loop-dependency-preserved c =
    let dependencies = c.args.dependencies.now in
    let lt : c.loop-dependency.dependency-index < length dependencies = omega arith in
    let so : is_closed (dependency_shape c.dependency-item.result) ≡ true = sym c.is_closed.ensures ∙ c.if-not-is_closed.false in
    passes_all is_closed dependency_shape dependencies c.loop-dependency.dependency-index c.dependency-item.result lt c.dependency-item.is so ∙ c.loop-dependency.invariant

pub returns-then-not-is_closed : goal.returns-then-not-is_closed
returns-then-not-is_closed c =
    let dependencies = c.args.dependencies.now in
    let lt : c.loop-dependency.dependency-index < length dependencies = omega arith in
    let so : is_closed (dependency_shape c.dependency-item.result) ≡ false = sym c.is_closed.ensures ∙ c.if-not-is_closed.true in
    sym (one_does_not is_closed dependency_shape dependencies c.loop-dependency.dependency-index c.dependency-item.result lt c.dependency-item.is so)

pub returns : goal.returns
returns c =
    let le : length c.args.dependencies.now ≤ c.loop-dependency.dependency-index = omega arith in
    sym (no_more_all is_closed dependency_shape c.args.dependencies.now c.loop-dependency.dependency-index le) ∙ c.loop-dependency.invariant
