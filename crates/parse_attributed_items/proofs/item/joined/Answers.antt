-- What the attributes make of the item is made of the one that was read.
use Rattle.std.proofs.Common.{◌≡◌, refl, subst}
use Rattle.std.specs.Prelude.{IfOk}
use Rattle.std.proofs.lemmas.Result.{err_from_is_err_and}
use Rattle.tree_attributes.specs.Sets.Order.{in_order}
use Rattle.tree_attributes.specs.Sets.Sets.{shapes_in}
use Rattle.parse_expressions.proofs.Together.{both_given}
use Rattle.parse_attributes.specs.Seen.{read_shapes}
use Rattle.parse_attributed_items.specs.Fitting.{known}
use Rattle.parse_attributed_items.specs.Seen.{AreWholeOrdered}
use Rattle.parse_attributed_items.proofs.item.joined.Goals as goal

pub returns-in_err-item-2-clause-gives : goal.returns-in_err-item-2-clause-gives
returns-in_err-item-2-clause-gives c = λ x whole.
    let given = both_given c.args.parts.read.item c.ordered-known.result (c.in_ok-item.item, c.in_ok-item.known) c.in_ok-item.ensures in
    let written = known (read_shapes c.args.parts.attributes.items) in
    let all = subst (λ r. IfOk r (AreWholeOrdered x (known (read_shapes c.args.parts.attributes.items)))) given.1 (c.ordered-known.ensures.whole x whole) in
    let refused = rw given.0 at (c.in_err-item-2.ensures.gives x written all) in
    let p = err_from_is_err_and c.from_residual-in_err-item-2.result c.from_residual-in_err-item-2.ensures.1 in
    rw (p.1, p.2) refused

pub returns-clause-gives : goal.returns-clause-gives
returns-clause-gives c = λ x whole.
    let given = both_given c.args.parts.read.item c.ordered-known.result (c.in_ok-item.item, c.in_ok-item.known) c.in_ok-item.ensures in
    let written = known (read_shapes c.args.parts.attributes.items) in
    let all = subst (λ r. IfOk r (AreWholeOrdered x (known (read_shapes c.args.parts.attributes.items)))) given.1 (c.ordered-known.ensures.whole x whole) in
    rw given.0 at (c.in_ok-item-2.ensures.gives x written all)

pub returns-clause-shape : goal.returns-clause-shape
returns-clause-shape c =
    let given = both_given c.args.parts.read.item c.ordered-known.result (c.in_ok-item.item, c.in_ok-item.known) c.in_ok-item.ensures in
    let shapes : shapes_in c.in_ok-item.known.attributes ≡ in_order (known (read_shapes c.args.parts.attributes.items)) = subst (λ r. IfOk r (λ s. shapes_in s.attributes ≡ in_order (known (read_shapes c.args.parts.attributes.items)))) given.1 c.ordered-known.ensures.shapes in
    rw (c.in_ok-item-2.ensures.shape, shapes, given.0) refl

pub returns-clause-numbers : goal.returns-clause-numbers
returns-clause-numbers c = λ old new h.
    let given = both_given c.args.parts.read.item c.ordered-known.result (c.in_ok-item.item, c.in_ok-item.known) c.in_ok-item.ensures in
    c.in_ok-item-2.ensures.numbers old new (rw given.0 h)

pub returns-clause-own : goal.returns-clause-own
returns-clause-own c = λ x whole arguments bare.
    let given = both_given c.args.parts.read.item c.ordered-known.result (c.in_ok-item.item, c.in_ok-item.known) c.in_ok-item.ensures in
    let written = known (read_shapes c.args.parts.attributes.items) in
    let all = subst (λ r. IfOk r (AreWholeOrdered x (known (read_shapes c.args.parts.attributes.items)))) given.1 (c.ordered-known.ensures.whole x whole) in
    c.in_ok-item-2.ensures.own x written all arguments (rw given.0 bare)

pub returns-clause-cooked : goal.returns-clause-cooked
returns-clause-cooked c = λ x whole bare cooked.
    let given = both_given c.args.parts.read.item c.ordered-known.result (c.in_ok-item.item, c.in_ok-item.known) c.in_ok-item.ensures in
    let all = subst (λ r. IfOk r (AreWholeOrdered x (known (read_shapes c.args.parts.attributes.items)))) given.1 (c.ordered-known.ensures.whole x whole) in
    c.in_ok-item-2.ensures.cooked x (known (read_shapes c.args.parts.attributes.items)) all (rw given.0 bare) (rw given.0 cooked)
