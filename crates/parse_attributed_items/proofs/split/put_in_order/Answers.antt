-- The attributes that were written are put in order; their options stay.
use Rattle.std.proofs.Common.{◌≡◌, map, ap, ◌∙◌, subst}
use Rattle.std.specs.Prelude.{IfOk}
use Rattle.std.specs.Ordering.{on}
use Rattle.tree_attributes.specs.Sets.Order.{in_order, is_before, item_shape, items_in_order}
use Rattle.tree_attributes.specs.Sets.Sets.{items_of, shapes_in}
use Rattle.parse_expressions.proofs.Together.{both_given}
use Rattle.parse_attributed_items.specs.Held.{IsWholeAttribute}
use Rattle.parse_attributed_items.proofs.Ordered.{all_sorted, shapes_in_order}
use Rattle.parse_attributed_items.proofs.split.put_in_order.Goals as goal

pub returns-clause-shapes : goal.returns-clause-shapes
returns-clause-shapes c =
    let items = c.args.known.items.items in
    let given = both_given c.args.known.options c.from_items-attributes.result (c.in_ok-options.options, c.in_ok-options.attributes) c.in_ok-options.ensures in
    let same : items_of c.in_ok-options.attributes ≡ items_in_order items = subst (λ r. IfOk r (λ set. items_of set ≡ items_in_order items)) given.1 c.from_items-attributes.ensures in
    ap (map item_shape) same ∙ shapes_in_order items

pub returns-clause-whole : goal.returns-clause-whole
returns-clause-whole c = λ x whole.
    let items = c.args.known.items.items in
    let given = both_given c.args.known.options c.from_items-attributes.result (c.in_ok-options.options, c.in_ok-options.attributes) c.in_ok-options.ensures in
    let same : items_of c.in_ok-options.attributes ≡ items_in_order items = subst (λ r. IfOk r (λ set. items_of set ≡ items_in_order items)) given.1 c.from_items-attributes.ensures in
    record {
      again = rw given.0 whole.again;
      cooked = rw same (all_sorted (IsWholeAttribute x) (on item_shape is_before) items whole.cooked);
      cooked_options = rw given.0 whole.cooked_options;
      order = ap (map item_shape) same ∙ shapes_in_order items;
    }
