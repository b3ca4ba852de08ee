-- An order of the rows puts the variables in order.
use Rattle.std.proofs.Common.{◌∙◌, ap, sym, subst, nat_lt}
use Rattle.std.specs.List.{filter}
use Rattle.resolve_order.specs.Needs.{rows as rows_of}
use Rattle.resolve_order.specs.Order.{IsOrder}
use Rattle.resolve_order.specs.Reads.{IsVariableOrder}
use Rattle.resolve_order.specs.Cycles.{IsReadReason}
use Rattle.resolve_order.proofs.Reading.{if_err}
use Rattle.resolve_order.proofs.Contraction.{variables_in_order, if_ok}
use Rattle.resolve_order.proofs.variable_places.variable_order.Goals as goal

pub returns-in-Ok-clause-order : goal.returns-in-Ok-clause-order
returns-in-Ok-clause-order c =
    let graph = rows_of c.args.graph.now in
    let rows = rows_of c.in_ok-rows.rows.items in
    let places = c.in-Ok.places.items in
    let ordered : IsOrder rows places = subst (λ rs. IsOrder (rows_of rs) places) c.deref.ensures.value c.in-Ok.ensures.order in
    if_ok c.in_order.result c.in_order.ensures.kept
    (λ kept is. subst (IsVariableOrder graph c.args.variables) (sym (is ∙ ap (filter (λ place. nat_lt place c.args.variables)) c.as_slice.ensures.value)) (variables_in_order graph c.args.variables rows places c.in_ok-rows.ensures ordered))

pub returns-in-Ok-clause-reason : goal.returns-in-Ok-clause-reason
returns-in-Ok-clause-reason c = if_err c.in_order.result c.in_order.ensures.memory (λ fault is. subst (IsReadReason (rows_of c.args.graph.now) c.args.variables) (sym is) tt)
