-- An order of the rows is one of variables, and a cycle of the rows too.
use Rattle.std.proofs.Common.{sym, subst, min}
use Rattle.std.proofs.lemmas.List.{length-map}
use Rattle.resolve_order.specs.Needs.{rows as rows_of}
use Rattle.resolve_order.specs.Cycles.{AreReadRows}
use Rattle.resolve_order.specs.Order.{IsOrder, IsReason}
use Rattle.resolve_order.proofs.Contraction.{if_ok}
use Rattle.resolve_order.proofs.Reading.{order_of_rows, reason_of_rows, if_err}
use Rattle.resolve_order.proofs.read_rows.exact_order.Goals as goal

pub returns-clause-order : goal.returns-clause-order
returns-clause-order c =
    let graph = rows_of c.args.graph.now in
    let rows = rows_of c.in_ok-rows.rows.items in
    if_ok c.order.result c.order.ensures.order (λ places o. order_of_rows graph c.args.variables rows (subst (λ n. AreReadRows graph c.args.variables (min c.args.variables n) rows) (sym (length-map c.args.graph.now (λ row. row.items))) c.in_ok-rows.ensures) places.items (subst (λ rs. IsOrder (rows_of rs) places.items) c.as_slice-2.ensures.value o))

pub returns-clause-reason : goal.returns-clause-reason
returns-clause-reason c =
    let graph = rows_of c.args.graph.now in
    let rows = rows_of c.in_ok-rows.rows.items in
    if_err c.order.result c.order.ensures.reason (λ fault r. reason_of_rows graph c.args.variables rows (subst (λ n. AreReadRows graph c.args.variables (min c.args.variables n) rows) (sym (length-map c.args.graph.now (λ row. row.items))) c.in_ok-rows.ensures) fault (subst (λ rs. IsReason (rows_of rs) fault) c.as_slice-2.ensures.value r))
