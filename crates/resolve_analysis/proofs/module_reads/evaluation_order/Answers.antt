-- By the graph and the number of variables of the module.
use Rattle.std.proofs.Common.{◌≡◌, arith, length, subst}
use Rattle.resolve_order.specs.Cycles.{IsReadReason}
use Rattle.resolve_order.specs.Needs.{rows}
use Rattle.resolve_order.specs.Reads.{IsVariableOrder}
use Rattle.resolve_order.proofs.Contraction.{if_ok}
use Rattle.resolve_order.proofs.Reading.{if_err}
use Rattle.resolve_analysis.proofs.module_reads.evaluation_order.Goals as goal

pub returns-clause-order : goal.returns-clause-order
returns-clause-order c =
    let variables = c.args.lists.now.assignments in
    let many : c.len.result ≡ length variables.items = omega (arith, c.len.ensures, variables.ok.0) in
    if_ok c.variable_order.result c.variable_order.ensures.order (λ places o.
    subst (λ g. IsVariableOrder (rows g) (length variables.items) places.items) c.as_slice.ensures.value (subst (λ n. IsVariableOrder (rows c.as_slice.result.now) n places.items) many o))

pub returns-clause-reason : goal.returns-clause-reason
returns-clause-reason c =
    let variables = c.args.lists.now.assignments in
    let many : c.len.result ≡ length variables.items = omega (arith, c.len.ensures, variables.ok.0) in
    if_err c.variable_order.result c.variable_order.ensures.reason (λ fault r.
    subst (λ g. IsReadReason (rows g) (length variables.items) fault) c.as_slice.ensures.value (subst (λ n. IsReadReason (rows c.as_slice.result.now) n fault) many r))
