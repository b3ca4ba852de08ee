-- Reads, or orders, are refused.
use Rattle.std.proofs.Common.{ap, subst, ◌∙◌}
use Rattle.std.proofs.lemmas.Result.{err_from_is_err_and}
use Rattle.just_resolve.specs.Faults.{reading_error}
use Rattle.just_resolve.specs.Variables.{AreReads, IsOrderRefused, IsReadRefused, ordering, reading}
use Rattle.just_resolve.proofs.module_variables.read_variables.Goals as goal

pub returns-in_err-reads-clause-refused : goal.returns-in_err-reads-clause-refused
returns-in_err-reads-clause-refused c =
    let p = err_from_is_err_and c.from_residual.result c.from_residual.ensures.1 in
    let fault = c.in_err-reads.field-0.0 in
    rw p.1 (λ some. reading fault (subst (λ ls. IsReadRefused ls fault) c.as_slice.ensures.value (c.in_err-reads.ensures.refused (λ e. some (p.2 ∙ ap reading_error e)))) p.2)

pub returns-in_err-orders-clause-refused : goal.returns-in_err-orders-clause-refused
returns-in_err-orders-clause-refused c =
    let p = err_from_is_err_and c.from_residual-in_err-orders.result c.from_residual-in_err-orders.ensures.1 in
    let lists = c.args.lists.items in
    let reads = c.in_ok-reads.reads.items in
    let error = c.in_err-orders.field-0.0 in
    rw (p.1, p.2) (λ some. ordering reads
    (subst (λ ls. AreReads c.args.overrides.now ls reads) c.as_slice.ensures.value c.in_ok-reads.ensures.reads)
    (subst (λ ls. IsOrderRefused ls reads error) c.as_slice-2.ensures.value (subst (λ rs. IsOrderRefused c.as_slice-2.result.now rs error) c.as_slice-3.ensures.value (c.in_err-orders.ensures.refused some))))
