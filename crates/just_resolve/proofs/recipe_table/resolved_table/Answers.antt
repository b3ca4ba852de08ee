-- Dependencies, or the table in their order, are refused.
use Rattle.std.proofs.Common.{◌≢◌, ap, map, subst, sym, ◌∙◌}
use Rattle.std.proofs.lemmas.Result.{IfErr-weaker, err_from_is_err_and}
use Rattle.resolve_order.specs.Needs.{rows}
use Rattle.resolve_order.specs.Order.{IsOrder}
use Rattle.resolve_recipes.specs.Named.{AllByName}
use Rattle.resolve_recipes.specs.Nodes.{view}
use Rattle.resolve_recipes.specs.Refusals.{told}
use Rattle.just_resolve.specs.Cycles.{IsCircularRecipe}
use Rattle.just_resolve.specs.Faults.{naming_error}
use Rattle.just_resolve.specs.Table.{IsNotSorted, IsRefusedIn, circular, dependency, disabled, others}
use Rattle.just_resolve.specs.declared.error.Error.TheVariants.{OutOfMemory}
use Rattle.just_resolve.proofs.recipe_table.resolved_table.Goals as goal

pub returns-in_err-check_disabled-clause-err : goal.returns-in_err-check_disabled-clause-err
returns-in_err-check_disabled-clause-err c =
    let p = err_from_is_err_and c.from_residual.result c.from_residual.ensures.1 in
    rw p.1 (λ some all. disabled (told c.in_err-check_disabled.field-0.0) (sym (c.in_err-check_disabled.ensures all)) (p.2 some))

pub returns-in_err-needs-clause-err : goal.returns-in_err-needs-clause-err
returns-in_err-needs-clause-err c =
    let p = err_from_is_err_and c.from_residual-in_err-needs.result c.from_residual-in_err-needs.ensures.1 in
    rw p.1 (λ some all. dependency (told c.in_err-needs.field-0.0) (c.in_err-needs.ensures.err (λ e. some (p.2 some ∙ ap naming_error e)) all) (p.2 some))

pub returns-in_err-order-clause-err : goal.returns-in_err-order-clause-err
returns-in_err-order-clause-err c =
    let p = err_from_is_err_and c.from_residual-in_err-order.result c.from_residual-in_err-order.ensures.1 in
    rw (p.1, p.2) (λ some all. circular (rows c.in_ok-needs.needs.items) (c.in_ok-needs.ensures.ok all) (subst (λ ns. IsCircularRecipe c.args.nodes.now (rows ns) c.in_err-order.field-0.0) c.as_slice.ensures.value (c.in_err-order.ensures.cycle some)))

pub returns-clause-err : goal.returns-clause-err
returns-clause-err c =
    let compilation = c.args.compilation.now in
    let resolver = c.args.resolver.now in
    let nodes = c.args.nodes.now in
    let reads = c.args.reads.now in
    let needs = c.in_ok-needs.needs.items in
    let order = c.in_ok-order.order.items in
    IfErr-weaker c.table_in_order.result (λ error. error ≢ OutOfMemory → AllByName compilation → IsRefusedIn compilation resolver (map view nodes) reads (rows c.as_slice-2.result.now) c.as_slice-3.result.now error)
    (λ error. error ≢ OutOfMemory → AllByName compilation → IsNotSorted compilation resolver nodes reads error)
    (λ error refused some all. others (rows needs) order (c.in_ok-needs.ensures.ok all) (subst (λ ns. IsOrder (rows ns) order) c.as_slice.ensures.value c.in_ok-order.ensures.order)
    (subst (λ ns. IsRefusedIn compilation resolver (map view nodes) reads (rows ns) order error) c.as_slice-2.ensures.value (subst (λ o. IsRefusedIn compilation resolver (map view nodes) reads (rows c.as_slice-2.result.now) o error) c.as_slice-3.ensures.value (refused some all))))
    c.table_in_order.ensures.err
