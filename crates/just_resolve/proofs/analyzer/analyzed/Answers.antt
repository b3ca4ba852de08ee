-- Settings, or recipes, are refused.
use Rattle.std.proofs.Common.{◌≢◌, subst}
use Rattle.std.proofs.lemmas.Result.{IfErr-weaker, err_from_is_err_and}
use Rattle.resolve_recipes.specs.Named.{AllByName}
use Rattle.just_resolve.specs.Analysis.{IsRefusedWith, recipe, setting}
use Rattle.just_resolve.specs.Settling.{AreUnknown}
use Rattle.just_resolve.specs.Table.{IsTableRefused}
use Rattle.just_resolve.specs.declared.error.Error.TheVariants.{OutOfMemory}
use Rattle.just_resolve.proofs.analyzer.analyzed.Goals as goal

pub returns-in_err-values-clause-refused : goal.returns-in_err-values-clause-refused
returns-in_err-values-clause-refused c =
    let p = err_from_is_err_and c.from_residual-in_err-values.result c.from_residual-in_err-values.ensures.1 in
    let compilation = c.args.compilation.now in
    let overrides = c.args.overrides in
    let variables = c.in_ok-variables.variables in
    let error = c.in_err-values.field-0.0 in
    rw (p.1, p.2) (λ some all. setting variables c.in_ok-variables.ensures.variables
    (subst (λ ls. AreUnknown compilation ls variables.reads.items variables.orders.items overrides error) c.as_slice.ensures.value
    (subst (λ rs. AreUnknown compilation c.as_slice.result.now rs variables.orders.items overrides error) c.as_slice-2.ensures.value
    (subst (λ os. AreUnknown compilation c.as_slice.result.now c.as_slice-2.result.now os overrides error) c.as_slice-3.ensures.value (c.in_err-values.ensures.refused some)))))

pub returns-clause-refused : goal.returns-clause-refused
returns-clause-refused c =
    let compilation = c.args.compilation.now in
    let variables = c.in_ok-variables.variables in
    IfErr-weaker c.with_recipes.result (λ error. error ≢ OutOfMemory → AllByName compilation → IsTableRefused compilation variables.reads.items error)
    (λ error. error ≢ OutOfMemory → AllByName compilation → IsRefusedWith compilation c.args.overrides error)
    (λ error refused some all. recipe variables c.in_ok-variables.ensures.variables (refused some all))
    c.with_recipes.ensures.refused
