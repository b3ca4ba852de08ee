-- What recipes read, or aliases, are refused.
use Rattle.std.proofs.Common.{◌≡◌, ◌≢◌, Err, ap, map, subst, ◌∙◌}
use Rattle.std.proofs.lemmas.Result.{IfErr-weaker, err_from_is_err_and}
use Rattle.resolve_order.specs.Needs.{rows}
use Rattle.resolve_recipes.specs.Named.{AllByName}
use Rattle.resolve_recipes.specs.Nodes.{view}
use Rattle.just_resolve.specs.Faults.{reading_error}
use Rattle.just_resolve.specs.Recipes.{resolved_in}
use Rattle.just_resolve.specs.Table.{IsAliasRefused, IsRefusedIn, alias, reading}
use Rattle.just_resolve.specs.declared.error.Error.TheVariants.{OutOfMemory}
use Rattle.just_resolve.proofs.recipe_table.table_in_order.Goals as goal

pub returns-in_err-recipes-clause-err : goal.returns-in_err-recipes-clause-err
returns-in_err-recipes-clause-err c =
    let p = err_from_is_err_and c.from_residual-in_err-recipes.result c.from_residual-in_err-recipes.ensures.1 in
    rw p.1 (λ some all. reading c.in_ok-ranks.ranks.items c.in_err-recipes.field-0.0 c.in_ok-ranks.ensures
    (subst (λ rs. resolved_in (map view c.args.nodes.now) c.args.reads.now (rows c.args.needs.now) rs c.args.order.now ≡ Err c.in_err-recipes.field-0.0) c.deref.ensures.value (c.in_err-recipes.ensures.err (λ e. some (p.2 ∙ ap reading_error e))))
    p.2)

pub returns-clause-err : goal.returns-clause-err
returns-clause-err c =
    let compilation = c.args.compilation.now in
    let resolver = c.args.resolver.now in
    let ranks = c.in_ok-ranks.ranks.items in
    IfErr-weaker c.table_of.result (λ error. error ≢ OutOfMemory → AllByName compilation → IsAliasRefused compilation resolver c.as_slice.result.now error)
    (λ error. error ≢ OutOfMemory → AllByName compilation → IsRefusedIn compilation resolver (map view c.args.nodes.now) c.args.reads.now (rows c.args.needs.now) c.args.order.now error)
    (λ error refused some all. alias ranks c.in_ok-ranks.ensures (subst (λ rs. IsAliasRefused compilation resolver rs error) c.as_slice.ensures.value (refused some all)))
    c.table_of.ensures.err
