-- By a resolver of the recipes.
use Rattle.std.proofs.Common.{◌∙◌}
use Rattle.std.proofs.lemmas.Result.{IfErr-weaker, IfOk-weaker}
use Rattle.just_resolve.proofs.recipe_table.table_of_nodes.Goals as goal

pub returns-clause-ok : goal.returns-clause-ok
returns-clause-ok c =
    IfOk-weaker c.resolved_table.result _ _
    (λ table sorted all. record { resolver = _; resolves = record { counts = c.as_slice.ensures.value ∙ c.in_ok-counts.ensures; places = c.in_ok-places.ensures }; sorted = sorted all })
    c.resolved_table.ensures.ok

pub returns-clause-err : goal.returns-clause-err
returns-clause-err c =
    IfErr-weaker c.resolved_table.result _ _
    (λ error refused some all. record { resolver = _; resolves = record { counts = c.as_slice.ensures.value ∙ c.in_ok-counts.ensures; places = c.in_ok-places.ensures }; refused = refused some all })
    c.resolved_table.ensures.err
