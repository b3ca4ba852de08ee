-- The aliases of a module more, and the first that are refused.
use Rattle.std.proofs.Common.{◌<◌, ◌+◌, ◌-◌, ◌∙◌, arith, ◌∷◌, [], ap, length}
use Rattle.std.specs.List.{range_with_len}
use Rattle.std.proofs.lemmas.List.{map-append}
use Rattle.std.proofs.lemmas.Result.{err_from_is_err_and}
use Rattle.resolve_recipes.specs.Aliases as aliases
use Rattle.resolve_recipes.specs.Refusals.{told}
use Rattle.resolve_analysis.proofs.Ranges.{range_more}
use Rattle.just_resolve.specs.Gathered.{all_before, gathered}
use Rattle.just_resolve.specs.Table.{aliases_of, all_aliases, lists_in, module_aliases}
use Rattle.just_resolve.proofs.Gathering.{one_goes, one_stops}
use Rattle.just_resolve.proofs.Standing.{there}
use Rattle.just_resolve.proofs.recipe_table.all_aliases.Goals as goal

pub returns-in_err-resolved_aliases-clause-err : goal.returns-in_err-resolved_aliases-clause-err
returns-in_err-resolved_aliases-clause-err c =
    let p = err_from_is_err_and c.from_residual.result c.from_residual.ensures.1 in
    let compilation = c.args.compilation.now in
    let places = c.args.resolver.now.places.now in
    let ranks = c.args.ranks.now in
    let m = c.loop-module.module in
    let n = length compilation.modules.items in
    let lt : m < n = omega (arith, c.loop-module-test.true, ap length c.as_slice-modules.ensures.value) in
    let x = c.index-modules-module.result in
    let here = there compilation.modules.items c.as_slice-modules.result.now m x c.as_slice-modules.ensures.value c.loop-module-test.true c.index-modules-module.is in
    rw (p.1, p.2) (λ some all.
    one_stops (module_aliases compilation places ranks) m (range_with_len m (n - m)) (range_with_len (m + 1) (n - (m + 1))) (range_more m n lt)
    (lists_in c.loop-module.all.items) (all_aliases compilation places ranks) (told c.in_err-resolved_aliases.field-0.0)
    (ap (λ node. aliases.resolved_at compilation places ranks m (aliases_of node)) here ∙ c.in_err-resolved_aliases.ensures.err some all)
    (c.loop-module.invariant all))

pub loop-module-preserved : goal.loop-module-preserved
loop-module-preserved c all =
    let compilation = c.args.compilation.now in
    let places = c.args.resolver.now.places.now in
    let ranks = c.args.ranks.now in
    let of = module_aliases compilation places ranks in
    let m = c.loop-module.module in
    let n = length compilation.modules.items in
    let lt : m < n = omega (arith, c.loop-module-test.true, ap length c.as_slice-modules.ensures.value) in
    let rest = range_with_len (m + 1) (n - (m + 1)) in
    let row = c.in_ok-resolved_aliases.field-0 in
    let here = there compilation.modules.items c.as_slice-modules.result.now m c.index-modules-module.result c.as_slice-modules.ensures.value c.loop-module-test.true c.index-modules-module.is in
    ap (λ rows. all_before (lists_in rows) (gathered of rest)) c.in_ok-push.ensures.items
    ∙ ap (λ rows. all_before rows (gathered of rest)) (map-append (λ row. row.items) c.loop-module.all.items (row ∷ []))
    ∙ one_goes of m (range_with_len m (n - m)) rest (range_more m n lt) (lists_in c.loop-module.all.items) row.items
    (ap (λ node. aliases.resolved_at compilation places ranks m (aliases_of node)) here ∙ c.in_ok-resolved_aliases.ensures.ok all)
    ∙ c.loop-module.invariant all
