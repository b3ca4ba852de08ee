-- The row of the module has more.
use Rattle.std.proofs.Common.{◌<◌, ◌≤◌, ◌++◌, ◌∙◌, ap, get_or, length, arith}
use Rattle.resolve_analysis.proofs.Rows.{row_past, row_put}
use Rattle.resolve_analysis.proofs.opening.add_reads.Goals as goal

pub returns-then-module-rows : goal.returns-then-module-rows
returns-then-module-rows c home =
    let past : length c.args.rows.now ≤ c.args.recipe.now.module = omega arith in
    row_past c.args.rows.now c.args.recipe.now.module c.args.recipe.now.reads.items home past

pub returns : goal.returns
returns c home =
    let there : c.args.recipe.now.module < length c.args.rows.now = omega arith in
    row_put c.args.rows.now c.args.recipe.now.module c.index-rows-module.result c.extend_from_slice.new.self c.args.recipe.now.reads.items home there
    (c.in_ok-extend_from_slice.ensures.items ∙ ap (λ more. (get_or c.args.rows.now c.args.recipe.now.module c.index-rows-module.result).items ++ more) c.as_slice.ensures.value)
