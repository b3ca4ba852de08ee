-- A row more, and the first expression that is refused.
use Rattle.std.proofs.Common.{◌+◌, ◌∙◌, ◌∷◌, [], ap, drop, sym}
use Rattle.std.proofs.lemmas.List.{map-append}
use Rattle.resolve_order.specs.Needs.{rows}
use Rattle.resolve_analysis.specs.Lists.{functions_in}
use Rattle.resolve_analysis.specs.Reads.{bodies, rows_before, rows_of}
use Rattle.resolve_recipes.proofs.Resolving.{next_of}
use Rattle.resolve_analysis.proofs.Resolving.{row_goes, row_stops}
use Rattle.resolve_analysis.proofs.module_reads.read_functions.Goals as goal

pub returns-in-Err-clause-err : goal.returns-in-Err-clause-err
returns-in-Err-clause-err c some =
    let i = c.loop-lent.lent-index in
    row_stops c.args.resolver.now c.lent-item.result.definition.now.body (bodies (functions_in (drop (i + 1) c.args.functions.now))) (rows c.loop-lent.graph.items) (rows c.args.graph.now.items) (rows_of c.args.resolver.now (bodies (functions_in c.args.functions.now))) _
    (c.in-Err.ensures.err some)
    (ap (λ ls. rows_before (rows c.loop-lent.graph.items) (rows_of c.args.resolver.now (bodies (functions_in ls)))) (sym (next_of c.args.functions.now i c.lent-item.result c.loop-lent-test.true c.lent-item.is)) ∙ c.loop-lent.invariant)

pub loop-lent-preserved : goal.loop-lent-preserved
loop-lent-preserved c =
    let i = c.loop-lent.lent-index in
    let rest = bodies (functions_in (drop (i + 1) c.args.functions.now)) in
    ap (λ vs. rows_before (rows vs) (rows_of c.args.resolver.now rest)) c.in_ok-push-in-Ok.ensures.items
    ∙ ap (λ rs. rows_before rs (rows_of c.args.resolver.now rest)) (map-append (λ row. row.items) c.loop-lent.graph.items (c.in-Ok.row ∷ []))
    ∙ row_goes c.args.resolver.now c.lent-item.result.definition.now.body rest c.in-Ok.row.items (rows c.loop-lent.graph.items) c.in-Ok.ensures.ok
    ∙ ap (λ ls. rows_before (rows c.loop-lent.graph.items) (rows_of c.args.resolver.now (bodies (functions_in ls)))) (sym (next_of c.args.functions.now i c.lent-item.result c.loop-lent-test.true c.lent-item.is))
    ∙ c.loop-lent.invariant
