-- A row more, and the first expression that is refused.
use Rattle.std.proofs.Common.{◌+◌, ◌∙◌, ◌∷◌, [], ap, drop, sym}
use Rattle.std.proofs.lemmas.List.{map-append}
use Rattle.resolve_order.specs.Needs.{rows}
use Rattle.resolve_analysis.specs.Lists.{variables_in}
use Rattle.resolve_analysis.specs.Reads.{right_sides, rows_before, rows_of}
use Rattle.resolve_recipes.proofs.Resolving.{next_of}
use Rattle.resolve_analysis.proofs.Resolving.{row_goes, row_stops}
use Rattle.resolve_analysis.proofs.module_reads.read_variables.Goals as goal

pub returns-in-Err-clause-err : goal.returns-in-Err-clause-err
returns-in-Err-clause-err c some =
    let i = c.loop-lent.lent-index in
    row_stops c.args.resolver.now c.lent-item.result.assignment.now.value (right_sides (variables_in (drop (i + 1) c.args.assignments.now))) (rows c.loop-lent.graph.items) (rows c.args.graph.now.items) (rows_of c.args.resolver.now (right_sides (variables_in c.args.assignments.now))) _
    (c.in-Err.ensures.err some)
    (ap (λ ls. rows_before (rows c.loop-lent.graph.items) (rows_of c.args.resolver.now (right_sides (variables_in ls)))) (sym (next_of c.args.assignments.now i c.lent-item.result c.loop-lent-test.true c.lent-item.is)) ∙ c.loop-lent.invariant)

pub loop-lent-preserved : goal.loop-lent-preserved
loop-lent-preserved c =
    let i = c.loop-lent.lent-index in
    let rest = right_sides (variables_in (drop (i + 1) c.args.assignments.now)) in
    ap (λ vs. rows_before (rows vs) (rows_of c.args.resolver.now rest)) c.in_ok-push-in-Ok.ensures.items
    ∙ ap (λ rs. rows_before rs (rows_of c.args.resolver.now rest)) (map-append (λ row. row.items) c.loop-lent.graph.items (c.in-Ok.row ∷ []))
    ∙ row_goes c.args.resolver.now c.lent-item.result.assignment.now.value rest c.in-Ok.row.items (rows c.loop-lent.graph.items) c.in-Ok.ensures.ok
    ∙ ap (λ ls. rows_before (rows c.loop-lent.graph.items) (rows_of c.args.resolver.now (right_sides (variables_in ls)))) (sym (next_of c.args.assignments.now i c.lent-item.result c.loop-lent-test.true c.lent-item.is))
    ∙ c.loop-lent.invariant
