-- The rows of the variables, and behind them those of the functions.
use Rattle.std.proofs.Common.{ap, sym, ◌∙◌}
use Rattle.resolve_order.specs.Needs.{rows}
use Rattle.resolve_analysis.specs.Lists.{functions_in, variables_in}
use Rattle.resolve_analysis.specs.Reads.{bodies, right_sides, rows_before, rows_of}
use Rattle.resolve_analysis.proofs.Resolving.{first_refused, rows_resolved}
use Rattle.resolve_analysis.proofs.module_reads.graph_of.Goals as goal

pub returns-in-Err-clause-err : goal.returns-in-Err-clause-err
returns-in-Err-clause-err c some =
    first_refused c.args.resolver.now (right_sides (variables_in c.args.lists.now.assignments.items)) (bodies (functions_in c.args.lists.now.functions.items)) _
    (ap (λ list. rows_of c.args.resolver.now (right_sides (variables_in list))) (sym c.as_slice-assignments.ensures.value) ∙ c.in-Err.ensures.err some)

pub returns-in-Ok-clause-ok : goal.returns-in-Ok-clause-ok
returns-in-Ok-clause-ok c =
    rows_resolved c.args.resolver.now (right_sides (variables_in c.args.lists.now.assignments.items)) (bodies (functions_in c.args.lists.now.functions.items)) (rows c.new-graph.result.items) (rows c.read_variables.new.graph.items) (ap rows c.new-graph.ensures.items)
    (ap (λ list. rows_before (rows c.new-graph.result.items) (rows_of c.args.resolver.now (right_sides (variables_in list)))) (sym c.as_slice-assignments.ensures.value) ∙ c.in_default.ensures.ok)
    ∙ ap (λ list. rows_before (rows c.read_variables.new.graph.items) (rows_of c.args.resolver.now (bodies (functions_in list)))) (sym c.as_slice-functions.ensures.value)
    ∙ c.in-Ok.ensures.ok

pub returns-clause-err : goal.returns-clause-err
returns-clause-err c some =
    rows_resolved c.args.resolver.now (right_sides (variables_in c.args.lists.now.assignments.items)) (bodies (functions_in c.args.lists.now.functions.items)) (rows c.new-graph.result.items) (rows c.read_variables.new.graph.items) (ap rows c.new-graph.ensures.items)
    (ap (λ list. rows_before (rows c.new-graph.result.items) (rows_of c.args.resolver.now (right_sides (variables_in list)))) (sym c.as_slice-assignments.ensures.value) ∙ c.in_default.ensures.ok)
    ∙ ap (rows_before (rows c.read_variables.new.graph.items)) (ap (λ list. rows_of c.args.resolver.now (bodies (functions_in list))) (sym c.as_slice-functions.ensures.value) ∙ c.in-Err-read_functions.ensures.err some)
