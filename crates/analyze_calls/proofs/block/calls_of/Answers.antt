use Rattle.std.proofs.Common.{rules, ◌≡◌, map}
use Rattle.std.proofs.lemmas.Result.{err_from_is_err_and}
use Rattle.evaluate_expressions.specs.Situations.{reading_at, stage_at}
use Rattle.analyze_calls.specs.Blocks.{brings, call_with, rows_of}
use Rattle.analyze_calls.specs.Brought.{brought_rows}
use Rattle.analyze_calls.proofs.Blocks.{brings_calls, brings_fault, brings_memory}
use Rattle.analyze_calls.proofs.block.calls_of.Goals as goal

pub returns-in_err-values-clause-evaluates : goal.returns-in_err-values-clause-evaluates
returns-in_err-values-clause-evaluates g c =
    let p = err_from_is_err_and c.from_residual.result c.from_residual.ensures.1 in
    rw (p.1, p.2) (brings_fault (reading_at c.args.evaluator.now) (stage_at c.args.evaluator.now) c.args.callee.place c.args.written.now c.args.callee.parameters.now c.args.host.now.entries c.arguments.new.host.entries _ c.in_err-values.ensures.evaluates)

pub returns-in_err-calls-clause-evaluates : goal.returns-in_err-calls-clause-evaluates
returns-in_err-calls-clause-evaluates g c =
    let p = err_from_is_err_and c.from_residual-in_err-calls.result c.from_residual-in_err-calls.ensures.1 in
    rw (p.1, p.2) (brings_memory (reading_at c.args.evaluator.now) (stage_at c.args.evaluator.now) c.args.callee.place c.args.written.now c.args.callee.parameters.now c.args.host.now.entries c.arguments.new.host.entries _ c.in_ok-values.ensures.evaluates)

pub returns-clause-evaluates : goal.returns-clause-evaluates
returns-clause-evaluates g c =
    let is : brought_rows c.in_ok-calls.calls ≡ map (call_with c.args.callee.place c.args.callee.parameters.now) (rows_of c.args.written.now c.in_ok-values.values.items) = search rules in
    brings_calls (reading_at c.args.evaluator.now) (stage_at c.args.evaluator.now) c.args.callee.place c.args.written.now c.args.callee.parameters.now c.args.host.now.entries c.arguments.new.host.entries c.in_ok-values.values.items _ c.in_ok-values.ensures.evaluates is
