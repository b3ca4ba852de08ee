use Rattle.evaluate_expressions.specs.Situations.{reading_at, stage_at}
use Rattle.analyze_calls.specs.Placed.{placed_in}
use Rattle.analyze_calls.proofs.Blocks.{brings_found, brings_none}
use Rattle.analyze_calls.proofs.block.calls_at.Goals as goal

pub returns-in-Some-clause-evaluates : goal.returns-in-Some-clause-evaluates
returns-in-Some-clause-evaluates g c =
    rw (brings_found (reading_at c.args.evaluator.now) (stage_at c.args.evaluator.now) c.args.place c.args.written.now (placed_in c.args.runner.now c.args.place) c.in-Some.callee.parameters.now c.in-Some.ensures.parameters, ← c.in-Some.ensures.place) c.calls_of.ensures.evaluates

pub returns-in-None-clause-evaluates : goal.returns-in-None-clause-evaluates
returns-in-None-clause-evaluates g c =
    brings_none (reading_at c.args.evaluator.now) (stage_at c.args.evaluator.now) c.args.place c.args.written.now (placed_in c.args.runner.now c.args.place) _ c.args.host.now.entries c.in-None.ensures.parameters c.internal.ensures
