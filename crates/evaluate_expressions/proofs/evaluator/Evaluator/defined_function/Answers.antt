use Rattle.evaluate_expressions.proofs.Named.{found_defined}
use Rattle.evaluate_expressions.proofs.evaluator.Evaluator.defined_function.Goals as goal

pub returns-in-Run : goal.returns-in-Run
returns-in-Run c = rw c.in-Run.is (found_defined c.args.name.now c.in-Run.context.now.module.now.functions.now c.find_function.result c.find_function.ensures.first)
