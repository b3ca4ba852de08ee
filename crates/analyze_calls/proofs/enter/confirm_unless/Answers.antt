use Rattle.std.proofs.Common.{rules, ◌≡◌, Ok, true}
use Rattle.evaluate_expressions.specs.Situations.{reading_at}
use Rattle.laws_evaluation.proofs.Bodies.Performing.{performs_ends}
use Rattle.analyze_calls.proofs.enter.confirm_unless.Goals as goal

pub returns-then-config-clause-performs : goal.returns-then-config-clause-performs
returns-then-config-clause-performs g c =
    let yes : c.args.config.now.yes ≡ true = search rules in
    rw yes (performs_ends (reading_at c.args.evaluator.now) c.args.host.now (Ok tt))
