-- The environment is the one that the definitions give.
use Rattle.std.proofs.lemmas.Result.{IfOk-weaker}
use Rattle.evaluate_context.proofs.Environments.{environment_in_context}
use Rattle.evaluate_context.proofs.context.ExecutionContext.job_environment.Goals as goal

pub returns : goal.returns
returns c = IfOk-weaker c.of.result _ _ (λ e given. environment_in_context c.args.self.now c.args.env.now c.args.scope.now e.pairs e.removed given) c.of.ensures
