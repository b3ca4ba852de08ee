use Rattle.std.proofs.Common.{◌≡◌, rules}
use Rattle.evaluate_expressions.specs.Situations.{reading_at, stage_at}
use Rattle.meaning_evaluation.proofs.Parameters.Pairs.{attribute_env, attribute_other}
use Rattle.evaluate_variables.specs.Given.{reading_for, stage_for}
use Rattle.evaluate_variables.proofs.parameters.attribute_pair.Goals as goal

pub returns-clause-evaluates : goal.returns-clause-evaluates
returns-clause-evaluates g c =
    let evaluator = c.evaluator-evaluator.result in
    let same : c.deref.result.now ≡ c.in-Env.value.value = search rules in
    rw (← c.evaluator-evaluator.ensures.reading, ← c.evaluator-evaluator.ensures.stage)
    (attribute_env (reading_at evaluator) (stage_at evaluator) c.args.item.now.attribute c.in-Env.key c.in-Env.value _ _ _ c.in-Env.is (rw same at c.env_pair.ensures.evaluates))

pub returns-in_default-clause-evaluates : goal.returns-in_default-clause-evaluates
returns-in_default-clause-evaluates g c =
    attribute_other (reading_for c.args.site.now c.args.scope.now) (stage_for c.args.site.now c.args.env.now c.args.scope.now) c.args.item.now.attribute c.args.host.now.entries c.in_default.not-Env
