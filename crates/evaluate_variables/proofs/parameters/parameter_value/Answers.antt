use Rattle.std.proofs.Common.{rules, ◌≡◌, ◌≢◌, []}
use Rattle.just_text.specs.Tokens.{lexeme}
use Rattle.meaning_evaluation.specs.Stages.Parameters.{formal_of}
use Rattle.evaluate_context.specs.Refusals.{seen}
use Rattle.evaluate_variables.proofs.Given.{parameter_none, parameter_some}
use Rattle.evaluate_variables.proofs.parameters.parameter_value.Goals as goal

pub returns-then-is_empty-clause-evaluates : goal.returns-then-is_empty-clause-evaluates
returns-then-is_empty-clause-evaluates g c =
    let site = c.args.site.now in
    let empty : c.args.group.now ≡ [] = search rules in
    parameter_none c.evaluator-evaluator.ensures.reading c.evaluator-evaluator.ensures.stage site.is_dependency (lexeme site.recipe.token) (formal_of c.args.parameter.now) c.args.host.now.entries c.default_value.new.host.entries (seen c.default_value.result) c.args.group.now empty c.default_value.ensures.evaluates

pub returns-clause-evaluates : goal.returns-clause-evaluates
returns-clause-evaluates g c =
    let site = c.args.site.now in
    let filled : c.args.group.now ≢ [] = search rules in
    parameter_some c.evaluator-evaluator.ensures.reading c.evaluator-evaluator.ensures.stage site.is_dependency (lexeme site.recipe.token) (formal_of c.args.parameter.now) c.args.host.now.entries c.given_value.new.host.entries (seen c.given_value.result) c.args.group.now filled c.given_value.ensures.evaluates
