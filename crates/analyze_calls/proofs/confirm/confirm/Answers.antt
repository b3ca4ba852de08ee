use Rattle.std.proofs.Common.{rules, ◌≡◌, None, Ok, Some}
use Rattle.tree_attributes.specs.declared.attribute.AttributeKind.TheVariants.{Confirm}
use Rattle.evaluate_expressions.specs.Situations.{reading_at, stage_at}
use Rattle.justfile_evaluator.specs.Sites.{attribute_in}
use Rattle.laws_evaluation.proofs.Bodies.Performing.{performs_ends}
use Rattle.analyze_calls.specs.Confirming.{prompt_in}
use Rattle.analyze_calls.proofs.confirm.confirm.Goals as goal

pub returns-in-Some-None-clause-performs : goal.returns-in-Some-None-clause-performs
returns-in-Some-None-clause-performs g c =
    let e : prompt_in (attribute_in Confirm c.args.recipe.now.attributes) ≡ Some None = search rules in
    rw e (c.ask_usual.ensures.performs (reading_at c.args.evaluator.now) (stage_at c.args.evaluator.now))

pub returns-in-None-clause-performs : goal.returns-in-None-clause-performs
returns-in-None-clause-performs g c =
    let e : prompt_in (attribute_in Confirm c.args.recipe.now.attributes) ≡ None = search rules in
    rw e (performs_ends (reading_at c.args.evaluator.now) c.args.host.now (Ok tt))
