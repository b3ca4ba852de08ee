use Rattle.std.proofs.Common.{sym}
use Rattle.laws_evaluation.proofs.Bodies.Body.{body_script, body_lines}
use Rattle.justfile_evaluator.proofs.body.run_body.Goals as goal

pub returns-then-site-clause-performs : goal.returns-then-site-clause-performs
returns-then-site-clause-performs g c = λ b h.
    body_script b.configuration b.scene b.name b.recipe b.flag b.bound b.reading _ _ _ c.args.site.now.manner.is_script h.site.recipe.is_script c.if-site.true (c.run_script.ensures.performs b h)

pub returns-clause-performs : goal.returns-clause-performs
returns-clause-performs g c = λ b h.
    body_lines b.configuration b.scene b.name b.recipe b.flag b.bound b.reading _ _ _ c.args.site.now.manner.is_script h.site.recipe.is_script c.if-site.false (c.run_lines.ensures.performs b h)
