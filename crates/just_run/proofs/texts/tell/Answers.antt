use Rattle.just_run.proofs.Failed.{answer_fails}
use Rattle.just_run.proofs.texts.tell.Goals as goal

pub returns-in-Format-clause-unfailed : goal.returns-in-Format-clause-unfailed
returns-in-Format-clause-unfailed g c = answer_fails (g.O.Out.failed c.args.out.now) c.answer.result c.answer.ensures.no_write
