use Rattle.just_run.proofs.Failed.{sent_fails}
use Rattle.just_run.proofs.Planned.{sent_is_written}
use Rattle.just_run.proofs.Ran.{was_sent}
use Rattle.just_run.proofs.plan.write_plan.Goals as goal

pub returns-clause-planned : goal.returns-clause-planned
returns-clause-planned g c = λ plan ended sent. rw c.and.ensures (sent_is_written (g.O.Out.written c.args.out.now) plan c.send-sent.result c.args.ended (g.O.Out.written c.send-sent.new.out) ended (c.send-sent.ensures.sent plan sent))

pub returns-clause-unfailed : goal.returns-clause-unfailed
returns-clause-unfailed g c = λ ended. rw c.and.ensures (sent_fails (g.O.Out.failed c.args.out.now) c.send-sent.result c.args.ended (g.O.Out.failed c.send-sent.new.out) ended c.send-sent.ensures.unfailed)

pub returns-clause-sent : goal.returns-clause-sent
returns-clause-sent g c = rw c.and.ensures (was_sent c.args.text c.send-sent.result c.args.ended c.send-sent.ensures.there c.send-sent.ensures.failed)
