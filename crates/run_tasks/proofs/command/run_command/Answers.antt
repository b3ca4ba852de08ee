use Rattle.just_host.specs.KindsLaws.{line_asked}
use Rattle.run_tasks.proofs.command.run_command.Goals as goal

pub returns-clause-asks : goal.returns-clause-asks
returns-clause-asks g c = λ kinds work. line_asked kinds g.H.Host.goes g.met.H.Host.joins c.args.host.now c.line-status.new.self (work c.if-context.false) _ _ c.line-status.ensures.followed
