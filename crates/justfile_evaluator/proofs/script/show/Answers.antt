use Rattle.just_host.specs.KindsLaws.{shown_asked}
use Rattle.justfile_evaluator.proofs.script.show.Goals as goal

pub returns-clause-asks : goal.returns-clause-asks
returns-clause-asks g c = λ kinds questions user work. shown_asked kinds g.H.Host.goes g.met.H.Host.joins c.args.host.now c.show.new.self user _ c.show.ensures.followed
