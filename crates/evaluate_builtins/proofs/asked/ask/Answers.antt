use Rattle.just_host.specs.KindsLaws.{question_asked}
use Rattle.evaluate_builtins.proofs.Asking.{may_ask}
use Rattle.evaluate_builtins.proofs.asked.ask.Goals as goal

pub returns-then-exhausted-clause-asks : goal.returns-then-exhausted-clause-asks
returns-then-exhausted-clause-asks g c = λ kinds has. question_asked kinds g.H.Host.goes g.met.H.Host.joins c.args.host.now c.ask-answer.new.self has _ _ c.ask-answer.ensures.followed

pub returns-then-exhausted-clause-begun : goal.returns-then-exhausted-clause-begun
returns-then-exhausted-clause-begun g c = may_ask g.H.Host.goes _ _ c.args.host.now c.ask-answer.new.self c.ask-answer.ensures.followed

pub returns-clause-asks : goal.returns-clause-asks
returns-clause-asks g c = λ kinds has. question_asked kinds g.H.Host.goes g.met.H.Host.joins c.args.host.now c.ask-answer.new.self has _ _ c.ask-answer.ensures.followed

pub returns-clause-begun : goal.returns-clause-begun
returns-clause-begun g c = may_ask g.H.Host.goes _ _ c.args.host.now c.ask-answer.new.self c.ask-answer.ensures.followed
