use Rattle.std.proofs.Common.{ap, refl}
use Rattle.std.proofs.lemmas.Result.{err_from_is_err_and}
use Rattle.just_host.specs.KindsLaws.{line_asked}
use Rattle.justfile_evaluator.specs.declared.body.Command.{Command}
use Rattle.laws_evaluation.proofs.Bodies.Performing.{performs_memory}
use Rattle.justfile_evaluator.specs.Turns.{handed}
use Rattle.justfile_evaluator.proofs.Lines.{hands_over}
use Rattle.justfile_evaluator.proofs.body.hand_over.Goals as goal

pub returns-in_err-job-clause-performs : goal.returns-in_err-job-clause-performs
returns-in_err-job-clause-performs g c = λ b h held marked.
    let e = err_from_is_err_and c.from_residual.result c.from_residual.ensures.1 in
    rw (e.1, e.2) (performs_memory b.reading (handed b c.args.progress.now.command) c.args.host.now)

pub returns-clause-asks : goal.returns-clause-asks
returns-clause-asks g c = λ kinds questions user work. line_asked kinds g.H.Host.goes g.met.H.Host.joins c.args.host.now c.line-status.new.self (work refl) _ _ c.line-status.ensures.followed

pub returns-clause-performs : goal.returns-clause-performs
returns-clause-performs g c = λ b h held marked.
    hands_over g.H.Host.goes b c.args.site.now h c.args.progress.now.command _ c.in_ok-job.job c.line-status.result c.args.host.now c.line-status.new.self c.judge.result (ap (λ (command : Command). command.sigils) c.in_ok-job.ensures.command) (c.in_ok-job.ensures.is held marked) c.line-status.ensures.followed c.judge.ensures.next
