-- The question is about the job.
use Rattle.std.proofs.Common.{ap}
use Rattle.just_host.specs.declared.host.Question.TheVariants.{Command}
use Rattle.evaluate_builtins.proofs.Asking.{never_asked, asked_same}
use Rattle.evaluate_builtins.proofs.command.command_output.Goals as goal

pub returns-in_err-job-clause-begun : goal.returns-in_err-job-clause-begun
returns-in_err-job-clause-begun g c = never_asked _ _

pub returns-in_err-answer-clause-begun : goal.returns-in_err-answer-clause-begun
returns-in_err-answer-clause-begun g c = asked_same _ (ap (λ job. Command job) c.in_ok-job.ensures) c.in_err-answer.ensures.begun

pub returns-clause-begun : goal.returns-clause-begun
returns-clause-begun g c = asked_same _ (ap (λ job. Command job) c.in_ok-job.ensures) c.in_ok-answer.ensures.begun
