-- The environment is asked for a variable.
use Rattle.std.proofs.Common.{rules, ◌≡◌, List, Result, Option, ℕ, subst}
use Rattle.just_host.specs.declared.host.HostFault.{HostFault}
use Rattle.just_host.specs.declared.host.Question.{Question}
use Rattle.just_host.specs.declared.host.Question.TheVariants.{Environment}
use Rattle.meaning_dialogues.specs.Answers.{IsAnswered, optional_in}
use Rattle.evaluate_builtins.proofs.Asking.{asked_without_memory}
use Rattle.evaluate_builtins.proofs.Variables.{asked_for}
use Rattle.evaluate_builtins.proofs.variable.in_environment.Goals as goal

pub returns-in_err-answer-clause-leads : goal.returns-in_err-answer-clause-leads
returns-in_err-answer-clause-leads g c = asked_without_memory c.args.name.now _ c.args.host.now.entries c.ask_optional.new.host.entries _ c.from_residual-in_err-answer.ensures (search rules) c.in_err-answer.ensures.begun

pub returns-clause-leads : goal.returns-clause-leads
returns-clause-leads g c =
    asked_for c.args.name.now c.args.host.now.entries c.ask_optional.new.host.entries c.in_ok-answer.answer c.found.result (search rules) c.found.ensures
