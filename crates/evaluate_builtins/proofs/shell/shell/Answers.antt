-- The question is about the first argument, with all of them after it.
use Rattle.std.proofs.Common.{map, ap, ◌∙◌}
use Rattle.std.specs.String.{string_bytes}
use Rattle.evaluate_builtins.proofs.Shells.{shell_begins, shell_runs, shell_unrun}
use Rattle.evaluate_context.specs.Surroundings.{surroundings_of}
use Rattle.evaluate_builtins.specs.Builtins.{shell_dialogue}
use Rattle.evaluate_builtins.specs.Sites.{standing_of}
use Rattle.evaluate_builtins.proofs.Asking.{not_asked_goes}
use Rattle.evaluate_builtins.proofs.shell.shell.Goals as goal

pub returns-clause-evaluates : goal.returns-clause-evaluates
returns-clause-evaluates g c name reading =
    shell_runs name c.args.site.now c.args.arguments.now c.text_at-command.result.now (map string_bytes c.as_slice.result.now) c.if-site.false c.text_at-command.ensures
    (ap (map string_bytes) c.as_slice.ensures.value ∙ c.in_ok-words.ensures) c.in_ok-answer.ensures.answered (c.text_answer.ensures name)

pub returns-in_err-answer-clause-evaluates : goal.returns-in_err-answer-clause-evaluates
returns-in_err-answer-clause-evaluates g c name reading =
    shell_begins name c.args.site.now c.args.arguments.now c.text_at-command.result.now (map string_bytes c.as_slice.result.now) _ c.if-site.false c.text_at-command.ensures
    (ap (map string_bytes) c.as_slice.ensures.value ∙ c.in_ok-words.ensures) c.from_residual-in_err-answer.ensures c.in_err-answer.ensures.begun

pub returns-in_err-unrun-clause-evaluates : goal.returns-in_err-unrun-clause-evaluates
returns-in_err-unrun-clause-evaluates g c name reading = not_asked_goes name (shell_dialogue name (surroundings_of c.args.site.now.context.now) (standing_of c.args.site.now) c.args.arguments.now c.args.site.now.context.now.config.now.dry_run) c.args.host.now.entries _ c.from_residual.ensures

pub returns-in_err-words-clause-evaluates : goal.returns-in_err-words-clause-evaluates
returns-in_err-words-clause-evaluates g c name reading = not_asked_goes name (shell_dialogue name (surroundings_of c.args.site.now.context.now) (standing_of c.args.site.now) c.args.arguments.now c.args.site.now.context.now.config.now.dry_run) c.args.host.now.entries _ c.from_residual-in_err-words.ensures

pub returns-then-site-clause-evaluates : goal.returns-then-site-clause-evaluates
returns-then-site-clause-evaluates g c name reading = shell_unrun name c.args.site.now c.args.arguments.now _ c.if-site.true c.in_ok-unrun.ensures
