use Rattle.std.proofs.Common.{◌∙◌, Err, ap, refl, subst}
use Rattle.std.proofs.lemmas.Result.{err_from_is_err_and}
use Rattle.just_run.specs.Sources.{broken, clear}
use Rattle.run_tasks.specs.Requested.Requests.{IsFor}
use Rattle.run_tasks.specs.Requested.Asked.{IsAskedFor}
use Rattle.run_tasks.specs.Requested.Words.{BreaksPlaced}
use Rattle.run_tasks.proofs.Requested.Asked.{asked_means}
use Rattle.just_run.proofs.Early.{late_are_unruled, planned_is_unruled}
use Rattle.run_tasks.specs.declared.request.Request.TheVariants as requests
use Rattle.just_run.proofs.Added.{for_task, questions_asked}
use Rattle.just_run.specs.Ran.{does, plans, tells}
use Rattle.just_run.proofs.RootTexts.{told_by}
use Rattle.just_run.proofs.driver.drive_analysis.Goals as goal

pub returns-in-Task-clause-asks : goal.returns-in-Task-clause-asks
returns-in-Task-clause-asks g c =
    let is : IsFor c.args.action (requests.Task c.in-Task.task) = rw c.in-Task.is at c.in_ok-request.ensures.is_for in
    for_task g.H.Host.goes c.args.host.now c.drive_task.new.host c.args.config.now.dry_run c.args.action c.in-Task.task is.2 c.drive_task.ensures.asks

pub returns-in-Plan-clause-asks : goal.returns-in-Plan-clause-asks
returns-in-Plan-clause-asks g c =
    let is : IsFor c.args.action (requests.Plan c.in-Plan.calls) = rw c.in-Plan.is at c.in_ok-request.ensures.is_for in
    rw is (questions_asked g.H.Host.goes g.met.H.Host.joins c.args.host.now c.drive_plan.new.host c.args.config.now.dry_run c.drive_plan.ensures.planned.entries c.drive_plan.ensures.planned.asked)

pub returns-in_err-request-clause-words : goal.returns-in_err-request-clause-words
returns-in_err-request-clause-words g c = λ same all.
    let p = err_from_is_err_and c.from_residual.result c.from_residual.ensures.1 in
    broken c.in_err-request.field-0.0 (p.1 ∙ ap Err p.2) (subst (λ words. BreaksPlaced c.args.compilation.now c.args.analysis.now words c.args.action c.in_err-request.field-0.0) c.as_slice-words.ensures (c.in_err-request.ensures.refused same all))

pub returns-in-Task-clause-words : goal.returns-in-Task-clause-words
returns-in-Task-clause-words g c = λ same all.
    let asked = (subst (λ words. IsAskedFor c.args.compilation.now c.args.analysis.now words c.args.action c.in_ok-request.request) c.as_slice-words.ensures (c.in_ok-request.ensures.meant same all)) in
    clear (asked_means c.args.compilation.now c.args.analysis.now c.args.words.now.arguments c.args.action c.in_ok-request.request asked)
    (late_are_unruled c.drive_task.result c.drive_task.ensures.late)
    (does c.in-Task.task (subst (IsAskedFor c.args.compilation.now c.args.analysis.now c.args.words.now.arguments c.args.action) c.in-Task.is asked) c.drive_task.ensures.ends c.drive_task.ensures.begun)

pub returns-in-Plan-clause-words : goal.returns-in-Plan-clause-words
returns-in-Plan-clause-words g c = λ same all.
    let asked = (subst (λ words. IsAskedFor c.args.compilation.now c.args.analysis.now words c.args.action c.in_ok-request.request) c.as_slice-words.ensures (c.in_ok-request.ensures.meant same all)) in
    clear (asked_means c.args.compilation.now c.args.analysis.now c.args.words.now.arguments c.args.action c.in_ok-request.request asked)
    (planned_is_unruled g.H.Host.goes c.args.host.now (g.O.Out.written c.args.out.now) c.drive_plan.result c.drive_plan.new.host (g.O.Out.written c.drive_plan.new.out) c.drive_plan.ensures.planned)
    (plans c.in-Plan.calls (subst (IsAskedFor c.args.compilation.now c.args.analysis.now c.args.words.now.arguments c.args.action) c.in-Plan.is asked) c.drive_plan.ensures.ends)

pub returns-in-Text-clause-words : goal.returns-in-Text-clause-words
returns-in-Text-clause-words g c = λ same all.
    let asked = (subst (λ words. IsAskedFor c.args.compilation.now c.args.analysis.now words c.args.action c.in_ok-request.request) c.as_slice-words.ensures (c.in_ok-request.ensures.meant same all)) in
    clear (asked_means c.args.compilation.now c.args.analysis.now c.args.words.now.arguments c.args.action c.in_ok-request.request asked)
    c.tell.ensures.unruled
    (tells c.in-Text.text (subst (IsAskedFor c.args.compilation.now c.args.analysis.now c.args.words.now.arguments c.args.action) c.in-Text.is asked) refl
    (told_by c.args.compilation.now c.args.config.now.os c.args.root.now c.in-Text.text (record { written = g.O.Out.written c.args.out.now; failed = g.O.Out.failed c.args.out.now }) c.tell.result (record { written = g.O.Out.written c.tell.new.out; failed = g.O.Out.failed c.tell.new.out })
    c.tell.ensures.listed c.tell.ensures.dumped (λ format. (c.tell.ensures.formatted format, c.tell.ensures.unwritten format))))
