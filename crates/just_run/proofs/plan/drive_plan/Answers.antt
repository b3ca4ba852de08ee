use Rattle.std.proofs.Common.{rules, ◌≡◌, ◌++◌, refl, ap, subst, ◌∙◌, IfSome}
use Rattle.std.specs.String.{string_bytes}
use Rattle.just_host.specs.Follows.{Follows, questions}
use Rattle.just_host.specs.Steps.{idle}
use Rattle.run_plan.specs.Plans.{plan_text}
use Rattle.run_tasks.specs.declared.task.Task.TheVariants as tasks
use Rattle.just_run.proofs.Added.{every_run}
use Rattle.just_run.proofs.Ran.{all_asked, begun_from_nothing, from_nothing, plan_ends, sufficed_where}
use Rattle.just_run.proofs.plan.drive_plan.Goals as goal

pub returns-clause-planned : goal.returns-clause-planned
returns-clause-planned g c =
    let run = every_run _ c.new-planned.result c.perform_task-performed.new.host c.args.config.now.dry_run c.args.calls (λ a. (refl, idle g.H.Host.goes g.met.H.Host.nothing a.caller.now, tt)) c.perform_task-performed.ensures.asks in
    let step = run.followed in
    let begun = ap (λ r. r.host.caller.now) c.new-planned.ensures in
    let named = step.host.went.0 ∙ ap (λ r. r.host.caller.ghost_name) c.new-planned.ensures in
    let followed = subst (λ h. Follows g.H.Host.goes h (questions step.part) c.perform_task-performed.new.host.host.caller.now) begun step.host.went.1 in
    let grown = step.entries ∙ ap (λ r. r.entries ++ step.part) c.new-planned.ensures in
    record {
      entries = step.part;
      asked = search (rules, followed, named);
      written = c.write_plan.ensures.planned (plan_text step.part) c.ended.ensures.end (subst (λ l. IfSome c.text_of-text.result (λ text. string_bytes text ≡ plan_text l)) grown c.text_of-text.ensures.text);
    }

pub returns-clause-unfailed : goal.returns-clause-unfailed
returns-clause-unfailed g c = c.write_plan.ensures.unfailed c.ended.ensures.end

pub returns-clause-ends : goal.returns-clause-ends
returns-clause-ends g c =
    let run = every_run _ c.new-planned.result c.perform_task-performed.new.host c.args.config.now.dry_run c.args.calls (λ a. (refl, idle g.H.Host.goes g.met.H.Host.nothing a.caller.now, tt)) c.perform_task-performed.ensures.asks in
    let step = run.followed in
    let begun = ap (λ r. r.host.caller.now) c.new-planned.ensures in
    let named = step.host.went.0 ∙ ap (λ r. r.host.caller.ghost_name) c.new-planned.ensures in
    let followed = subst (λ h. Follows g.H.Host.goes h (questions step.part) c.perform_task-performed.new.host.host.caller.now) begun step.host.went.1 in
    let grown = step.entries ∙ ap (λ r. r.entries ++ step.part) c.new-planned.ensures in
    let start = ap (λ r. r.entries) c.new-planned.ensures in
    let text = subst (λ l. IfSome c.text_of-text.result (λ text. string_bytes text ≡ plan_text l)) grown c.text_of-text.ensures.text in
    record {
      entries = step.part;
      asked = search (rules, all_asked g.H.Host.goes c.args.host.now c.perform_task-performed.new.host.host.caller.now (questions step.part) followed, named);
      written = c.write_plan.ensures.planned (plan_text step.part) c.ended.ensures.end text;
      performed = c.perform_task-performed.result;
      ended = plan_ends c.text_of-text.result c.ended.result c.write_plan.result (tasks.Run c.args.calls) c.perform_task-performed.result c.perform_task-performed.new.host.exhausted _ c.ended.ensures.told (sufficed_where c.text_of-text.result c.text_of-text.ensures.sufficed) c.write_plan.ensures.sent
          (from_nothing c.args.compilation.now c.args.analysis.now c.args.config.now c.args.root.now (tasks.Run c.args.calls) c.perform_task-performed.new.host.exhausted c.perform_task-performed.result _ _ step.part start grown c.perform_task-performed.ensures.performs);
      begun = begun_from_nothing c.args.compilation.now c.args.analysis.now c.args.config.now c.args.root.now (tasks.Run c.args.calls) _ _ step.part start grown c.perform_task-performed.ensures.begun;
      answered = step.host.went.2;
    }
