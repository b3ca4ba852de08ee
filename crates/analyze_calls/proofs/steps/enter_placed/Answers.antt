use Rattle.std.proofs.Common.{◌≡◌, List, rules, ap, ◌∙◌}
use Rattle.std.specs.Global.{Box}
use Rattle.std.proofs.lemmas.Result.{err_from_is_err_and}
use Rattle.analyze_calls.specs.Calls.{row_of, rows}
use Rattle.analyze_calls.specs.Runs.Steps.{begun}
use Rattle.analyze_calls.specs.Entered.{entered_of}
use Rattle.analyze_calls.specs.declared.call.Call.{Call}
use Rattle.analyze_calls.specs.declared.enter.Entered.{Entered}
use Rattle.analyze_calls.proofs.Runs.Beginnings.{unbound_at, headless_at, begins_at}
use Rattle.analyze_calls.proofs.Runs.Begun.{head_begun, unbound_begun}
use Rattle.analyze_calls.proofs.steps.enter_placed.Goals as goal

pub returns-in_err-entered-clause-goes : goal.returns-in_err-entered-clause-goes
returns-in_err-entered-clause-goes g c =
    let p = err_from_is_err_and c.from_residual.result c.from_residual.ensures.1 in
    let is : c.as_slice-groups.result.now ≡ c.args.call.now.groups.items = search rules in
    rw (p.1, p.2) (unbound_at c.args.runner.now c.args.placed.now.planned.now c.args.placed.now.context.now (row_of c.args.call.now) c.args.is_dependency c.as_slice-groups.result.now is
    (λ (r : Box Entered × List Call). begun (r.0.value, r.1)) c.args.host.now.entries c.boxed.new.host.entries c.boxed.new.host.exhausted c.in_err-entered.field-0.0 (λ k n. c.in_err-entered.ensures.binds))

pub returns-in_err-priors-clause-goes : goal.returns-in_err-priors-clause-goes
returns-in_err-priors-clause-goes g c =
    let p = err_from_is_err_and c.from_residual-in_err-priors.result c.from_residual-in_err-priors.ensures.1 in
    let is : c.as_slice-groups.result.now ≡ c.args.call.now.groups.items = search rules in
    rw (p.1, p.2) (headless_at c.args.runner.now c.args.placed.now.planned.now c.args.placed.now.context.now (row_of c.args.call.now) c.args.is_dependency c.as_slice-groups.result.now is
    c.deref.result.now.is_dependency (entered_of c.in_ok-entered.entered.value) (entered_of c.deref.result.now) c.args.host.now.entries c.boxed.new.host.entries c.priors.new.host.entries
    (ap (λ e. e.is_dependency) c.deref.ensures ∙ c.in_ok-entered.ensures.flag) (ap entered_of c.deref.ensures)
    (λ (r : Box Entered × List Call). begun (r.0.value, r.1)) c.priors.new.host.exhausted c.in_err-priors.field-0.0
    (λ k. c.in_ok-entered.ensures.binds) c.in_err-priors.ensures.heads)

pub returns-clause-goes : goal.returns-clause-goes
returns-clause-goes g c =
    let is : c.as_slice-groups.result.now ≡ c.args.call.now.groups.items = search rules in
    λ k. begins_at c.args.runner.now c.args.placed.now.planned.now c.args.placed.now.context.now (row_of c.args.call.now) c.args.is_dependency c.as_slice-groups.result.now is
    c.deref.result.now.is_dependency (entered_of c.in_ok-entered.entered.value) (entered_of c.deref.result.now) c.args.host.now.entries c.boxed.new.host.entries c.priors.new.host.entries
    (ap (λ e. e.is_dependency) c.deref.ensures ∙ c.in_ok-entered.ensures.flag) (ap entered_of c.deref.ensures) (rows c.in_ok-priors.priors)
    c.in_ok-entered.ensures.binds (c.in_ok-priors.ensures.heads k)

pub returns-in_err-entered-clause-told : goal.returns-in_err-entered-clause-told
returns-in_err-entered-clause-told g c =
    let p = err_from_is_err_and c.from_residual.result c.from_residual.ensures.1 in
    rw (p.1, p.2) c.in_err-entered.ensures.told

pub returns-in_err-priors-clause-told : goal.returns-in_err-priors-clause-told
returns-in_err-priors-clause-told g c =
    let p = err_from_is_err_and c.from_residual-in_err-priors.result c.from_residual-in_err-priors.ensures.1 in
    rw (p.1, p.2) c.in_err-priors.ensures.told

-- a step that was cut, or one that could not be bound
pub returns-in_err-entered-clause-begun : goal.returns-in_err-entered-clause-begun
returns-in_err-entered-clause-begun g c = λ there.
    let is : c.as_slice-groups.result.now ≡ c.args.call.now.groups.items = search rules in
    unbound_begun c.args.runner.now c.args.placed.now.planned.now c.args.placed.now.context.now (row_of c.args.call.now) c.args.is_dependency there c.as_slice-groups.result.now is c.args.host.now.entries c.boxed.new.host.entries _ c.in_err-entered.ensures.binds

pub returns-in_err-priors-clause-begun : goal.returns-in_err-priors-clause-begun
returns-in_err-priors-clause-begun g c = λ there.
    let is : c.as_slice-groups.result.now ≡ c.args.call.now.groups.items = search rules in
    head_begun c.args.runner.now c.args.placed.now.planned.now c.args.placed.now.context.now (row_of c.args.call.now) c.args.is_dependency there c.as_slice-groups.result.now is
    c.deref.result.now.is_dependency (entered_of c.in_ok-entered.entered.value) (entered_of c.deref.result.now) c.args.host.now.entries c.boxed.new.host.entries c.priors.new.host.entries
    (ap (λ e. e.is_dependency) c.deref.ensures ∙ c.in_ok-entered.ensures.flag) (ap entered_of c.deref.ensures) c.in_ok-entered.ensures.binds c.in_err-priors.ensures.begun

pub returns-clause-begun : goal.returns-clause-begun
returns-clause-begun g c = λ there.
    let is : c.as_slice-groups.result.now ≡ c.args.call.now.groups.items = search rules in
    head_begun c.args.runner.now c.args.placed.now.planned.now c.args.placed.now.context.now (row_of c.args.call.now) c.args.is_dependency there c.as_slice-groups.result.now is
    c.deref.result.now.is_dependency (entered_of c.in_ok-entered.entered.value) (entered_of c.deref.result.now) c.args.host.now.entries c.boxed.new.host.entries c.priors.new.host.entries
    (ap (λ e. e.is_dependency) c.deref.ensures ∙ c.in_ok-entered.ensures.flag) (ap entered_of c.deref.ensures) c.in_ok-entered.ensures.binds c.in_ok-priors.ensures.begun
