use Rattle.std.proofs.Common.{inl}
use Rattle.std.proofs.lemmas.Result.{err_from_is_err_and}
use Rattle.analyze_calls.proofs.Runs.Cutting.{body_begins}
use Rattle.analyze_calls.specs.Calls.{row_of, rows}
use Rattle.analyze_calls.specs.Runs.Rest.{set_aside}
use Rattle.analyze_calls.specs.Runs.Cut.{parts_cut}
use Rattle.analyze_calls.specs.Entered.{entered_of}
use Rattle.analyze_calls.proofs.Runs.Weights as weights
use Rattle.analyze_calls.proofs.Runs.Weights.{behind}
use Rattle.analyze_calls.proofs.Runs.Turns.{alone, blocked, body_refused}
use Rattle.analyze_calls.proofs.running.turn_body.Goals as goal

pub returns-in_err-subsequents-clause-goes : goal.returns-in_err-subsequents-clause-goes
returns-in_err-subsequents-clause-goes g c = λ t.
    let p = err_from_is_err_and c.from_residual.result c.from_residual.ensures.1 in
    rw (p.1, p.2) (body_refused (parts_cut c.args.runner.now) (row_of c.args.call) c.args.entered.now.is_dependency (entered_of c.args.entered.now) c.args.stack.now c.args.done.now
    c.args.host.now.entries c.leave.new.host.entries t c.leave.new.host.exhausted c.in_err-subsequents.field-0.0 (Unit {0}) (λ k n. inl (c.in_err-subsequents.ensures.goes k n)))

pub returns-clause-nearer : goal.returns-clause-nearer
returns-clause-nearer g c = behind c.args.call c.args.entered.now.is_dependency (entered_of c.args.entered.now) (set_aside c.in_ok-subsequents.subsequents.are_shared c.args.done.now) c.in_ok-subsequents.subsequents.calls
    c.args.stack.now c.push_subsequents.new.stack c.in_ok-subsequents.ensures.below c.in_ok-push_subsequents.ensures.stack

pub returns-clause-goes : goal.returns-clause-goes
returns-clause-goes g c = λ t k. blocked (parts_cut c.args.runner.now) (row_of c.args.call) c.args.entered.now.is_dependency (entered_of c.args.entered.now) c.in_ok-subsequents.subsequents.are_shared
    (rows c.in_ok-subsequents.subsequents.calls) c.args.stack.now c.push_subsequents.new.stack c.args.done.now c.push_subsequents.new.done c.args.host.now.entries c.leave.new.host.entries t
    c.in_ok-subsequents.ensures.shared c.in_ok-push_subsequents.ensures.stack c.in_ok-push_subsequents.ensures.done (inl (c.in_ok-subsequents.ensures.goes k))

pub returns-in_err-subsequents-clause-said : goal.returns-in_err-subsequents-clause-said
returns-in_err-subsequents-clause-said g c =
    let p = err_from_is_err_and c.from_residual.result c.from_residual.ensures.1 in
    rw (p.1, p.2) c.in_err-subsequents.ensures.said

pub returns-in_err-subsequents-clause-begun : goal.returns-in_err-subsequents-clause-begun
returns-in_err-subsequents-clause-begun g c = λ t. body_begins c.args.runner.now (row_of c.args.call) c.args.entered.now.is_dependency (entered_of c.args.entered.now) c.args.stack.now c.args.done.now c.args.host.now.entries c.leave.new.host.entries t c.in_err-subsequents.ensures.begun

pub returns-in_err-push_subsequents-clause-begun : goal.returns-in_err-push_subsequents-clause-begun
returns-in_err-push_subsequents-clause-begun g c = λ t. body_begins c.args.runner.now (row_of c.args.call) c.args.entered.now.is_dependency (entered_of c.args.entered.now) c.args.stack.now c.args.done.now c.args.host.now.entries c.leave.new.host.entries t c.in_ok-subsequents.ensures.begun

pub returns-clause-begun : goal.returns-clause-begun
returns-clause-begun g c = λ t. body_begins c.args.runner.now (row_of c.args.call) c.args.entered.now.is_dependency (entered_of c.args.entered.now) c.args.stack.now c.args.done.now c.args.host.now.entries c.leave.new.host.entries t c.in_ok-subsequents.ensures.begun

-- nothing follows the body
pub returns-then-is_empty-clause-nearer : goal.returns-then-is_empty-clause-nearer
returns-then-is_empty-clause-nearer g c = weights.alone (row_of c.args.call) c.args.entered.now.is_dependency (entered_of c.args.entered.now) c.args.stack.now

pub returns-then-is_empty-clause-goes : goal.returns-then-is_empty-clause-goes
returns-then-is_empty-clause-goes g c = λ t k. alone (parts_cut c.args.runner.now) (row_of c.args.call) c.args.entered.now.is_dependency (entered_of c.args.entered.now) c.in_ok-subsequents.subsequents.calls
    c.args.stack.now c.args.done.now c.join.new.self c.args.host.now.entries c.leave.new.host.entries t
    (c.is_empty.ensures.0 c.if-is_empty.true) c.in_ok-join.ensures.joins (inl (c.in_ok-subsequents.ensures.goes k))

pub returns-in_err-join-clause-begun : goal.returns-in_err-join-clause-begun
returns-in_err-join-clause-begun g c = λ t. body_begins c.args.runner.now (row_of c.args.call) c.args.entered.now.is_dependency (entered_of c.args.entered.now) c.args.stack.now c.args.done.now c.args.host.now.entries c.leave.new.host.entries t c.in_ok-subsequents.ensures.begun

pub returns-then-is_empty-clause-begun : goal.returns-then-is_empty-clause-begun
returns-then-is_empty-clause-begun g c = λ t. body_begins c.args.runner.now (row_of c.args.call) c.args.entered.now.is_dependency (entered_of c.args.entered.now) c.args.stack.now c.args.done.now c.args.host.now.entries c.leave.new.host.entries t c.in_ok-subsequents.ensures.begun
