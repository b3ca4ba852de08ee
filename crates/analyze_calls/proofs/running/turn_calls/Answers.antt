use Rattle.std.proofs.Common.{◌∷◌, ◌<◌, ◌∙◌, inl, true, sym, ap, subst}
use Rattle.analyze_calls.proofs.Runs.Cutting.{call_begins, rest_here}
use Rattle.std.proofs.lemmas.Result.{err_from_is_err_and}
use Rattle.analyze_calls.specs.Calls.{row_of, rows}
use Rattle.analyze_calls.specs.Runs.Cut.{parts_cut}
use Rattle.analyze_calls.specs.Runs.Tallies.{entered_one, tally_of}
use Rattle.analyze_calls.specs.Entered.{entered_of}
use Rattle.analyze_calls.specs.Runs.Todo.{Calls, Body, before}
use Rattle.analyze_calls.specs.Runs.Weight.{weight}
use Rattle.analyze_calls.proofs.Runs.Weights as weights
use Rattle.analyze_calls.proofs.Runs.Turns.{emptied, passed, opened, refused}
use Rattle.analyze_calls.proofs.running.turn_calls.Goals as goal

pub returns-in_default-clause-goes : goal.returns-in_default-clause-goes
returns-in_default-clause-goes g c = λ k. emptied (parts_cut c.args.runner.now) c.args.are_dependencies c.args.pending c.args.stack.now c.args.done.now c.args.host.now.entries (tally_of c.args.tally.now) c.in_default.ensures

pub returns-then-has-clause-nearer : goal.returns-then-has-clause-nearer
returns-then-has-clause-nearer g c =
    subst (λ cs. weight c.push_calls.new.stack < weight (Calls c.args.are_dependencies (rows cs) ∷ c.args.stack.now)) (sym c.in-Some.ensures)
    (weights.passed (row_of c.in-Some.call) c.args.are_dependencies (rows c.next.new.self) c.args.stack.now c.push_calls.new.stack c.in_ok-push_calls.ensures)

pub returns-then-has-clause-goes : goal.returns-then-has-clause-goes
returns-then-has-clause-goes g c = λ k. passed (parts_cut c.args.runner.now) c.args.are_dependencies c.args.pending c.in-Some.call c.next.new.self c.args.stack.now c.push_calls.new.stack c.args.done.now
    c.args.host.now.entries c.args.tally.now c.meet.new.self c.in-Some.ensures c.in_ok-push_calls.ensures c.meet.ensures.met (sym c.if-has.ensures)

pub returns-in_err-entered-clause-goes : goal.returns-in_err-entered-clause-goes
returns-in_err-entered-clause-goes g c =
    let p = err_from_is_err_and c.from_residual-in_err-entered.result c.from_residual-in_err-entered.ensures.1 in
    rw (p.1, p.2) (refused (parts_cut c.args.runner.now) c.args.are_dependencies c.args.pending c.in-Some.call c.next.new.self c.args.stack.now c.args.done.now
    c.args.host.now.entries c.enter-2.new.host.entries c.args.tally.now c.enter.new.self c.enter-2.new.host.exhausted c.in_err-entered.field-0.0 (Unit {0})
    c.in-Some.ensures (c.enter.ensures.entered ∙ ap entered_one c.meet.ensures.met) (sym c.if-has.ensures) (λ k n. inl (c.in_err-entered.ensures.goes k n)))

pub returns-clause-nearer : goal.returns-clause-nearer
returns-clause-nearer g c =
    subst (λ cs. weight c.push_entered.new.stack < weight (Calls c.args.are_dependencies (rows cs) ∷ c.args.stack.now)) (sym c.in-Some.ensures)
    (weights.entered c.in-Some.call c.in_ok-entered.entered.value.is_dependency c.args.are_dependencies (entered_of c.in_ok-entered.entered.value) (rows c.next.new.self) c.in_ok-entered.priors
    c.args.stack.now c.push_calls.new.stack c.push_entered.new.stack c.in_ok-entered.ensures.below c.in_ok-push_calls.ensures c.in_ok-push_entered.ensures)

pub returns-clause-goes : goal.returns-clause-goes
returns-clause-goes g c = λ k. opened (parts_cut c.args.runner.now) c.args.are_dependencies c.args.pending c.in-Some.call c.next.new.self (rows c.in_ok-entered.priors) (entered_of c.in_ok-entered.entered.value)
    c.args.stack.now c.push_entered.new.stack c.args.done.now c.args.host.now.entries c.enter-2.new.host.entries c.args.tally.now c.enter.new.self c.in-Some.ensures
    (c.in_ok-push_entered.ensures ∙ (λ i. before true (rows c.in_ok-entered.priors) (Body (row_of c.in-Some.call) (c.in_ok-entered.ensures.flag i) (entered_of c.in_ok-entered.entered.value) ∷ c.in_ok-push_calls.ensures i)))
    (c.enter.ensures.entered ∙ ap entered_one c.meet.ensures.met) (sym c.if-has.ensures) (inl (c.in_ok-entered.ensures.goes k))

pub returns-in_err-entered-clause-told : goal.returns-in_err-entered-clause-told
returns-in_err-entered-clause-told g c =
    let p = err_from_is_err_and c.from_residual-in_err-entered.result c.from_residual-in_err-entered.ensures.1 in
    rw (p.1, p.2) c.in_err-entered.ensures.told

-- nothing was asked
pub returns-in_default-clause-begun : goal.returns-in_default-clause-begun
returns-in_default-clause-begun g c = rest_here c.args.runner.now (Calls c.args.are_dependencies (rows c.args.pending) ∷ c.args.stack.now) c.args.done.now c.args.host.now.entries (tally_of c.args.tally.now)

pub returns-in_err-push_calls-clause-begun : goal.returns-in_err-push_calls-clause-begun
returns-in_err-push_calls-clause-begun g c = rest_here c.args.runner.now (Calls c.args.are_dependencies (rows c.args.pending) ∷ c.args.stack.now) c.args.done.now c.args.host.now.entries (tally_of c.args.tally.now)

pub returns-then-has-clause-begun : goal.returns-then-has-clause-begun
returns-then-has-clause-begun g c = rest_here c.args.runner.now (Calls c.args.are_dependencies (rows c.args.pending) ∷ c.args.stack.now) c.args.done.now c.args.host.now.entries (tally_of c.args.tally.now)

-- the call began
pub returns-in_err-entered-clause-begun : goal.returns-in_err-entered-clause-begun
returns-in_err-entered-clause-begun g c = call_begins c.args.runner.now c.args.are_dependencies (rows c.args.pending) (row_of c.in-Some.call) (rows c.next.new.self) c.args.stack.now c.args.done.now c.args.host.now.entries c.enter-2.new.host.entries (tally_of c.args.tally.now)
    (ap rows c.in-Some.ensures) (sym c.if-has.ensures) c.in_err-entered.ensures.begun

pub returns-in_err-push_entered-clause-begun : goal.returns-in_err-push_entered-clause-begun
returns-in_err-push_entered-clause-begun g c = call_begins c.args.runner.now c.args.are_dependencies (rows c.args.pending) (row_of c.in-Some.call) (rows c.next.new.self) c.args.stack.now c.args.done.now c.args.host.now.entries c.enter-2.new.host.entries (tally_of c.args.tally.now)
    (ap rows c.in-Some.ensures) (sym c.if-has.ensures) c.in_ok-entered.ensures.begun

pub returns-clause-begun : goal.returns-clause-begun
returns-clause-begun g c = call_begins c.args.runner.now c.args.are_dependencies (rows c.args.pending) (row_of c.in-Some.call) (rows c.next.new.self) c.args.stack.now c.args.done.now c.args.host.now.entries c.enter-2.new.host.entries (tally_of c.args.tally.now)
    (ap rows c.in-Some.ensures) (sym c.if-has.ensures) c.in_ok-entered.ensures.begun
