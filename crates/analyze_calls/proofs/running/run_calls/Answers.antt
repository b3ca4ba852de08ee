use Rattle.std.proofs.Common.{◌∷◌, [], ◌∙◌, false, refl}
use Rattle.analyze_calls.specs.Calls.{rows}
use Rattle.analyze_calls.specs.Runs.Tallies.{tally_of}
use Rattle.analyze_calls.specs.Runs.Todo.{Calls}
use Rattle.analyze_calls.proofs.Runs.Turns.{run_uncut}
use Rattle.analyze_calls.proofs.Runs.Cutting.{run_begins, rest_here}
use Rattle.analyze_calls.proofs.running.run_calls.Goals as goal

pub returns-clause-goes : goal.returns-clause-goes
returns-clause-goes g c = run_uncut c.args.runner.now (rows c.args.calls.items) c.push.new.self c.in_ok-done.done c.args.host.now.entries c.run_stack.new.host.entries (tally_of c.args.tally.now) (tally_of c.run_stack.new.tally)
    c.run_stack.new.host.exhausted c.run_stack.result (c.in_ok-push.ensures ∙ (λ i. Calls false (rows (c.new.ensures i)) ∷ c.new-stack.ensures i)) c.in_ok-done.ensures c.run_stack.ensures.goes

pub returns-clause-begun : goal.returns-clause-begun
returns-clause-begun g c = run_begins c.args.runner.now (rows c.args.calls.items) c.push.new.self c.in_ok-done.done c.args.host.now.entries c.run_stack.new.host.entries (tally_of c.args.tally.now)
    (c.in_ok-push.ensures ∙ (λ i. Calls false (rows (c.new.ensures i)) ∷ c.new-stack.ensures i)) c.in_ok-done.ensures c.run_stack.ensures.begun

-- nothing was asked
pub returns-in_err-push-clause-begun : goal.returns-in_err-push-clause-begun
returns-in_err-push-clause-begun g c = run_begins c.args.runner.now (rows c.args.calls.items) (Calls false (rows c.args.calls.items) ∷ []) [] c.args.host.now.entries c.args.host.now.entries (tally_of c.args.tally.now) refl refl
    (rest_here c.args.runner.now (Calls false (rows c.args.calls.items) ∷ []) [] c.args.host.now.entries (tally_of c.args.tally.now))

pub returns-in_err-done-clause-begun : goal.returns-in_err-done-clause-begun
returns-in_err-done-clause-begun g c = run_begins c.args.runner.now (rows c.args.calls.items) (Calls false (rows c.args.calls.items) ∷ []) [] c.args.host.now.entries c.args.host.now.entries (tally_of c.args.tally.now) refl refl
    (rest_here c.args.runner.now (Calls false (rows c.args.calls.items) ∷ []) [] c.args.host.now.entries (tally_of c.args.tally.now))
