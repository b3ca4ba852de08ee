use Rattle.std.proofs.Common.{sym, refl}
use Rattle.analyze_calls.specs.Calls.{row_of}
use Rattle.analyze_calls.specs.Runs.Steps.{Begins, BeginsAt, begun, here, nowhere}
use Rattle.meaning_dialogues.specs.Faults.{memory}
use Rattle.meaning_runs.specs.Failures.{evaluation}
use Rattle.analyze_calls.proofs.Runs.Beginnings.{given_as}
use Rattle.analyze_calls.proofs.Runs.Begun.{lost_begun}
use Rattle.analyze_calls.proofs.steps.enter.Goals as goal

pub returns-in_default-clause-goes : goal.returns-in_default-clause-goes
returns-in_default-clause-goes g c = λ k n. nowhere (sym c.in_default.ensures) refl refl

pub returns-clause-goes : goal.returns-clause-goes
returns-clause-goes g c =
    given_as (λ r. begun (r.0.value, r.1)) c.enter_placed.new.host.exhausted c.enter_placed.result
    (BeginsAt c.args.runner.now c.in-Some.placed.planned.now c.in-Some.placed.context.now (row_of c.args.call.now) c.args.is_dependency c.args.host.now.entries c.enter_placed.new.host.entries)
    (Begins c.args.runner.now (row_of c.args.call.now) c.args.is_dependency c.args.host.now.entries c.enter_placed.new.host.entries)
    (λ r h. here (sym c.in-Some.ensures) h) c.enter_placed.ensures.goes

pub returns-in_default-clause-begun : goal.returns-in_default-clause-begun
returns-in_default-clause-begun g c = lost_begun c.args.runner.now (row_of c.args.call.now) c.args.is_dependency c.args.host.now.entries (evaluation memory) (sym c.in_default.ensures)

pub returns-clause-begun : goal.returns-clause-begun
returns-clause-begun g c = c.enter_placed.ensures.begun (sym c.in-Some.ensures)
