use Rattle.std.proofs.Common.{refl}
use Rattle.std.proofs.lemmas.Result.{err_from_is_err_and}
use Rattle.meaning_runs.proofs.Beginnings.{task_begins_here}
use Rattle.analyze_calls.specs.Around.{head_task, own_reading, own_stage}
use Rattle.analyze_calls.specs.Calls.{rows}
use Rattle.analyze_calls.specs.Entered.{entered_of}
use Rattle.analyze_calls.proofs.Around.{given_leads}
use Rattle.analyze_calls.proofs.Entering.{is_inside}
use Rattle.analyze_calls.proofs.enter.begin.Goals as goal

pub returns-clause-heads : goal.returns-clause-heads
returns-clause-heads g c =
    let planned = c.args.placed.now.planned.now in
    let context = c.args.placed.now.context.now in
    let flag = c.args.entered.now.is_dependency in
    let entered = entered_of c.args.entered.now in
    given_leads (own_reading planned context flag entered) (head_task c.args.runner.now planned context.config.now (own_stage planned context flag entered)) c.args.host.now c.confirmed.new.host (λ calls. rows calls.items) c.confirmed.result
    (c.confirmed.ensures.performs (is_inside c.in_ok-scope.scope c.args.entered.now.scope c.in_ok-scope.ensures))

pub returns-in_err-scope-clause-begun : goal.returns-in_err-scope-clause-begun
returns-in_err-scope-clause-begun g c =
    let planned = c.args.placed.now.planned.now in
    let context = c.args.placed.now.context.now in
    let flag = c.args.entered.now.is_dependency in
    let entered = entered_of c.args.entered.now in
    task_begins_here (own_reading planned context flag entered) (head_task c.args.runner.now planned context.config.now (own_stage planned context flag entered)) c.args.host.now.entries

pub returns-clause-begun : goal.returns-clause-begun
returns-clause-begun g c = (c.confirmed.ensures.performs (is_inside c.in_ok-scope.scope c.args.entered.now.scope c.in_ok-scope.ensures)).begins
