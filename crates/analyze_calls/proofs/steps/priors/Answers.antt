use Rattle.std.proofs.lemmas.Result.{err_from_is_err_and}
use Rattle.analyze_calls.specs.Calls.{rows}
use Rattle.analyze_calls.specs.Around.{Heads}
use Rattle.analyze_calls.specs.Entered.{entered_of}
use Rattle.analyze_calls.proofs.Runs.Beginnings.{failed_calls, ranked_calls}
use Rattle.analyze_calls.proofs.steps.priors.Goals as goal

pub returns-in_err-calls-clause-heads : goal.returns-in_err-calls-clause-heads
returns-in_err-calls-clause-heads g c =
    let p = err_from_is_err_and c.from_residual.result c.from_residual.ensures.1 in
    rw (p.1, p.2) (failed_calls c.args.place (Heads c.args.placed.now.planned.now c.args.placed.now.context.now c.args.entered.now.is_dependency (entered_of c.args.entered.now) c.args.runner.now c.args.host.now.entries c.begin.new.host.entries)
    rows c.begin.new.host.exhausted c.in_err-calls.field-0.0 c.in_err-calls.ensures.heads)

pub returns-clause-heads : goal.returns-clause-heads
returns-clause-heads g c =
    ranked_calls c.args.place (Heads c.args.placed.now.planned.now c.args.placed.now.context.now c.args.entered.now.is_dependency (entered_of c.args.entered.now) c.args.runner.now c.args.host.now.entries c.begin.new.host.entries)
    c.in_ok-calls.calls.items c.begin.new.host.exhausted c.ranked.result c.in_ok-calls.ensures.heads c.ranked.ensures.same c.ranked.ensures.refused

pub returns-in_err-calls-clause-told : goal.returns-in_err-calls-clause-told
returns-in_err-calls-clause-told g c =
    let p = err_from_is_err_and c.from_residual.result c.from_residual.ensures.1 in
    rw (p.1, p.2) c.in_err-calls.ensures.told
