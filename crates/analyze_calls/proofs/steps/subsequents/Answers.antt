use Rattle.std.proofs.lemmas.Result.{err_from_is_err_and}
use Rattle.justfile_evaluator.proofs.Silence.{told_as}
use Rattle.analyze_calls.specs.Calls.{rows}
use Rattle.analyze_calls.specs.Around.{Tails}
use Rattle.analyze_calls.specs.Entered.{entered_of}
use Rattle.analyze_calls.proofs.Runs.Beginnings.{failed_calls, refused_calls, brought_calls}
use Rattle.analyze_calls.specs.declared.frame.Subsequents.{Subsequents}
use Rattle.analyze_calls.proofs.steps.subsequents.Goals as goal

pub returns-in_err-brought-clause-goes : goal.returns-in_err-brought-clause-goes
returns-in_err-brought-clause-goes g c =
    let p = err_from_is_err_and c.from_residual.result c.from_residual.ensures.1 in
    rw (p.1, p.2) (failed_calls c.args.place (Tails c.args.placed.now.planned.now c.args.placed.now.context.now c.args.entered.now.is_dependency (entered_of c.args.entered.now) c.args.runner.now c.args.host.now.entries c.end.new.host.entries)
    (λ (behind : Subsequents). rows behind.calls) c.end.new.host.exhausted c.in_err-brought.field-0.0 c.in_err-brought.ensures.tails)

pub returns-in_err-calls-clause-goes : goal.returns-in_err-calls-clause-goes
returns-in_err-calls-clause-goes g c =
    let p = err_from_is_err_and c.from_residual-in_err-calls.result c.from_residual-in_err-calls.ensures.1 in
    rw (p.1, p.2) (refused_calls c.args.place (Tails c.args.placed.now.planned.now c.args.placed.now.context.now c.args.entered.now.is_dependency (entered_of c.args.entered.now) c.args.runner.now c.args.host.now.entries c.end.new.host.entries)
    (λ (behind : Subsequents). rows behind.calls) c.in_ok-brought.brought.items c.end.new.host.exhausted c.in_err-calls.field-0.0 c.in_ok-brought.ensures.tails c.in_err-calls.ensures.refused)

pub returns-clause-goes : goal.returns-clause-goes
returns-clause-goes g c = λ k.
    brought_calls c.args.place (Tails c.args.placed.now.planned.now c.args.placed.now.context.now c.args.entered.now.is_dependency (entered_of c.args.entered.now) c.args.runner.now c.args.host.now.entries c.end.new.host.entries)
    c.in_ok-brought.brought.items c.in_ok-calls.calls (c.in_ok-brought.ensures.tails k) c.in_ok-calls.ensures.same

pub returns-in_err-brought-clause-said : goal.returns-in_err-brought-clause-said
returns-in_err-brought-clause-said g c =
    let p = err_from_is_err_and c.from_residual.result c.from_residual.ensures.1 in
    rw (p.1, p.2) c.in_err-brought.ensures.said

pub returns-in_err-calls-clause-said : goal.returns-in_err-calls-clause-said
returns-in_err-calls-clause-said g c =
    let p = err_from_is_err_and c.from_residual-in_err-calls.result c.from_residual-in_err-calls.ensures.1 in
    rw (p.1, p.2) (told_as _ _ c.in_err-calls.ensures.told)
