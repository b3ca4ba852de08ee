use Rattle.std.proofs.Common.{sym, refl}
use Rattle.justfile_evaluator.proofs.Silence.{told_as}
use Rattle.analyze_calls.specs.Calls.{row_of, rows}
use Rattle.analyze_calls.specs.Around.{Tails}
use Rattle.analyze_calls.proofs.Runs.Silence.{says_in}
use Rattle.analyze_calls.specs.Runs.Steps.{Ends, HeadsBelow, here_ends, nowhere_ends}
use Rattle.analyze_calls.specs.Entered.{entered_of}
use Rattle.meaning_dialogues.specs.Faults.{memory}
use Rattle.meaning_runs.specs.Failures.{evaluation}
use Rattle.analyze_calls.proofs.Runs.Beginnings.{context_among, given_as}
use Rattle.analyze_calls.proofs.Runs.Begun.{lost_ended, tails_begun}
use Rattle.analyze_calls.proofs.steps.leave.Goals as goal

pub returns-in_default-clause-goes : goal.returns-in_default-clause-goes
returns-in_default-clause-goes g c = λ k n. nowhere_ends (sym c.in_default.ensures) refl refl

pub returns-clause-goes : goal.returns-clause-goes
returns-clause-goes g c =
    given_as (λ behind. rows behind.calls) c.subsequents.new.host.exhausted c.subsequents.result
    (HeadsBelow c.args.call.now.recipe (Tails c.in-Some.placed.planned.now c.in-Some.placed.context.now c.args.entered.now.is_dependency (entered_of c.args.entered.now) c.args.runner.now c.args.host.now.entries c.subsequents.new.host.entries))
    (Ends c.args.runner.now (row_of c.args.call.now) c.args.entered.now.is_dependency (entered_of c.args.entered.now) c.args.host.now.entries c.subsequents.new.host.entries)
    (λ r h. here_ends (sym c.in-Some.ensures) h) c.subsequents.ensures.goes

pub returns-clause-asks : goal.returns-clause-asks
returns-clause-asks g c = λ kinds questions user work. c.subsequents.ensures.asks kinds questions user
    (λ dry. work c.in-Some.placed.context.now (context_among c.args.runner.now c.args.call.now.recipe c.in-Some.placed.planned.now c.in-Some.placed.context.now (sym c.in-Some.ensures)) dry)

pub returns-in_default-clause-said : goal.returns-in_default-clause-said
returns-in_default-clause-said g c = told_as _ _ c.lost_recipe.ensures

pub returns-clause-said : goal.returns-clause-said
returns-clause-said g c = says_in c.args.runner.now c.args.call.now.recipe c.in-Some.placed.planned.now c.in-Some.placed.context.now (sym c.in-Some.ensures) c.subsequents.result c.subsequents.ensures.said

pub returns-in_default-clause-begun : goal.returns-in_default-clause-begun
returns-in_default-clause-begun g c = lost_ended c.args.runner.now (row_of c.args.call.now) c.args.entered.now.is_dependency (entered_of c.args.entered.now) c.args.host.now.entries (evaluation memory) (sym c.in_default.ensures)

pub returns-clause-begun : goal.returns-clause-begun
returns-clause-begun g c =
    tails_begun c.args.runner.now c.in-Some.placed.planned.now c.in-Some.placed.context.now (row_of c.args.call.now) c.args.entered.now.is_dependency (sym c.in-Some.ensures) (entered_of c.args.entered.now) c.args.host.now.entries c.subsequents.new.host.entries c.subsequents.ensures.begun
