use Rattle.std.proofs.Common.{◌∷◌, ◌∙◌, ap, sym}
use Rattle.std.proofs.lemmas.Result.{err_from_is_err_and}
use Rattle.justfile_evaluator.proofs.Silence.{told_as}
use Rattle.analyze_calls.specs.Calls.{row_of, rows}
use Rattle.analyze_calls.specs.Runs.Frames.{aside, todo}
use Rattle.analyze_calls.specs.Runs.Cut.{parts_cut}
use Rattle.analyze_calls.specs.Runs.Tallies.{tally_of}
use Rattle.analyze_calls.specs.Entered.{entered_of}
use Rattle.analyze_calls.specs.Runs.Todo.{Calls, Body}
use Rattle.analyze_calls.proofs.Runs.Counts.{counted_first, counted_on}
use Rattle.analyze_calls.proofs.Runs.Cutting.{loop_begins, rest_here}
use Rattle.analyze_calls.proofs.Runs.Turns.{asked_on, user_in, stays, was_open, idle, on, returned, ends, fails}
use Rattle.analyze_calls.proofs.running.run_stack.Goals as goal

pub returns-clause-goes : goal.returns-clause-goes
returns-clause-goes g c = λ k. ends (parts_cut c.args.runner.now) c.args.stack.now c.loop-frame.stack c.args.done.now c.loop-frame.done c.args.host.now.entries c.loop-frame.host.entries (tally_of c.args.tally.now) (tally_of c.loop-frame.tally)
    c.in_default.ensures (c.loop-frame.invariant.leads k)

pub returns-in_err-turn_calls-in-Calls-clause-goes : goal.returns-in_err-turn_calls-in-Calls-clause-goes
returns-in_err-turn_calls-in-Calls-clause-goes g c =
    let p = err_from_is_err_and c.from_residual.result c.from_residual.ensures.1 in
    rw (p.1, p.2) (fails (parts_cut c.args.runner.now) c.args.stack.now c.loop-frame.stack (Calls c.in-Calls.are_dependencies (rows c.in-Calls.pending) ∷ c.pop.new.self) c.args.done.now c.loop-frame.done
    c.args.host.now.entries c.loop-frame.host.entries c.turn_calls.new.host.entries (tally_of c.args.tally.now) (tally_of c.loop-frame.tally) (tally_of c.turn_calls.new.tally)
    c.turn_calls.new.host.exhausted c.in_err-turn_calls-in-Calls.field-0.0 (Unit {0}) (c.in-Some.ensures ∙ ap (λ f. todo f ∷ c.pop.new.self) c.in-Calls.is)
    (λ k. c.loop-frame.invariant.leads (was_open g.H.Host.goes c.args.runner.now.contexts.now g.met.H.Host.nothing c.loop-frame.host c.turn_calls.new.host (user_in g.H.Host.goes c.args.runner.now.contexts.now c.loop-frame.host c.turn_calls.new.host c.in_err-turn_calls-in-Calls.ensures.asks) k)) c.in_err-turn_calls-in-Calls.ensures.goes)

pub loop-frame-preserved-in-Continue-1 : goal.loop-frame-preserved-in-Continue-1
loop-frame-preserved-in-Continue-1 g c = record {
  asked = asked_on g.H.Host.goes c.args.runner.now.contexts.now c.args.host.now c.loop-frame.host c.turn_calls.new.host c.loop-frame.invariant.asked (user_in g.H.Host.goes c.args.runner.now.contexts.now c.loop-frame.host c.turn_calls.new.host c.in_ok-turn_calls-in-Calls.ensures.asks);
  counted = counted_on c.args.tally.now c.loop-frame.tally c.turn_calls.new.tally c.loop-frame.invariant.counted c.in_ok-turn_calls-in-Calls.ensures.counted;
  leads = λ k. on (parts_cut c.args.runner.now) (c.in-Some.ensures ∙ ap (λ f. todo f ∷ c.pop.new.self) c.in-Calls.is)
      (c.loop-frame.invariant.leads (was_open g.H.Host.goes c.args.runner.now.contexts.now g.met.H.Host.nothing c.loop-frame.host c.turn_calls.new.host (user_in g.H.Host.goes c.args.runner.now.contexts.now c.loop-frame.host c.turn_calls.new.host c.in_ok-turn_calls-in-Calls.ensures.asks) k)) (c.in_ok-turn_calls-in-Calls.ensures.goes k);
  begun = loop_begins c.args.runner.now c.args.stack.now c.loop-frame.stack (Calls c.in-Calls.are_dependencies (rows c.in-Calls.pending) ∷ c.pop.new.self) c.args.done.now c.loop-frame.done c.args.host.now.entries c.loop-frame.host c.turn_calls.new.host (tally_of c.args.tally.now) (tally_of c.loop-frame.tally)
      (c.in-Some.ensures ∙ ap (λ f. todo f ∷ c.pop.new.self) c.in-Calls.is)
      c.loop-frame.invariant.leads (stays g.H.Host.goes c.args.runner.now.contexts.now g.met.H.Host.nothing c.loop-frame.host c.turn_calls.new.host (user_in g.H.Host.goes c.args.runner.now.contexts.now c.loop-frame.host c.turn_calls.new.host c.in_ok-turn_calls-in-Calls.ensures.asks)) c.loop-frame.invariant.begun (c.in_ok-turn_calls-in-Calls.ensures.begun);
}

pub returns-in_err-turn_body-in-Body-clause-goes : goal.returns-in_err-turn_body-in-Body-clause-goes
returns-in_err-turn_body-in-Body-clause-goes g c =
    let p = err_from_is_err_and c.from_residual-in_err-turn_body-in-Body.result c.from_residual-in_err-turn_body-in-Body.ensures.1 in
    rw (p.1, p.2) (fails (parts_cut c.args.runner.now) c.args.stack.now c.loop-frame.stack (Body (row_of c.in-Body.call) c.deref.result.now.is_dependency (entered_of c.deref.result.now) ∷ c.pop.new.self) c.args.done.now c.loop-frame.done
    c.args.host.now.entries c.loop-frame.host.entries c.turn_body.new.host.entries (tally_of c.args.tally.now) (tally_of c.loop-frame.tally) (tally_of c.loop-frame.tally)
    c.turn_body.new.host.exhausted c.in_err-turn_body-in-Body.field-0.0 (Unit {0})
    (c.in-Some.ensures ∙ ap (λ f. todo f ∷ c.pop.new.self) c.in-Body.is ∙ ap (λ e. Body (row_of c.in-Body.call) e.is_dependency (entered_of e) ∷ c.pop.new.self) (sym c.deref.ensures))
    (λ k. c.loop-frame.invariant.leads (was_open g.H.Host.goes c.args.runner.now.contexts.now g.met.H.Host.nothing c.loop-frame.host c.turn_body.new.host c.in_err-turn_body-in-Body.ensures.asks k)) (c.in_err-turn_body-in-Body.ensures.goes (tally_of c.loop-frame.tally)))

pub loop-frame-preserved-in-Body : goal.loop-frame-preserved-in-Body
loop-frame-preserved-in-Body g c = record {
  asked = asked_on g.H.Host.goes c.args.runner.now.contexts.now c.args.host.now c.loop-frame.host c.turn_body.new.host c.loop-frame.invariant.asked c.in_ok-turn_body-in-Body.ensures.asks;
  counted = c.loop-frame.invariant.counted;
  leads = λ k. on (parts_cut c.args.runner.now)
      (c.in-Some.ensures ∙ ap (λ f. todo f ∷ c.pop.new.self) c.in-Body.is ∙ ap (λ e. Body (row_of c.in-Body.call) e.is_dependency (entered_of e) ∷ c.pop.new.self) (sym c.deref.ensures))
      (c.loop-frame.invariant.leads (was_open g.H.Host.goes c.args.runner.now.contexts.now g.met.H.Host.nothing c.loop-frame.host c.turn_body.new.host c.in_ok-turn_body-in-Body.ensures.asks k)) (c.in_ok-turn_body-in-Body.ensures.goes (tally_of c.loop-frame.tally) k);
  begun = loop_begins c.args.runner.now c.args.stack.now c.loop-frame.stack (Body (row_of c.in-Body.call) c.deref.result.now.is_dependency (entered_of c.deref.result.now) ∷ c.pop.new.self) c.args.done.now c.loop-frame.done c.args.host.now.entries c.loop-frame.host c.turn_body.new.host (tally_of c.args.tally.now) (tally_of c.loop-frame.tally)
      (c.in-Some.ensures ∙ ap (λ f. todo f ∷ c.pop.new.self) c.in-Body.is ∙ ap (λ e. Body (row_of c.in-Body.call) e.is_dependency (entered_of e) ∷ c.pop.new.self) (sym c.deref.ensures))
      c.loop-frame.invariant.leads (stays g.H.Host.goes c.args.runner.now.contexts.now g.met.H.Host.nothing c.loop-frame.host c.turn_body.new.host (c.in_ok-turn_body-in-Body.ensures.asks)) c.loop-frame.invariant.begun (c.in_ok-turn_body-in-Body.ensures.begun (tally_of c.loop-frame.tally));
}

pub loop-frame-preserved : goal.loop-frame-preserved
loop-frame-preserved g c = record {
  asked = c.loop-frame.invariant.asked;
  counted = c.loop-frame.invariant.counted;
  leads = λ k. on (parts_cut c.args.runner.now) (c.in-Some.ensures ∙ ap (λ f. todo f ∷ c.pop.new.self) c.in-After.is) (c.loop-frame.invariant.leads k)
      (returned (parts_cut c.args.runner.now) (row_of c.in-After.call) (aside c.in-After.outer) c.loop-frame.done c.turn_after.new.done c.pop.new.self c.loop-frame.host.entries (tally_of c.loop-frame.tally) c.in_ok-turn_after-in-After.ensures);
  begun = c.loop-frame.invariant.begun;
}

pub returns-in_err-turn_calls-in-Calls-clause-said : goal.returns-in_err-turn_calls-in-Calls-clause-said
returns-in_err-turn_calls-in-Calls-clause-said g c =
    let p = err_from_is_err_and c.from_residual.result c.from_residual.ensures.1 in
    rw (p.1, p.2) (told_as _ _ c.in_err-turn_calls-in-Calls.ensures.told)

pub returns-in_err-turn_body-in-Body-clause-said : goal.returns-in_err-turn_body-in-Body-clause-said
returns-in_err-turn_body-in-Body-clause-said g c =
    let p = err_from_is_err_and c.from_residual-in_err-turn_body-in-Body.result c.from_residual-in_err-turn_body-in-Body.ensures.1 in
    rw (p.1, p.2) c.in_err-turn_body-in-Body.ensures.said

-- nothing was recorded before the first turn
pub loop-frame-init : goal.loop-frame-init
loop-frame-init g c = record {
  asked = λ kinds questions user work start asked. asked;
  counted = counted_first c.args.tally.now;
  leads = λ k. idle (parts_cut c.args.runner.now) c.args.stack.now c.args.done.now c.args.host.now.entries (tally_of c.args.tally.now);
  begun = rest_here c.args.runner.now c.args.stack.now c.args.done.now c.args.host.now.entries (tally_of c.args.tally.now);
}

pub returns-clause-begun : goal.returns-clause-begun
returns-clause-begun g c = c.loop-frame.invariant.begun

pub returns-in_err-turn_calls-in-Calls-clause-begun : goal.returns-in_err-turn_calls-in-Calls-clause-begun
returns-in_err-turn_calls-in-Calls-clause-begun g c =
    loop_begins c.args.runner.now c.args.stack.now c.loop-frame.stack (Calls c.in-Calls.are_dependencies (rows c.in-Calls.pending) ∷ c.pop.new.self) c.args.done.now c.loop-frame.done c.args.host.now.entries c.loop-frame.host c.turn_calls.new.host (tally_of c.args.tally.now) (tally_of c.loop-frame.tally)
    (c.in-Some.ensures ∙ ap (λ f. todo f ∷ c.pop.new.self) c.in-Calls.is)
    c.loop-frame.invariant.leads (stays g.H.Host.goes c.args.runner.now.contexts.now g.met.H.Host.nothing c.loop-frame.host c.turn_calls.new.host (user_in g.H.Host.goes c.args.runner.now.contexts.now c.loop-frame.host c.turn_calls.new.host c.in_err-turn_calls-in-Calls.ensures.asks)) c.loop-frame.invariant.begun (c.in_err-turn_calls-in-Calls.ensures.begun)

pub returns-in_err-turn_body-in-Body-clause-begun : goal.returns-in_err-turn_body-in-Body-clause-begun
returns-in_err-turn_body-in-Body-clause-begun g c =
    loop_begins c.args.runner.now c.args.stack.now c.loop-frame.stack (Body (row_of c.in-Body.call) c.deref.result.now.is_dependency (entered_of c.deref.result.now) ∷ c.pop.new.self) c.args.done.now c.loop-frame.done c.args.host.now.entries c.loop-frame.host c.turn_body.new.host (tally_of c.args.tally.now) (tally_of c.loop-frame.tally)
    (c.in-Some.ensures ∙ ap (λ f. todo f ∷ c.pop.new.self) c.in-Body.is ∙ ap (λ e. Body (row_of c.in-Body.call) e.is_dependency (entered_of e) ∷ c.pop.new.self) (sym c.deref.ensures))
    c.loop-frame.invariant.leads (stays g.H.Host.goes c.args.runner.now.contexts.now g.met.H.Host.nothing c.loop-frame.host c.turn_body.new.host (c.in_err-turn_body-in-Body.ensures.asks)) c.loop-frame.invariant.begun (c.in_err-turn_body-in-Body.ensures.begun (tally_of c.loop-frame.tally))
