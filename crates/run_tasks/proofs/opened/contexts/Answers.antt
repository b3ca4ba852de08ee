-- One context more.
use Rattle.std.proofs.Common.{◌≡◌, ◌<◌, [], length, refl, arith}
use Rattle.std.proofs.lemmas.List.Elements.{All-append, All-cons, All-nil}
use Rattle.evaluate_context.specs.declared.context.ExecutionContext.{ExecutionContext}
use Rattle.analyze_calls.specs.Opening.{opened_row}
use Rattle.run_tasks.proofs.Standing.{all_begin, as_many, closed_here, one_here, past_all, row_at, row_of_opened}
use Rattle.run_tasks.proofs.opened.contexts.Goals as goal

pub returns-clause-contexts : goal.returns-clause-contexts
returns-clause-contexts c =
    let test = c.loop-module-test.false in
    let min = c.min-module-end.ensures in
    let len = c.len.ensures in
    let many = c.in_ok-positions.ensures.many in
    all_begin _ _ _ c.loop-module.module c.loop-module.contexts.items (omega (arith, test, min, len, many)) c.loop-module.invariant.begin

pub returns-clause-configured : goal.returns-clause-configured
returns-clause-configured c = c.loop-module.invariant.configured

pub loop-module-init : goal.loop-module-init
loop-module-init c = record { configured = rw c.new-contexts.ensures.items (All-nil _); begin = λ later are. rw c.new-contexts.ensures.items are }

pub loop-module-preserved : goal.loop-module-preserved
loop-module-preserved c =
    let test = c.loop-module-test.true in
    let min = c.min-module-end.ensures in
    let len = c.len.ensures in
    let many = c.in_ok-positions.ensures.many in
    let less : c.loop-module.module < length c.args.modules.now = omega (arith, test, min, len, many) in
    let within = c.if-position-opened.false in
    let rows = as_many c.args.opened.now in
    record {
      configured = rw c.in_ok-push.ensures.items (All-append (λ (here : ExecutionContext). here.config.now ≡ c.args.context.now.config.now) c.loop-module.contexts.items _ c.loop-module.invariant.configured
          (All-cons (λ (here : ExecutionContext). here.config.now ≡ c.args.context.now.config.now) _ [] refl (All-nil (λ (here : ExecutionContext). here.config.now ≡ c.args.context.now.config.now))));
      begin = rw c.in_ok-push.ensures.items (one_here _ _ _ c.loop-module.module c.index-modules-module.result (opened_row c.index-opened-position.result) _ c.loop-module.contexts.items less c.index-modules-module.is
          (row_at _ c.in_ok-positions.positions.items _ c.in_ok-positions.ensures c.loop-module.module c.index-position.result.now less c.index-position.ensures (omega (arith, within, rows)) (opened_row c.index-opened-position.result)
          (row_of_opened c.args.opened.now c.index-position.result.now c.index-opened-position.result within c.index-opened-position.is))
          (record { config = refl; pairs_are = refl; module_is = refl; overrides = refl; scope = refl; root = refl })
          c.loop-module.invariant.begin);
    }

pub loop-module-preserved-then-position-opened : goal.loop-module-preserved-then-position-opened
loop-module-preserved-then-position-opened c =
    let test = c.loop-module-test.true in
    let min = c.min-module-end.ensures in
    let len = c.len.ensures in
    let many = c.in_ok-positions.ensures.many in
    let less : c.loop-module.module < length c.args.modules.now = omega (arith, test, min, len, many) in
    let past = c.if-position-opened.true in
    let rows = as_many c.args.opened.now in
    record {
      configured = c.loop-module.invariant.configured;
      begin = closed_here _ _ _ c.loop-module.module c.loop-module.contexts.items less
          (past_all _ c.in_ok-positions.positions.items _ c.in_ok-positions.ensures c.loop-module.module c.index-position.result.now less c.index-position.ensures (omega (arith, past, rows)))
          c.loop-module.invariant.begin;
    }
