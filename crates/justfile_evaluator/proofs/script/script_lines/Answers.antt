use Rattle.std.proofs.Common.{rules, ◌≡◌, ◌+◌, ◌<◌, ◌≤◌, ◌++◌, ◌∷◌, [], get_or, length, arith}
use Rattle.std.proofs.lemmas.Result.{err_from_is_err_and}
use Rattle.justfile_evaluator.specs.Scripts.{texts_of}
use Rattle.justfile_evaluator.proofs.Scripts.{Leads, lines_first, lines_memory, lines_more, lines_stop, lines_end}
use Rattle.justfile_evaluator.proofs.script.script_lines.Goals as goal

pub loop-line-init : goal.loop-line-init
loop-line-init g c =
    let none : c.new-lines.result.items ≡ [] = search rules in
    record { asks = search rules; leads = λ b site is. rw none (lines_first b site c.args.evaluator.now c.args.body.now is c.args.host.now.entries) }

pub loop-line-preserved : goal.loop-line-preserved
loop-line-preserved g c =
    let body = c.args.body.now in
    let lt : c.loop-line.line-index < length body = omega arith in
    let x = c.line-item.result in
    let e : x ≡ get_or body c.loop-line.line-index x = search rules in
    let grown : c.push.new.self.items ≡ c.loop-line.lines.items ++ c.in_ok-text.text ∷ [] = search rules in
    record {
      asks = λ kinds questions start asked. c.in_ok-text.ensures.asks kinds questions start (c.loop-line.invariant.asks kinds questions start asked);
      leads = λ b site is.
          rw grown
          (lines_more b site c.args.evaluator.now body is c.args.host.now.entries c.loop-line.host.entries _ c.loop-line.lines.items c.loop-line.line-index x c.in_ok-text.text (c.loop-line.invariant.leads b site is) lt e c.in_ok-text.ensures.evaluates);
    }

pub returns-in_err-text-clause-evaluates : goal.returns-in_err-text-clause-evaluates
returns-in_err-text-clause-evaluates g c = λ b site is.
    let body = c.args.body.now in
    let lt : c.loop-line.line-index < length body = omega arith in
    let x = c.line-item.result in
    let e : x ≡ get_or body c.loop-line.line-index x = search rules in
    let p = err_from_is_err_and c.from_residual.result c.from_residual.ensures.1 in
    rw (p.1, p.2) (lines_stop b site c.args.evaluator.now body is c.args.host.now.entries c.loop-line.host.entries _ c.loop-line.lines.items c.loop-line.line-index x _ (c.loop-line.invariant.leads b site is) lt e c.in_err-text.ensures.evaluates)

pub returns-in_err-push-clause-evaluates : goal.returns-in_err-push-clause-evaluates
returns-in_err-push-clause-evaluates g c = λ b site is.
    let body = c.args.body.now in
    let lt : c.loop-line.line-index < length body = omega arith in
    let x = c.line-item.result in
    let e : x ≡ get_or body c.loop-line.line-index x = search rules in
    let p = err_from_is_err_and c.from_residual-in_err-push.result c.from_residual-in_err-push.ensures.1 in
    rw (p.1, p.2)
    (lines_memory b site c.args.evaluator.now body is c.args.host.now.entries _ (c.loop-line.lines.items ++ c.in_ok-text.text ∷ []) (c.loop-line.line-index + 1)
    (lines_more b site c.args.evaluator.now body is c.args.host.now.entries c.loop-line.host.entries _ c.loop-line.lines.items c.loop-line.line-index x c.in_ok-text.text (c.loop-line.invariant.leads b site is) lt e c.in_ok-text.ensures.evaluates))

pub returns-in_err-text-clause-asks : goal.returns-in_err-text-clause-asks
returns-in_err-text-clause-asks g c = λ kinds questions start asked. c.in_err-text.ensures.asks kinds questions start (c.loop-line.invariant.asks kinds questions start asked)

pub returns-in_err-push-clause-asks : goal.returns-in_err-push-clause-asks
returns-in_err-push-clause-asks g c = λ kinds questions start asked. c.in_ok-text.ensures.asks kinds questions start (c.loop-line.invariant.asks kinds questions start asked)

pub returns-clause-evaluates : goal.returns-clause-evaluates
returns-clause-evaluates g c = λ b site is.
    let body = c.args.body.now in
    let over : length body ≤ c.loop-line.line-index = omega arith in
    lines_end b site c.args.evaluator.now body is c.args.host.now.entries c.loop-line.host.entries c.loop-line.lines.items c.loop-line.line-index (c.loop-line.invariant.leads b site is) over
