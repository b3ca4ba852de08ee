use Rattle.std.proofs.Common.{Ok, Err, rules, ◌≡◌, ◌+◌, ◌∷◌, ◌<◌, ◌≤◌, drop, false, get_or, length, map, refl, true, arith, subst, List}
use Rattle.std.proofs.lemmas.Result.{err_from_is_err_and}
use Rattle.tree_items.specs.Lines.{pieces_of, Piece}
use Rattle.laws_evaluation.proofs.Bodies.Performing.{stays_worked}
use Rattle.justfile_evaluator.specs.Bodies.{MeansLine, NamedBody}
use Rattle.justfile_evaluator.specs.Turns.{GoesOn}
use Rattle.justfile_evaluator.proofs.Lines.{at_line, no_line, line_means, begins, ends_closed, ends_open, turned_false, turned_true}
use Rattle.justfile_evaluator.proofs.body.run_lines.Goals as goal

pub loop-line-init : goal.loop-line-init
loop-line-init g c = record {
  asks = λ kinds questions user work start asked. asked;
  held = rw c.new-progress.ensures.template tt;
  goes_on = λ b h. begins b c.args.site.now h.site c.args.host.now c.new-progress.result.command _ h.body c.new-progress.ensures.command;
}

pub returns-in_err-turn_line-clause-performs : goal.returns-in_err-turn_line-clause-performs
returns-in_err-turn_line-clause-performs g c = λ b h.
    let body = c.args.body.now in
    let l = c.loop-line in
    let i = l.line-index in
    let x = c.line-item.result in
    let lt : i < length body = omega arith in
    let is : x ≡ get_or body i x = search rules in
    let e = err_from_is_err_and c.from_residual.result c.from_residual.ensures.1 in
    let from = subst (λ lines. GoesOn b l.progress.command lines c.args.host.now l.host) (at_line body i x lt is) (l.invariant.goes_on b h) in
    rw (e.1, e.2) (c.in_err-turn_line.ensures.turns b h.site (line_means (MeansLine b c.args.evaluator.now) body i x h.lines lt is) l.invariant.held c.args.host.now (map pieces_of (drop (i + 1) body)) from)

pub returns-then-not-branch-clause-performs : goal.returns-then-not-branch-clause-performs
returns-then-not-branch-clause-performs g c = λ b h.
    let body = c.args.body.now in
    let l = c.loop-line in
    let i = l.line-index in
    let x = c.line-item.result in
    let lt : i < length body = omega arith in
    let is : x ≡ get_or body i x = search rules in
    let from = subst (λ lines. GoesOn b l.progress.command lines c.args.host.now l.host) (at_line body i x lt is) (l.invariant.goes_on b h) in
    turned_false b c.args.site.now h.site c.args.host.now _ _ _ _ (search rules) (c.in_ok-turn_line.ensures.turns b h.site (line_means (MeansLine b c.args.evaluator.now) body i x h.lines lt is) l.invariant.held c.args.host.now (map pieces_of (drop (i + 1) body)) from)

pub loop-line-preserved : goal.loop-line-preserved
loop-line-preserved g c =
    let body = c.args.body.now in
    let l = c.loop-line in
    let i = l.line-index in
    let x = c.line-item.result in
    let lt : i < length body = omega arith in
    let is : x ≡ get_or body i x = search rules in
    record {
      asks = λ kinds questions user work start asked. c.in_ok-turn_line.ensures.asks kinds questions user work start (l.invariant.asks kinds questions user work start asked);
      held = c.in_ok-turn_line.ensures.held l.invariant.held;
      goes_on = λ b h.
          let from = subst (λ lines. GoesOn b l.progress.command lines c.args.host.now l.host) (at_line body i x lt is) (l.invariant.goes_on b h) in
          turned_true b c.args.site.now h.site c.args.host.now _ _ (map pieces_of (drop (i + 1) body)) _ (search rules) (c.in_ok-turn_line.ensures.turns b h.site (line_means (MeansLine b c.args.evaluator.now) body i x h.lines lt is) l.invariant.held c.args.host.now (map pieces_of (drop (i + 1) body)) from);
    }

pub returns-then-not-progress-clause-performs : goal.returns-then-not-progress-clause-performs
returns-then-not-progress-clause-performs g c = λ b h.
    let l = c.loop-line in
    let le : length c.args.body.now ≤ l.line-index = omega arith in
    ends_closed b c.args.site.now h.site c.args.host.now l.host l.progress.command _ (l.invariant.goes_on b h) (no_line c.args.body.now l.line-index le) (search rules)

pub returns-in_err-_goes_on-clause-performs : goal.returns-in_err-_goes_on-clause-performs
returns-in_err-_goes_on-clause-performs g c = λ b h.
    let l = c.loop-line in
    let le : length c.args.body.now ≤ l.line-index = omega arith in
    let is_open : l.progress.command.is_open ≡ true = search rules in
    let goes_on = l.invariant.goes_on b h in
    let e = err_from_is_err_and c.from_residual-in_err-_goes_on.result c.from_residual-in_err-_goes_on.ensures.1 in
    rw (e.1, e.2) (ends_open b c.args.site.now h.site c.args.host.now l.host _ l.progress.command _ (Err c.in_err-_goes_on.field-0.0) goes_on (no_line c.args.body.now l.line-index le) is_open (stays_worked g.H.Host.goes g.met.H.Host.nothing _ _ _ c.in_err-_goes_on.ensures.asks) (c.in_err-_goes_on.ensures.performs b h.site l.invariant.held (goes_on.sound is_open)))

pub returns-clause-performs : goal.returns-clause-performs
returns-clause-performs g c = λ b h.
    let l = c.loop-line in
    let le : length c.args.body.now ≤ l.line-index = omega arith in
    let is_open : l.progress.command.is_open ≡ true = search rules in
    let goes_on = l.invariant.goes_on b h in
    ends_open b c.args.site.now h.site c.args.host.now l.host _ l.progress.command _ (Ok c.in_ok-_goes_on._goes_on) goes_on (no_line c.args.body.now l.line-index le) is_open (stays_worked g.H.Host.goes g.met.H.Host.nothing _ _ _ c.in_ok-_goes_on.ensures.asks) (c.in_ok-_goes_on.ensures.performs b h.site l.invariant.held (goes_on.sound is_open))

pub returns-in_err-turn_line-clause-asks : goal.returns-in_err-turn_line-clause-asks
returns-in_err-turn_line-clause-asks g c = λ kinds questions user work start asked. c.in_err-turn_line.ensures.asks kinds questions user work start (c.loop-line.invariant.asks kinds questions user work start asked)

pub returns-in_err-_goes_on-clause-asks : goal.returns-in_err-_goes_on-clause-asks
returns-in_err-_goes_on-clause-asks g c = λ kinds questions user work start asked. c.in_err-_goes_on.ensures.asks kinds questions user work start (c.loop-line.invariant.asks kinds questions user work start asked)
