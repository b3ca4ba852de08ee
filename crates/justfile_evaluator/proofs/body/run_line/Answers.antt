use Rattle.std.proofs.Common.{rules, ◌≡◌, ◌==◌, false, true, length, sym, ◌∙◌}
use Rattle.laws_evaluation.proofs.Bodies.Performing.{stays_worked}
use Rattle.justfile_evaluator.proofs.Lines.{runs_nothing, runs_handed, runs_dry}
use Rattle.justfile_evaluator.proofs.body.run_line.Goals as goal

pub returns-then-is_empty-clause-performs : goal.returns-then-is_empty-clause-performs
returns-then-is_empty-clause-performs g c = λ b h held marked.
    let none : (length c.behind_sigils-text.result.now == 0) ≡ true = search rules in
    runs_nothing g.H.Host.goes b c.args.site.now h c.args.progress.now.command c.behind_sigils-text.result.now c.args.host.now (c.behind_sigils-text.ensures marked) none

pub returns-then-site-clause-performs : goal.returns-then-site-clause-performs
returns-then-site-clause-performs g c = λ b h held marked.
    let some : (length c.behind_sigils-text.result.now == 0) ≡ false = search rules in
    runs_dry g.H.Host.goes b c.args.site.now h c.args.progress.now.command c.behind_sigils-text.result.now c.args.host.now c.show.new.host (c.behind_sigils-text.ensures marked) some c.show.ensures.shown c.show.ensures.hidden (search rules)

pub returns-clause-performs : goal.returns-clause-performs
returns-clause-performs g c = λ b h held marked.
    let some : (length c.behind_sigils-text.result.now == 0) ≡ false = search rules in
    runs_handed g.H.Host.goes b c.args.site.now h c.args.progress.now.command c.behind_sigils-text.result.now c.args.host.now c.show.new.host _ _ (c.behind_sigils-text.ensures marked) some c.show.ensures.shown c.show.ensures.hidden
    (stays_worked g.H.Host.goes g.met.H.Host.nothing _ _ _ c.hand_over.ensures.asks) (search rules) (c.hand_over.ensures.performs b h held marked)

pub returns-clause-asks : goal.returns-clause-asks
returns-clause-asks g c = λ kinds questions user work start asked. c.hand_over.ensures.asks kinds questions user (λ e. work c.if-site.false) start (c.show.ensures.asks kinds questions user work start asked)
