use Rattle.std.proofs.Common.{rules, ◌≡◌, true, false, refl, sym, ◌∙◌, subst}
use Rattle.std.proofs.lemmas.Result.{err_from_is_err_and}
use Rattle.meaning_dialogues.specs.Faults.{memory}
use Rattle.evaluate_expressions.proofs.WantOfMemory.{unless_memory}
use Rattle.laws_evaluation.proofs.Bodies.Performing.{stays_worked}
use Rattle.laws_evaluation.proofs.Bodies.Scripts.{script_stop, script_dry}
use Rattle.laws_evaluation.proofs.Bodies.Shebangs.{texts_shebang}
use Rattle.laws_evaluation.specs.Bodies.Performing.{Performs}
use Rattle.justfile_evaluator.specs.Ended.{ended}
use Rattle.justfile_evaluator.specs.Scripts.{handed_of}
use Rattle.justfile_evaluator.proofs.Scripts.{script_then}
use Rattle.justfile_evaluator.proofs.Silence.{evaluation_told}
use Rattle.justfile_evaluator.proofs.script.run_script.Goals as goal

pub returns-in_err-lines-clause-performs : goal.returns-in_err-lines-clause-performs
returns-in_err-lines-clause-performs g c = λ b is.
    let p = err_from_is_err_and c.from_residual.result c.from_residual.ensures.1 in
    rw (p.1, p.2) (script_stop b.configuration b.scene b.name b.recipe b.flag b.bound b.reading g.H.Host.goes c.args.host.now c.script_lines.new.host _ (c.in_err-lines.ensures.evaluates b c.args.site.now is))

pub returns-in_err-show-clause-performs : goal.returns-in_err-show-clause-performs
returns-in_err-show-clause-performs g c = λ b is.
    let p = err_from_is_err_and c.from_residual-in_err-show.result c.from_residual-in_err-show.ensures.1 in
    rw (p.1, p.2, c.in_err-show.ensures.unshown) (script_stop b.configuration b.scene b.name b.recipe b.flag b.bound b.reading g.H.Host.goes c.args.host.now c.script_lines.new.host memory
    (unless_memory (c.in_ok-lines.ensures.evaluates b c.args.site.now is) (λ n. absurd (n refl))))

pub returns-then-site-clause-performs : goal.returns-then-site-clause-performs
returns-then-site-clause-performs g c = λ b is.
    let same : c.as_slice.result.now ≡ c.in_ok-lines.lines.items = search rules in
    let dry : b.configuration.dry_run ≡ true = sym is.site.configuration.dry_run ∙ c.if-site.true in
    script_then b c.args.site.now is.site g.H.Host.goes c.args.host.now c.script_lines.new.host c.show.new.host c.show.new.host c.in_ok-lines.lines.items _ (c.in_ok-lines.ensures.evaluates b c.args.site.now is)
    (stays_worked g.H.Host.goes g.met.H.Host.nothing _ c.script_lines.new.host c.show.new.host c.in_ok-show.ensures.asks) (λ e. rw same at (c.in_ok-show.ensures.shown e)) c.in_ok-show.ensures.hidden (λ full. refl)
    (script_dry b.configuration b.scene b.name b.recipe b.flag b.bound b.reading g.H.Host.goes b.configuration.dry_run c.in_ok-lines.lines.items c.show.new.host dry)

pub returns-clause-performs : goal.returns-clause-performs
returns-clause-performs g c = λ b is.
    let lines = c.in_ok-lines.lines.items in
    let same : c.as_slice.result.now ≡ lines = search rules in
    let dry : b.configuration.dry_run ≡ false = sym is.site.configuration.dry_run ∙ c.if-site.false in
    let texts = c.in_ok-lines.ensures.evaluates b c.args.site.now is in
    script_then b c.args.site.now is.site g.H.Host.goes c.args.host.now c.script_lines.new.host c.show.new.host c.hand_over.new.host lines _ texts
    (stays_worked g.H.Host.goes g.met.H.Host.nothing _ c.script_lines.new.host c.show.new.host c.in_ok-show.ensures.asks) (λ e. rw same at (c.in_ok-show.ensures.shown e)) c.in_ok-show.ensures.hidden
    (stays_worked g.H.Host.goes g.met.H.Host.nothing _ c.show.new.host c.hand_over.new.host c.hand_over.ensures.asks)
    (subst (λ d. Performs b.reading (handed_of b d lines) c.show.new.host c.hand_over.new.host (ended c.hand_over.result)) (sym dry) (c.hand_over.ensures.performs b (record {
      site = is.site;
      interpreter = is.interpreter;
      begins = texts_shebang b.configuration b.scene b.name b.recipe b.flag b.bound b.reading c.args.host.now.entries c.script_lines.new.host.entries lines texts;
    })))

pub returns-then-site-clause-asks : goal.returns-then-site-clause-asks
returns-then-site-clause-asks g c = λ kinds questions user work start asked. c.in_ok-show.ensures.asks kinds questions user work start (c.in_ok-lines.ensures.asks kinds questions start asked)

pub returns-clause-asks : goal.returns-clause-asks
returns-clause-asks g c = λ kinds questions user work start asked.
    c.hand_over.ensures.asks kinds questions user (λ e. work c.if-site.false) start (c.in_ok-show.ensures.asks kinds questions user work start (c.in_ok-lines.ensures.asks kinds questions start asked))

pub returns-in_err-lines-clause-said : goal.returns-in_err-lines-clause-said
returns-in_err-lines-clause-said g c =
    let p = err_from_is_err_and c.from_residual.result c.from_residual.ensures.1 in
    rw p.1 (evaluation_told _ _ _ p.2)
