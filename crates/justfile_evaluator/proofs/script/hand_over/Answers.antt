use Rattle.std.proofs.Common.{rules, ◌≡◌, false, refl, sym, ◌∙◌}
use Rattle.std.proofs.lemmas.Result.{err_from_is_err_and}
use Rattle.just_host.specs.KindsLaws.{script_asked}
use Rattle.meaning_dialogues.specs.Faults.{memory}
use Rattle.evaluate_expressions.proofs.WantOfMemory.{unless_memory}
use Rattle.laws_evaluation.proofs.Bodies.Scripts.{script_unnamed, script_given}
use Rattle.justfile_evaluator.proofs.Scripts.{job_by_name}
use Rattle.justfile_evaluator.proofs.Silence.{evaluation_told}
use Rattle.justfile_evaluator.proofs.script.hand_over.Goals as goal

pub returns-in_err-words-clause-performs : goal.returns-in_err-words-clause-performs
returns-in_err-words-clause-performs g c = λ b is.
    let lines = c.args.lines.items in
    let same : c.as_slice.result.now ≡ lines = search rules in
    let p = err_from_is_err_and c.from_residual.result c.from_residual.ensures.1 in
    rw (p.1, p.2) (script_unnamed b.configuration b.scene b.name b.recipe b.flag b.bound b.reading g.H.Host.goes false lines c.args.host.now c.interpreter.new.host _ refl (rw same at (c.in_err-words.ensures.evaluates b (rw same is))))

pub returns-in_err-job-clause-performs : goal.returns-in_err-job-clause-performs
returns-in_err-job-clause-performs g c = λ b is.
    let lines = c.args.lines.items in
    let same : c.as_slice.result.now ≡ lines = search rules in
    let p = err_from_is_err_and c.from_residual-in_err-job.result c.from_residual-in_err-job.ensures.1 in
    rw (p.1, p.2) (script_unnamed b.configuration b.scene b.name b.recipe b.flag b.bound b.reading g.H.Host.goes false lines c.args.host.now c.interpreter.new.host memory refl
    (unless_memory (rw same at (c.in_ok-words.ensures.evaluates b (rw same is))) (λ n. absurd (n refl))))

pub returns-clause-asks : goal.returns-clause-asks
returns-clause-asks g c = λ kinds questions user work start asked.
    script_asked kinds g.H.Host.goes g.met.H.Host.joins c.interpreter.new.host c.script-status.new.self (work refl) _ _ c.script-status.ensures.followed start (c.interpreter.ensures.asks kinds questions start asked)

pub returns-clause-performs : goal.returns-clause-performs
returns-clause-performs g c = λ b is.
    let lines = c.args.lines.items in
    let same : c.as_slice.result.now ≡ lines = search rules in
    script_given b.configuration b.scene b.name b.recipe b.flag b.bound b.reading g.H.Host.goes false lines c.in_ok-words.words c.in_ok-job.job c.script-status.result c.args.host.now c.interpreter.new.host c.script-status.new.self _ refl
    (rw same at (c.in_ok-words.ensures.evaluates b (rw same is))) (c.in_ok-job.ensures ∙ job_by_name b c.args.site.now c.in_ok-words.words lines is.site) c.script-status.ensures.followed (rw (← is.site.recipe.name) (sym c.end.ensures.ended))

pub returns-in_err-words-clause-said : goal.returns-in_err-words-clause-said
returns-in_err-words-clause-said g c =
    let p = err_from_is_err_and c.from_residual.result c.from_residual.ensures.1 in
    rw p.1 (evaluation_told _ _ _ p.2)
