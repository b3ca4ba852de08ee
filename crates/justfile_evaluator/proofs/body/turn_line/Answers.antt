use Rattle.std.proofs.Common.{rules, ◌≡◌, false, true}
use Rattle.std.proofs.lemmas.Result.{err_from_is_err_and}
use Rattle.tree_items.specs.Lines.{pieces_of}
use Rattle.laws_evaluation.proofs.Bodies.Performing.{stays_asked, stays_worked}
use Rattle.justfile_evaluator.specs.Turns.{is_left_out}
use Rattle.justfile_evaluator.proofs.Lines.{passes, stops_at, opens, runs_to}
use Rattle.justfile_evaluator.proofs.Silence.{evaluation_told}
use Rattle.justfile_evaluator.proofs.body.turn_line.Goals as goal

pub returns-then-is_left_out-clause-turns : goal.returns-then-is_left_out-clause-turns
returns-then-is_left_out-clause-turns g c = λ b h means held start lines goes_on.
    let left : is_left_out c.args.site.now c.args.progress.now.command (pieces_of c.args.line.now) ≡ true = search rules in
    passes b c.args.site.now h start c.args.host.now c.args.progress.now.command (pieces_of c.args.line.now) lines left goes_on

pub returns-in_err-read_line-clause-turns : goal.returns-in_err-read_line-clause-turns
returns-in_err-read_line-clause-turns g c = λ b h means held start lines goes_on.
    let kept : is_left_out c.args.site.now c.args.progress.now.command (pieces_of c.args.line.now) ≡ false = search rules in
    let e = err_from_is_err_and c.from_residual.result c.from_residual.ensures.1 in
    rw e.1 (stops_at b c.args.site.now h start c.args.host.now _ c.args.progress.now.command (pieces_of c.args.line.now) lines _ _ kept (stays_asked g.H.Host.goes g.met.H.Host.nothing _ _ c.in_err-read_line.ensures.asks) goes_on (c.in_err-read_line.ensures.reads b h.settings.guards means goes_on.sound) e.2)

pub returns-then-progress-clause-turns : goal.returns-then-progress-clause-turns
returns-then-progress-clause-turns g c = λ b h means held start lines goes_on.
    let kept : is_left_out c.args.site.now c.args.progress.now.command (pieces_of c.args.line.now) ≡ false = search rules in
    opens b c.args.site.now h start c.args.host.now _ c.args.progress.now.command c.read_line.new.command (pieces_of c.args.line.now) lines kept (stays_asked g.H.Host.goes g.met.H.Host.nothing _ _ c.in_ok-read_line.ensures.asks) goes_on (c.in_ok-read_line.ensures.reads b h.settings.guards means goes_on.sound) (search rules)

pub returns-clause-turns : goal.returns-clause-turns
returns-clause-turns g c = λ b h means held start lines goes_on.
    let kept : is_left_out c.args.site.now c.args.progress.now.command (pieces_of c.args.line.now) ≡ false = search rules in
    let read = c.in_ok-read_line.ensures.reads b h.settings.guards means goes_on.sound in
    runs_to b c.args.site.now h start c.args.host.now c.read_line.new.host c.run_line.new.host c.args.progress.now.command c.read_line.new.command c.run_line.new.progress.command (pieces_of c.args.line.now) lines c.run_line.result kept
    (stays_asked g.H.Host.goes g.met.H.Host.nothing _ _ c.in_ok-read_line.ensures.asks) goes_on read (search rules) (stays_worked g.H.Host.goes g.met.H.Host.nothing _ _ _ c.run_line.ensures.asks) c.run_line.ensures.command (c.run_line.ensures.performs b h held read.sound)

pub returns-in_err-read_line-clause-said : goal.returns-in_err-read_line-clause-said
returns-in_err-read_line-clause-said g c =
    let p = err_from_is_err_and c.from_residual.result c.from_residual.ensures.1 in
    rw p.1 (evaluation_told _ _ _ p.2)
