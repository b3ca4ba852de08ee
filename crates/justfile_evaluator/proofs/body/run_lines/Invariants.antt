-- What was asked so far, and what follows from here.
use Rattle.std.proofs.Common.{drop, map}
use Rattle.just_host.specs.Kinds.{AsksWork}
use Rattle.tree_items.specs.Lines.{pieces_of}
use Rattle.justfile_evaluator.specs.Bodies.{NamedBody, IsBodyOf}
use Rattle.justfile_evaluator.specs.Turns.{GoesOn, IsHeld}
use Rattle.justfile_evaluator.proofs.body.run_lines.Given as goal

abbrev pub invariant-loop-line : goal.invariant-loop-line
invariant-loop-line g l = record {
  asks : AsksWork l.fn.site.context.now.config.now.dry_run g.H.Host.goes l.initial.host l.host;
  held : IsHeld l.fn.site l.progress;
  goes_on : (b : NamedBody) → IsBodyOf b l.fn.site l.fn.evaluator l.fn.body → GoesOn b l.progress.command (map pieces_of (drop l.line-index l.fn.body)) l.initial.host l.host;
}
