-- What is bound so far, in the frame that was given.
use Rattle.std.proofs.Common.{◌≡◌, drop, length, map}
use Rattle.meaning_dialogues.specs.Calls.{Frame, HasValues}
use Rattle.evaluate_expressions.proofs.Frames.{Binds}
use Rattle.evaluate_expressions.proofs.functions.bind_all.Given as goal

abbrev pub invariant-loop-parameter : goal.invariant-loop-parameter
invariant-loop-parameter l = record {
  around : l.scope.outer ≡ l.initial.scope.outer;
  counted : l.values.rest.len ≡ length l.values.rest.items;
  bound : (frame : Frame) → HasValues l.initial.scope.own frame → Binds frame (map (λ p. p.1) l.parameters) l.fn.values.items l.scope.own (map (λ p. p.1) (drop l.parameter-index l.parameters)) l.values.rest.items;
}
