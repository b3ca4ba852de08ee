-- With the bindings that are left after them the pairs are those that all give.
use Rattle.std.proofs.Common.{◌≡◌, ◌++◌, map}
use Rattle.just_value.specs.Frames.{bound_of}
use Rattle.evaluate_context.specs.Environment as spec
use Rattle.evaluate_context.proofs.pairs.push_frame.Given as goal

abbrev pub invariant-loop-binding : goal.invariant-loop-binding
invariant-loop-binding l = l.pairs ++ spec.frame_pairs l.export (map bound_of l.binding-iterator) ≡ l.initial.pairs ++ spec.frame_pairs l.export l.frame
