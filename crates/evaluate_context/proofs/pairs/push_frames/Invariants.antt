-- With the frames that are left after them the pairs are those that all give.
use Rattle.std.proofs.Common.{◌≡◌, ◌++◌, map, take}
use Rattle.evaluate_context.specs.Environment as spec
use Rattle.evaluate_context.proofs.pairs.push_frames.Given as goal

abbrev pub invariant-loop-place : goal.invariant-loop-place
invariant-loop-place l = l.pairs ++ spec.frames_pairs l.export (take l.place (map (λ f. f.now) l.frames)) ≡ l.initial.pairs ++ spec.frames_pairs l.export l.scope.outer
