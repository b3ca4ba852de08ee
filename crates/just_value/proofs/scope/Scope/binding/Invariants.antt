-- No frame so far has the number.
use Rattle.std.proofs.Common.{◌≡◌, ◌∷◌, drop, map}
use Rattle.just_value.specs.Frames.{found_in}
use Rattle.just_value.proofs.scope.Scope.binding.Given as goal

abbrev pub invariant-loop-frame : goal.invariant-loop-frame
invariant-loop-frame l = found_in (map (λ f. f.now) (drop l.frame-index l.frame-items)) l.number ≡ found_in (l.self.own ∷ l.self.outer) l.number
