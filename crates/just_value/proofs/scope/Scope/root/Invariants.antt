-- The rows so far are bound, by their numbers.
use Rattle.std.proofs.Common.{take}
use Rattle.just_value.specs.Constants.{constant_rows}
use Rattle.just_value.specs.Frames.{BindsRows, ByNumber}
use Rattle.just_value.proofs.scope.Scope.root.Given as goal

abbrev pub invariant-loop-index : goal.invariant-loop-index
invariant-loop-index l = BindsRows (take l.index constant_rows) l.own × ByNumber l.own
