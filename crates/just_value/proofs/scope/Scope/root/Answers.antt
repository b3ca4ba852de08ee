-- One more constant is bound.
use Rattle.std.proofs.Common.{arith, ap, ◌∙◌, get_or}
use Rattle.just_value.specs.Constants.{constant_rows, row_of}
use Rattle.just_value.specs.Frames.{bound_of, constant_binding}
use Rattle.just_value.proofs.ConstantsInFrame.{one_row_more, no_row}
use Rattle.just_value.proofs.scope.Scope.root.Goals as goal

pub loop-index-preserved : goal.loop-index-preserved
loop-index-preserved c =
    let row = row_of (get_or c.constants.result.now c.loop-index.index no_row) in (
      one_row_more c.constants.result.now constant_rows c.loop-index.index no_row (bound_of c.in_ok-binding.binding) c.loop-index.own c.bind.new.self
          c.constants.ensures.rows (omega (arith, c.constants.ensures.count)) (c.in_ok-binding.ensures ∙ ap (λ n. constant_binding n row) c.constant-number.ensures)
          c.loop-index.invariant.0 c.in_ok-bind.ensures.bound,
      c.in_ok-bind.ensures.sorted,
    )
