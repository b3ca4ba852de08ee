-- The outermost frame that is left gives its bindings.
use Rattle.std.proofs.Common.{◌-◌, arith}
use Rattle.evaluate_context.proofs.FramePairs.{one_frame_pushed}
use Rattle.evaluate_context.proofs.pairs.push_frames.Goals as goal

pub loop-place-preserved : goal.loop-place-preserved
loop-place-preserved c =
    one_frame_pushed c.args.export c.outer-frames.result.now c.loop-place.place (c.loop-place.place - 1) c.index-frames-place.result c.loop-place.pairs c.push_frame.new.pairs _
    (omega (arith, c.loop-place-test.true)) c.loop-place.auto.place c.index-frames-place.is c.in_ok-push_frame.ensures c.loop-place.invariant
