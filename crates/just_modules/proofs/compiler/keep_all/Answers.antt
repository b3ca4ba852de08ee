-- One more module, and all of them.
use Rattle.std.proofs.Common.{refl, arith}
use Rattle.just_modules.proofs.Keeping.{all_filled, filled_more, first_refused, none_filled}
use Rattle.just_modules.proofs.compiler.keep_all.Goals as goal

pub loop-place-init : goal.loop-place-init
loop-place-init c = none_filled c.args.config.now.os c.args.config.now.unstable c.args.compilation.now c.args.compilation.now refl refl

pub loop-place-preserved : goal.loop-place-preserved
loop-place-preserved c =
    filled_more c.args.config.now.os c.args.config.now.unstable c.args.compilation.now c.loop-place.compilation c.loop-place.place c.loop-place.invariant c.keep.new.compilation c.in-Ok.ensures.files c.in-Ok.ensures.filled

pub returns-in-Err-clause-refused : goal.returns-in-Err-clause-refused
returns-in-Err-clause-refused c =
    first_refused c.args.config.now.os c.args.config.now.unstable c.args.compilation.now c.loop-place.compilation c.loop-place.place c.loop-place.invariant c.in-Err.refusal c.in-Err.ensures.refused

pub returns-clause-filled : goal.returns-clause-filled
returns-clause-filled c =
    all_filled c.args.config.now.os c.args.config.now.unstable c.args.compilation.now c.loop-place.compilation c.loop-place.place c.loop-place.invariant (omega (arith, c.loop-place-test.false, c.len-place-end.ensures))
