-- An alias more.
use Rattle.std.proofs.Common.{arith}
use Rattle.just_modules.specs.Aliases.{LeadsAt}
use Rattle.just_modules.proofs.Aliases.{hold_all, hold_further, unknown_among}
use Rattle.just_modules.proofs.compiler.check_aliases.Goals as goal

pub loop-place-init : goal.loop-place-init
loop-place-init c = λ all j at lt. absurd (omega (arith, lt))

pub loop-place-preserved : goal.loop-place-preserved
loop-place-preserved c = λ all. hold_further (λ j at. LeadsAt c.args.compilation.now c.args.module at) c.args.aliases.now c.loop-place.place-index _ c.loop-place-test.true (c.loop-place.invariant all) (c.in-Ok.ensures.clear all)

pub returns-in-Err-clause-refused : goal.returns-in-Err-clause-refused
returns-in-Err-clause-refused c = unknown_among c.args.compilation.now c.args.module c.args.aliases.now c.loop-place.place-index _ c.in-Err.refusal c.loop-place-test.true c.loop-place.invariant c.in-Err.ensures.refused

pub returns-clause-clear : goal.returns-clause-clear
returns-clause-clear c = λ all. hold_all (λ j at. LeadsAt c.args.compilation.now c.args.module at) c.args.aliases.now c.loop-place.place-index c.loop-place-test.false (c.loop-place.invariant all)
