-- One more line, and all of them.
use Rattle.std.proofs.Common.{arith}
use Rattle.tree_items.specs.Recipes.{body_shape}
use Rattle.just_modules.proofs.BodyLines.{none_below, one_more_clear, all_clear}
use Rattle.just_modules.proofs.rules.check_body.Goals as goal

pub loop-place-init : goal.loop-place-init
loop-place-init c = none_below c.args.guards (body_shape c.args.body.now)

pub loop-place-preserved : goal.loop-place-preserved
loop-place-preserved c = one_more_clear c.args.guards (body_shape c.args.body.now) c.loop-place.place c.loop-place.invariant c.in-Ok.ensures.clear

pub returns-in-Err-clause-broken : goal.returns-in-Err-clause-broken
returns-in-Err-clause-broken c = let b = c.in-Err.ensures.broken in (c.loop-place.place, b.0, b.1, b.2)

pub returns-clause-clear : goal.returns-clause-clear
returns-clause-clear c = all_clear c.args.guards c.args.body.now c.loop-place.place (omega arith) c.loop-place.invariant
