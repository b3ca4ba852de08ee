-- Nothing is wrong with the lines before.
use Rattle.tree_items.specs.Recipes.{body_shape}
use Rattle.just_modules.proofs.BodyLines.{AreClearBelow}
use Rattle.just_modules.proofs.rules.check_body.Given as goal

abbrev pub invariant-loop-place : goal.invariant-loop-place
invariant-loop-place l = AreClearBelow l.guards (body_shape l.body) l.place
