-- One recipe more.
use Rattle.std.proofs.Common.{ℕ}
use Rattle.std.specs.Global.{Vec}
use Rattle.resolve_analysis.specs.Opening.{needs_of}
use Rattle.resolve_analysis.proofs.Mapped.{mapped_more}
use Rattle.resolve_analysis.proofs.opening.recipe_graph.Goals as goal

pub loop-recipe-preserved : goal.loop-recipe-preserved
loop-recipe-preserved c = mapped_more (λ (row : Vec ℕ). row.items) (needs_of c.args.no_dependencies) c.args.recipes.now c.loop-recipe.recipe-index c.recipe-item.result c.loop-recipe.graph.items c.push.new.self.items c.in_ok-recipe_row.field-0 c.loop-recipe-test.true c.recipe-item.is c.in_ok-push.ensures.items c.in_ok-recipe_row.ensures c.loop-recipe.invariant
