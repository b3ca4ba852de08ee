-- Of the module that is there.
use Rattle.resolve_recipes.proofs.Disabled.{by_node}
use Rattle.resolve_recipes.proofs.recipe_resolver.disabled_place.Goals as goal

pub returns-in-Some : goal.returns-in-Some
returns-in-Some c = by_node c.args.compilation.now c.args.module c.in-Some.node.now _ c.args.name.now c.find.result c.in-Some.ensures c.as_slice.ensures.value c.find.ensures.found
