-- Of the module that is there.
use Rattle.resolve_recipes.proofs.Leading.{variable_found}
use Rattle.resolve_recipes.proofs.paths.variable.Goals as goal

pub returns-in-Some : goal.returns-in-Some
returns-in-Some c = variable_found c.args.compilation.now c.args.module c.in-Some.node.now _ c.args.name.now c.find.result c.in-Some.ensures c.as_slice.ensures.value c.find.ensures.found
