-- The submodule in the compilation's own modules.
use Rattle.resolve_recipes.proofs.Named.{submodule_found}
use Rattle.resolve_recipes.proofs.paths.submodule.Goals as goal

pub returns : goal.returns
returns c = submodule_found c.args.compilation.now _ c.args.module c.args.name.now c.find_submodule.result c.as_slice.ensures.value c.find_submodule.ensures.found
