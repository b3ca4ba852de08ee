-- A name of no submodule leads nowhere.
use Rattle.std.proofs.Common.{ap, sym, ◌∙◌}
use Rattle.resolve_recipes.specs.Named.{submodule_in}
use Rattle.resolve_recipes.proofs.Named.{module_stops}
use Rattle.resolve_recipes.proofs.paths.module_at.Goals as goal

pub returns-in_err-module : goal.returns-in_err-module
returns-in_err-module c all =
    c.from_residual.ensures
    ∙ sym (module_stops c.args.compilation.now.modules.items c.loop-name.module c.args.names.now c.loop-name.name-index c.name-item.result c.loop-name-test.true c.name-item.is
    (c.in_err-module.ensures all ∙ ap (submodule_in c.args.compilation.now.modules.items c.loop-name.module) c.lexeme.ensures))
    ∙ c.loop-name.invariant all
