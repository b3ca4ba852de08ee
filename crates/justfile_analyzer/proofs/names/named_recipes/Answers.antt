-- A menu more.
use Rattle.std.proofs.Common.{subst}
use Rattle.std.proofs.lemmas.List.{take_all}
use Rattle.justfile_analyzer.specs.MenuRows.{AreNamedBy}
use Rattle.justfile_analyzer.proofs.MenuRows.{more_named, none_named}
use Rattle.justfile_analyzer.proofs.names.named_recipes.Goals as goal

pub loop-module-init : goal.loop-module-init
loop-module-init c = none_named c.new-places.result c.new-places.ensures.empty

pub loop-module-preserved : goal.loop-module-preserved
loop-module-preserved c = more_named c.args.modules.now c.loop-module.module-index c.module-item.result c.loop-module.places c.add_recipes.new.places c.loop-module-test.true c.module-item.is c.loop-module.invariant c.in_ok-add_recipes.ensures

pub returns : goal.returns
returns c = subst (λ row. AreNamedBy row c.loop-module.places) (take_all c.loop-module.module-index c.args.modules.now c.loop-module-test.false) c.loop-module.invariant
