-- A submodule more.
use Rattle.std.proofs.Common.{refl, subst}
use Rattle.std.proofs.lemmas.List.{take_all}
use Rattle.analyze_words.specs.declared.menu.Meaning.TheVariants.{Submodule}
use Rattle.justfile_analyzer.specs.MenusOf.{is_called, submodule_meant}
use Rattle.justfile_analyzer.specs.MenuRows.{Gains}
use Rattle.justfile_analyzer.proofs.MenuRows.{gains_none, gains_then, last_more}
use Rattle.justfile_analyzer.proofs.names.put_submodules.Goals as goal

pub loop-module-init : goal.loop-module-init
loop-module-init c = gains_none c.args.menu.now (λ name. refl)

pub loop-module-preserved : goal.loop-module-preserved
loop-module-preserved c =
    let modules = c.args.modules.now in
    gains_then c.args.menu.now c.loop-module.menu c.put_submodule.new.menu (λ name. last_more (is_called modules name) Submodule c.args.submodules.now c.loop-module.module-index 0 _ c.loop-module-test.true refl)
    c.loop-module.invariant c.in_ok-put_submodule.ensures

pub returns : goal.returns
returns c = subst (λ row. Gains (submodule_meant c.args.modules.now row) c.args.menu.now c.loop-module.menu) (take_all c.loop-module.module-index c.args.submodules.now c.loop-module-test.false) c.loop-module.invariant
