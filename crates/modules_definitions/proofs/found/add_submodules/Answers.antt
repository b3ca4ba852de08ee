-- One more submodule, and all of them.
use Rattle.std.proofs.lemmas.Option.{slice_get-get_or}
use Rattle.modules_definitions.proofs.Apart.{more_submodules_apart}
use Rattle.modules_definitions.proofs.Finding.{all_submodules, more_submodules, no_submodules}
use Rattle.modules_definitions.proofs.found.add_submodules.Goals as goal

pub loop-module-init : goal.loop-module-init
loop-module-init c = record { each = no_submodules c.args.files.now c.args.modules.now c.args.submodules.now c.args.found.now.items; apart = λ once elsewhere apart. apart }

pub loop-module-preserved : goal.loop-module-preserved
loop-module-preserved c =
    let read = slice_get-get_or c.args.submodules.now c.loop-module.module-index _ c.loop-module-test.true in
    record {
      each = more_submodules c.args.files.now c.args.modules.now c.args.submodules.now c.loop-module.module-index _ c.args.found.now.items c.loop-module.found.items c.add_submodule.new.found.items read c.loop-module.invariant.each c.in_ok-add_submodule.ensures.each;
      apart = λ once. more_submodules_apart c.args.files.now c.args.modules.now c.args.submodules.now c.loop-module.module-index _ c.args.found.now.items c.loop-module.found.items c.add_submodule.new.found.items read once c.loop-module.invariant.each
          (c.loop-module.invariant.apart once) c.in_ok-add_submodule.ensures.apart;
    }

pub returns-clause-each : goal.returns-clause-each
returns-clause-each c = all_submodules c.args.files.now c.args.modules.now c.args.submodules.now c.loop-module.module-index c.args.found.now.items c.loop-module.found.items c.loop-module-test.false c.loop-module.invariant.each

pub returns-clause-apart : goal.returns-clause-apart
returns-clause-apart c = c.loop-module.invariant.apart
