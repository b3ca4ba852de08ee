-- There is a submodule.
use Rattle.modules_definitions.proofs.Apart.{submodule_apart}
use Rattle.modules_definitions.proofs.Finding.{submodule_found}
use Rattle.modules_definitions.proofs.found.add_submodule.Goals as goal

pub returns-in_ok-push-in-Some-clause-each : goal.returns-in_ok-push-in-Some-clause-each
returns-in_ok-push-in-Some-clause-each c =
    submodule_found c.args.files.now c.args.modules.now c.args.module c.in-Some.inner.name.now c.in-Some.inner.place c.new.result c.args.found.now.items c.push.new.self.items c.in-Some.ensures c.new.ensures c.in_ok-push-in-Some.ensures.items

pub returns-in_ok-push-in-Some-clause-apart : goal.returns-in_ok-push-in-Some-clause-apart
returns-in_ok-push-in-Some-clause-apart c =
    submodule_apart c.args.files.now c.args.modules.now c.args.module c.in-Some.inner.name.now c.in-Some.inner.place c.new.result c.args.found.now.items c.push.new.self.items c.in-Some.ensures c.new.ensures.place_is c.in_ok-push-in-Some.ensures.items
