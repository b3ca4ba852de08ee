-- One more definition, and all of them.
use Rattle.just_modules.proofs.Exports.{all_noted, more_noted, none_noted}
use Rattle.just_modules.proofs.compiler.unexported.Goals as goal

pub loop-definition-init : goal.loop-definition-init
loop-definition-init c = none_noted c.new-names.result c.new-names.ensures.empty

pub loop-definition-preserved : goal.loop-definition-preserved
loop-definition-preserved c =
    more_noted c.loop-definition.names c.note_unexport.new.names c.args.definitions.now c.loop-definition.definition-index c.definition-item.result c.loop-definition-test.true c.definition-item.is c.loop-definition.invariant c.in_ok-note_unexport.ensures

pub returns : goal.returns
returns c = all_noted c.loop-definition.names c.args.definitions.now c.loop-definition.definition-index c.loop-definition-test.false c.loop-definition.invariant
