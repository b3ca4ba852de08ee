-- One more definition, and all of them.
use Rattle.std.proofs.Common.{[], ◌∷◌, subst}
use Rattle.modules_definitions.specs.Lists.{Gains}
use Rattle.modules_definitions.proofs.Gaining.{gains_all, gains_next}
use Rattle.modules_definitions.proofs.lists.put_all.Goals as goal

pub loop-definition-preserved : goal.loop-definition-preserved
loop-definition-preserved c =
    let node = c.loop-definition.node in
    gains_next [] c.args.node.now node c.put.new.node c.args.kept.now c.loop-definition.definition-index c.definition-item.result c.loop-definition-test.true c.loop-definition.invariant
    (subst (λ d. Gains node.submodules.items node c.put.new.node (d ∷ [])) c.definition-item.is c.in_ok-put.ensures)

pub returns : goal.returns
returns c = gains_all [] c.args.node.now c.loop-definition.node c.args.kept.now c.loop-definition.definition-index c.loop-definition-test.false c.loop-definition.invariant
