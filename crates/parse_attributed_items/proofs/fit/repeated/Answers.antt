-- Each turn looks at the first of those that are left.
use Rattle.std.proofs.Common.{◌∙◌, sym, ap}
use Rattle.tree_attributes.specs.Attributes.{AttributeShape}
use Rattle.std.proofs.Common.{Option}
use Rattle.std.specs.Option.{option_map}
use Rattle.parse_attributed_items.proofs.Repeated.{kind_text, stands_again, stands_once}
use Rattle.parse_attributed_items.proofs.fit.repeated.Goals as goal

pub returns-then-is_some : goal.returns-then-is_some
returns-then-is_some c =
    stands_again c.args.reads.now c.loop-i.i c.index-reads-i.result c.loop-i-test.true c.index-reads-i.is c.again-again.result c.again-again.ensures.found (sym c.is_some.ensures ∙ c.if-is_some.true) c.again-again.ensures.named
    ∙ ap (λ (o : Option AttributeShape). option_map kind_text o) c.loop-i.invariant

pub loop-i-preserved : goal.loop-i-preserved
loop-i-preserved c =
    sym (stands_once c.args.reads.now c.loop-i.i c.index-reads-i.result c.loop-i-test.true c.index-reads-i.is c.again-again.result c.again-again.ensures.found (sym c.is_some.ensures ∙ c.if-is_some.false)) ∙ c.loop-i.invariant
