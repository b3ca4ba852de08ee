-- Attributes that are numbered are written as before, and have the numbers of what they see.
use Rattle.tree_attributes.specs.Sets.Sets.{items_of}
use Rattle.resolve_references.proofs.Saying.{attributes_say}
use Rattle.resolve_references.proofs.Seeing.{attributes_numbered}
use Rattle.resolve_references.proofs.Whole.{attributes_seen, shapes_from_written}
use Rattle.resolve_references.proofs.numbering.number_attributes.Goals as goal

pub returns-clause-same : goal.returns-clause-same
returns-clause-same c = attributes_seen _ _ (items_of c.args.attributes.now) (items_of c.resolve_attributes.new.attributes) c.resolve_attributes.ensures.numbered

pub returns-clause-shapes : goal.returns-clause-shapes
returns-clause-shapes c = shapes_from_written (items_of c.args.attributes.now) (items_of c.resolve_attributes.new.attributes) c.resolve_attributes.ensures.written

pub returns-clause-numbers : goal.returns-clause-numbers
returns-clause-numbers c = attributes_numbered c.args.names.now.parameters.now c.args.names.now.bindings.now c.new-none.result c.new-none.ensures (items_of c.args.attributes.now) (items_of c.resolve_attributes.new.attributes) c.resolve_attributes.ensures.numbered

pub returns-clause-said : goal.returns-clause-said
returns-clause-said c = attributes_say _ _ (items_of c.args.attributes.now) (items_of c.resolve_attributes.new.attributes) c.resolve_attributes.ensures.numbered
