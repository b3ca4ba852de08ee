-- What is found is the kind with that name.
use Rattle.parse_attributes.proofs.KindNames.{found_just_so}
use Rattle.parse_attributes.proofs.attribute.kind_named.Goals as goal

pub returns : goal.returns
returns c = found_just_so c.args.name.now c.kind_from_name.result c.kind_from_name.ensures.named c.kind_from_name.ensures.found
