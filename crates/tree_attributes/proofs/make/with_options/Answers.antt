use Rattle.std.proofs.Common.{refl}
use Rattle.tree_attributes.proofs.make.with_options.Goals as goal

pub returns : goal.returns
returns c = (c.in_ok-boxed.field-0, refl, c.in_ok-boxed.ensures)
