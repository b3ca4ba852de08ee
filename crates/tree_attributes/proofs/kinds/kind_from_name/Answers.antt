-- Each kind is found by its name.
use Rattle.std.proofs.Common.{◌∙◌}
use Rattle.tree_attributes.proofs.KindFound.{found_by_name}
use Rattle.tree_attributes.proofs.kinds.kind_from_name.Goals as goal

pub returns-clause-found : goal.returns-clause-found
returns-clause-found c kind is = c.first_named.ensures.first ∙ found_by_name kind c.args.text.now is
