-- Of indentations there is one setting.
use Rattle.parse_items.proofs.Forms.{indentation_is}
use Rattle.parse_items.proofs.set.set_to_indentation.Goals as goal

pub returns-clause-name : goal.returns-clause-name
returns-clause-name g c = indentation_is c.args.name.now c.requires
