-- Of versions there is one setting.
use Rattle.parse_items.proofs.Forms.{version_is}
use Rattle.parse_items.proofs.set.set_to_version.Goals as goal

pub returns-clause-name : goal.returns-clause-name
returns-clause-name g c = version_is c.args.name.now c.requires
