-- A path is printed as its names.
use Rattle.tree_items.proofs.PathNames.{path_is}
use Rattle.tree_items.proofs.rows.PathDisplay.fmt.Goals as goal

pub returns-clause-writes : goal.returns-clause-writes
returns-clause-writes g c = rw (path_is c.args.self.now.0.now) c.write.ensures.writes
