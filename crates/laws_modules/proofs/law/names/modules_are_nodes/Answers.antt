use Rattle.laws_modules.proofs.Names.Modules.{modules_are_nodes}
use Rattle.laws_modules.proofs.law.names.modules_are_nodes.Goals as goal

pub returns : goal.returns
returns c = modules_are_nodes
