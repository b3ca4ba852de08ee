use Rattle.laws_modules.proofs.Names.Paths.{targets_are_exact}
use Rattle.laws_modules.proofs.law.names.targets_are_exact.Goals as goal

pub returns : goal.returns
returns c = targets_are_exact
