use Rattle.laws_modules.proofs.Names.Paths.{targets_are_meant}
use Rattle.laws_modules.proofs.law.names.targets_are_meant.Goals as goal

pub returns : goal.returns
returns c = targets_are_meant
