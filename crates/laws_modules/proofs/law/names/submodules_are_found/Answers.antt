use Rattle.laws_modules.proofs.Names.Modules.{submodules_are_found}
use Rattle.laws_modules.proofs.law.names.submodules_are_found.Goals as goal

pub returns : goal.returns
returns c = submodules_are_found
