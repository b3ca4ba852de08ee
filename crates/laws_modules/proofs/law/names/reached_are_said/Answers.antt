use Rattle.laws_modules.proofs.Names.Modules.{reached_are_said}
use Rattle.laws_modules.proofs.law.names.reached_are_said.Goals as goal

pub returns : goal.returns
returns c = reached_are_said
