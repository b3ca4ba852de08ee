use Rattle.laws_modules.proofs.Names.Modules.{none_is_twice}
use Rattle.laws_modules.proofs.law.names.none_is_twice.Goals as goal

pub returns : goal.returns
returns c = none_is_twice
