use Rattle.laws_modules.proofs.Names.Aliases.{module_aliases_are_refused}
use Rattle.laws_modules.proofs.law.names.module_aliases_are_refused.Goals as goal

pub returns : goal.returns
returns c = module_aliases_are_refused
