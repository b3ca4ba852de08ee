use Rattle.laws_modules.proofs.Names.Aliases.{leading_aliases_are_known}
use Rattle.laws_modules.proofs.law.names.leading_aliases_are_known.Goals as goal

pub returns : goal.returns
returns c = leading_aliases_are_known
