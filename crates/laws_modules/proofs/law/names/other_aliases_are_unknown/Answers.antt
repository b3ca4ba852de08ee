use Rattle.laws_modules.proofs.Names.Aliases.{other_aliases_are_unknown}
use Rattle.laws_modules.proofs.law.names.other_aliases_are_unknown.Goals as goal

pub returns : goal.returns
returns c = other_aliases_are_unknown
