use Rattle.laws_modules.proofs.Definitions.Defined.{definitions_are_meant}
use Rattle.laws_modules.proofs.law.definitions.definitions_are_meant.Goals as goal

pub returns : goal.returns
returns c w os files modules nodes k node ds found = definitions_are_meant w os files modules nodes k node ds found
