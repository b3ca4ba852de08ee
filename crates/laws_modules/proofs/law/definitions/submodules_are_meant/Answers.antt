use Rattle.laws_modules.proofs.Definitions.Inner.{submodules_are_meant}
use Rattle.laws_modules.proofs.law.definitions.submodules_are_meant.Goals as goal

pub returns : goal.returns
returns c w os files modules later k before after ds kept settled children same gains = submodules_are_meant w os files modules later k before after ds kept settled children same gains
