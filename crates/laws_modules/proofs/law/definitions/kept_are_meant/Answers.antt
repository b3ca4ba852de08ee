use Rattle.laws_modules.proofs.Definitions.KeptDefinitions.{kept_are_meant}
use Rattle.laws_modules.proofs.law.definitions.kept_are_meant.Goals as goal

pub returns : goal.returns
returns c w os files modules nodes k node ds kept found order keeps d kind listed is = kept_are_meant w os files modules nodes k node ds kept found order keeps d kind listed is
