use Rattle.laws_modules.proofs.Definitions.KeptDefinitions.{meant_are_kept}
use Rattle.laws_modules.proofs.law.definitions.meant_are_kept.Goals as goal

pub returns : goal.returns
returns c w os files modules nodes k node ds kept found order keeps single kind name key at item h = meant_are_kept w os files modules nodes k node ds kept found order keeps single kind name key at item h
