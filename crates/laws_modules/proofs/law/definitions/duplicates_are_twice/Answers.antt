use Rattle.laws_modules.proofs.Definitions.Twice.{duplicates_are_twice}
use Rattle.laws_modules.proofs.law.definitions.duplicates_are_twice.Goals as goal

pub returns : goal.returns
returns c w os files modules k node ds allowed second found apart is h = duplicates_are_twice w os files modules k node ds allowed second found apart is h
