use Rattle.laws_modules.proofs.Definitions.Twice.{single_is_not_twice}
use Rattle.laws_modules.proofs.law.definitions.single_is_not_twice.Goals as goal

pub returns : goal.returns
returns c w os files modules k node ds allowed found is single kind name twice = single_is_not_twice w os files modules k node ds allowed found is single kind name twice
