use Rattle.laws_modules.proofs.Definitions.Single.{single_are_of_one_kind}
use Rattle.laws_modules.proofs.law.definitions.single_are_of_one_kind.Goals as goal

pub returns : goal.returns
returns c w os files modules k node ds allowed found single = single_are_of_one_kind w os files modules k node ds allowed found single
