use Rattle.laws_agreement.proofs.Unique.Unique.{definitions_are_one}
use Rattle.laws_agreement.proofs.law.unique.definitions_are_one.Goals as goal

pub returns : goal.returns
returns c = definitions_are_one
