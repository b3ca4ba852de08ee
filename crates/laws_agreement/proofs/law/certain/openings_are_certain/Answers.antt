use Rattle.laws_agreement.proofs.Certain.Runs as laws
use Rattle.laws_agreement.proofs.law.certain.openings_are_certain.Goals as goal

pub returns : goal.returns
returns c = laws.openings_are_certain
