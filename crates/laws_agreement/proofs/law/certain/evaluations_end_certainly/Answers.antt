use Rattle.laws_agreement.proofs.Certain.Actions as laws
use Rattle.laws_agreement.proofs.law.certain.evaluations_end_certainly.Goals as goal

pub returns : goal.returns
returns c = laws.evaluations_end_certainly
