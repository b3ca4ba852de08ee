use Rattle.laws_agreement.proofs.Certain.Runs as laws
use Rattle.laws_agreement.proofs.law.certain.runs_end_certainly.Goals as goal

pub returns : goal.returns
returns row c = laws.runs_end_certainly
