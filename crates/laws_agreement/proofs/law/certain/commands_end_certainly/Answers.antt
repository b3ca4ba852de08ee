use Rattle.laws_agreement.proofs.Certain.Actions as laws
use Rattle.laws_agreement.proofs.law.certain.commands_end_certainly.Goals as goal

pub returns : goal.returns
returns c = laws.commands_end_certainly
