use Rattle.laws_agreement.proofs.Known.Invoked as laws
use Rattle.laws_agreement.proofs.law.known.invoked_are_known.Goals as goal

pub returns : goal.returns
returns c = laws.invoked_are_known
