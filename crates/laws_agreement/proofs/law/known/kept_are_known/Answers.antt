use Rattle.laws_agreement.proofs.Known.Known as laws
use Rattle.laws_agreement.proofs.law.known.kept_are_known.Goals as goal

pub returns : goal.returns
returns c = laws.kept_are_known
