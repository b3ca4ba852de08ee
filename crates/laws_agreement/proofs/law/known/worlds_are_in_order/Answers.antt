use Rattle.laws_agreement.proofs.Known.Ordered as laws
use Rattle.laws_agreement.proofs.law.known.worlds_are_in_order.Goals as goal

pub returns : goal.returns
returns c = laws.worlds_are_in_order
