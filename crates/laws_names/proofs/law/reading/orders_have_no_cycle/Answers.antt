use Rattle.laws_names.proofs.Reading.Cycles.{orders_have_no_cycle}
use Rattle.laws_names.proofs.law.reading.orders_have_no_cycle.Goals as goal

pub returns : goal.returns
returns c = orders_have_no_cycle
