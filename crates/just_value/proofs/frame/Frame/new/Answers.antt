-- No binding is in order.
use Rattle.just_value.proofs.Numbered.{none_by_number}
use Rattle.just_value.proofs.frame.Frame.new.Goals as goal

pub invariant_of-result : goal.invariant_of-result
invariant_of-result c = none_by_number c.new.result c.new.ensures
