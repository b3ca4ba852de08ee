use Rattle.laws_names.proofs.Constants.Expressions.{constants_tell_names}
use Rattle.laws_names.proofs.law.constants.constants_tell_names.Goals as goal

pub returns : goal.returns
returns c = constants_tell_names
