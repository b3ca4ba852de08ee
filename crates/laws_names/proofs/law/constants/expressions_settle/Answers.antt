use Rattle.laws_names.proofs.Constants.Expressions.{expressions_settle}
use Rattle.laws_names.proofs.law.constants.expressions_settle.Goals as goal

pub returns : goal.returns
returns c = expressions_settle
