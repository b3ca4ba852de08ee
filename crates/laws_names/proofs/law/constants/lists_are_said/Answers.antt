use Rattle.laws_names.proofs.Constants.Lists.{lists_are_said}
use Rattle.laws_names.proofs.law.constants.lists_are_said.Goals as goal

pub returns : goal.returns
returns c = lists_are_said
