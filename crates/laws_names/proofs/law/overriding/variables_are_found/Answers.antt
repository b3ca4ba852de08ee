use Rattle.laws_names.proofs.Overriding.Found.{variables_are_found}
use Rattle.laws_names.proofs.law.overriding.variables_are_found.Goals as goal

pub returns : goal.returns
returns c = variables_are_found
