use Rattle.laws_names.proofs.Depending.Refused.{disabled_dependencies_are_told}
use Rattle.laws_names.proofs.law.depending.disabled_dependencies_are_told.Goals as goal

pub returns : goal.returns
returns c = disabled_dependencies_are_told
