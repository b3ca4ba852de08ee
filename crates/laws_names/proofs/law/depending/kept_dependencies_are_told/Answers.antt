use Rattle.laws_names.proofs.Depending.Told.{kept_dependencies_are_told}
use Rattle.laws_names.proofs.law.depending.kept_dependencies_are_told.Goals as goal

pub returns : goal.returns
returns c = kept_dependencies_are_told
