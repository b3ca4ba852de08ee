-- Both directions are proved.
use Rattle.laws_runs.proofs.Steady.Stands.{stands_alike}
use Rattle.laws_runs.proofs.law.steady.steadiness_stands.Goals as goal

pub returns : goal.returns
returns c = λ w compilation resolvable given base working analysis known settled. stands_alike w compilation resolvable given base working analysis known settled
