-- Openings where all variables open.
use Rattle.laws_agreement.proofs.Determined.Openings.{kept_openings}
use Rattle.laws_agreement.proofs.law.determined.kept_openings_are_determined.Goals as goal

pub returns : goal.returns
returns c = kept_openings
