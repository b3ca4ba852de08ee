-- Openings where recipes are invoked.
use Rattle.laws_agreement.proofs.Determined.Openings.{run_openings}
use Rattle.laws_agreement.proofs.law.determined.run_openings_are_determined.Goals as goal

pub returns : goal.returns
returns c = run_openings
