use Rattle.laws_runs.proofs.Resolved.Own.{places_have_paths}
use Rattle.laws_runs.proofs.law.resolved.places_have_paths.Goals as goal

pub returns : goal.returns
returns c = places_have_paths
