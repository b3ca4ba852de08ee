use Rattle.laws_runs.proofs.Views.Seen.{views_are_seen}
use Rattle.laws_runs.proofs.law.views.views_are_seen.Goals as goal

pub returns : goal.returns
returns c = views_are_seen
