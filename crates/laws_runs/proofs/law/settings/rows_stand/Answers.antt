use Rattle.laws_runs.proofs.Resolved.Leading.{modules_stand, paths_lead}
use Rattle.laws_runs.proofs.Settings.Rows.{rows_stand}
use Rattle.laws_runs.proofs.law.settings.rows_stand.Goals as goal

pub returns : goal.returns
returns c = rows_stand modules_stand paths_lead
