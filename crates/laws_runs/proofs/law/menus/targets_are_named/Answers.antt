use Rattle.laws_runs.proofs.Resolved.Leading.{paths_lead}
use Rattle.laws_runs.proofs.Resolved.Own.{paths_are_own}
use Rattle.laws_runs.proofs.Menus.Targets.{targets_are_named}
use Rattle.laws_runs.proofs.law.menus.targets_are_named.Goals as goal

pub returns : goal.returns
returns c = targets_are_named paths_lead paths_are_own
