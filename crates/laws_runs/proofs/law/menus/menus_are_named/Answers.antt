use Rattle.laws_runs.proofs.Resolved.Leading.{paths_lead}
use Rattle.laws_runs.proofs.Resolved.Own.{paths_are_own, places_have_paths}
use Rattle.laws_runs.proofs.Menus.Renaming.{is_renamed}
use Rattle.laws_runs.proofs.law.menus.menus_are_named.Goals as goal

pub returns : goal.returns
returns c w compilation reads table tabled o settle base working settings lists words menus are = is_renamed paths_lead paths_are_own places_have_paths w compilation reads table tabled o settle base working settings words menus are lists
