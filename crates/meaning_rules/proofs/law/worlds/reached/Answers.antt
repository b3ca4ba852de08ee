-- What is reached.
use Rattle.meaning_rules.proofs.Worlds.Kept.{keeps_at_most_one}
use Rattle.meaning_rules.proofs.Worlds.Reached.{compilations_have_root, modules_are_reached, settings_stand_alone}
use Rattle.meaning_rules.proofs.law.worlds.reached.Goals as goal

pub returns-clause-modules : goal.returns-clause-modules
returns-clause-modules c = modules_are_reached

pub returns-clause-settings : goal.returns-clause-settings
returns-clause-settings c = settings_stand_alone

pub returns-clause-root : goal.returns-clause-root
returns-clause-root c = compilations_have_root

pub returns-clause-definitions : goal.returns-clause-definitions
returns-clause-definitions c = keeps_at_most_one
