-- Worlds.
use Rattle.meaning_rules.proofs.Worlds.Blanks.{layout_is_unseen}
use Rattle.meaning_rules.proofs.Worlds.There.{worlds_are_there}
use Rattle.meaning_rules.proofs.Worlds.Worlds.{unseen_is_unsaid, worlds_agree}
use Rattle.meaning_rules.proofs.law.worlds.worlds.Goals as goal

pub returns-clause-there : goal.returns-clause-there
returns-clause-there c = worlds_are_there

pub returns-clause-same : goal.returns-clause-same
returns-clause-same c = worlds_agree

pub returns-clause-unseen : goal.returns-clause-unseen
returns-clause-unseen c = unseen_is_unsaid

pub returns-clause-layout : goal.returns-clause-layout
returns-clause-layout c = layout_is_unseen
