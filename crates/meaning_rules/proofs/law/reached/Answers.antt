-- What is reached.
use Rattle.meaning_rules.proofs.Below.{dependencies_stand_below, modules_stand_below}
use Rattle.meaning_rules.proofs.Reached.{cycles_are_reached, unsaid_breaks_none}
use Rattle.meaning_rules.proofs.Unreached.{unreached_is_unbroken}
use Rattle.meaning_rules.proofs.law.reached.Goals as goal

pub returns-clause-cycles : goal.returns-clause-cycles
returns-clause-cycles c = cycles_are_reached

pub returns-clause-unsaid : goal.returns-clause-unsaid
returns-clause-unsaid c = unsaid_breaks_none

pub returns-clause-example : goal.returns-clause-example
returns-clause-example c = unreached_is_unbroken

pub returns-clause-below : goal.returns-clause-below
returns-clause-below c = modules_stand_below

pub returns-clause-dependencies : goal.returns-clause-dependencies
returns-clause-dependencies c = dependencies_stand_below
