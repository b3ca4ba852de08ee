-- Runs that go alike.
use Rattle.std.proofs.Common.{refl}
use Rattle.just_meaning.specs.Determined.{both_ran, both_refused}
use Rattle.just_meaning.proofs.law.runs_go_alike.Goals as goal

pub returns-clause-refused : goal.returns-clause-refused
returns-clause-refused c start old new old' new' t t' fault fault' = both_refused fault fault' refl refl

pub returns-clause-events : goal.returns-clause-events
returns-clause-events c start old piece old' piece' t failure same = both_ran piece piece' failure refl refl same refl refl refl
