-- By its lemma.
use Rattle.just_meaning.proofs.Naively.{plans_tell_events}
use Rattle.just_meaning.proofs.law.plans_tell_events.Goals as goal

pub returns : goal.returns
returns c = plans_tell_events
