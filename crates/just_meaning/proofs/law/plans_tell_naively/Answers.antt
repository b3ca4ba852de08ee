-- By its lemma.
use Rattle.just_meaning.proofs.Naively.{plans_tell_naively}
use Rattle.just_meaning.proofs.law.plans_tell_naively.Goals as goal

pub returns : goal.returns
returns c start = plans_tell_naively _
