-- By its lemma.
use Rattle.just_meaning.proofs.Naively.{refused_exactly}
use Rattle.just_meaning.proofs.law.refused_exactly.Goals as goal

pub returns : goal.returns
returns c start = refused_exactly _
