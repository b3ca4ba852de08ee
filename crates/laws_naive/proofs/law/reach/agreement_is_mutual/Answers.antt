-- By its lemma.
use Rattle.laws_naive.proofs.Reach.Runs.{agreement_is_mutual}
use Rattle.laws_naive.proofs.law.reach.agreement_is_mutual.Goals as goal

pub returns : goal.returns
returns c = agreement_is_mutual
