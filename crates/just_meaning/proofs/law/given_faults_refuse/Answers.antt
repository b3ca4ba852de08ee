-- By its lemma.
use Rattle.just_meaning.proofs.Naively.{given_faults_refuse}
use Rattle.just_meaning.proofs.law.given_faults_refuse.Goals as goal

pub returns : goal.returns
returns c = given_faults_refuse
