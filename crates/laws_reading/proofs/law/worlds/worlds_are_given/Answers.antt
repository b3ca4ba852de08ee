-- By its lemma.
use Rattle.laws_reading.proofs.Worlds.Inhabited.{worlds_are_given}
use Rattle.laws_reading.proofs.law.worlds.worlds_are_given.Goals as goal

pub returns : goal.returns
returns c = worlds_are_given
