-- By its lemma.
use Rattle.laws_printing.proofs.Reformatted.Texts.{stand_alike}
use Rattle.laws_printing.proofs.law.reformatted.reformatted_files_stand_alike.Goals as goal

pub returns : goal.returns
returns c = stand_alike
