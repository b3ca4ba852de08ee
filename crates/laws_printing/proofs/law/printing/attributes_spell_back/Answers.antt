use Rattle.laws_printing.proofs.Printing.Attributes.{attribute_again, lines_again}
use Rattle.laws_printing.proofs.law.printing.attributes_spell_back.Goals as goal

pub returns-clause-one : goal.returns-clause-one
returns-clause-one c expansion x words rest i = attribute_again expansion x words rest i

pub returns-clause-lines : goal.returns-clause-lines
returns-clause-lines c expansion xs after rows comment bracket = lines_again expansion xs after rows comment bracket
