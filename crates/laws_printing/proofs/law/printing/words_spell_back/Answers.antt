use Rattle.laws_printing.proofs.Printing.Spelled.{derived}
use Rattle.laws_printing.proofs.Printing.Texts.{texts}
use Rattle.laws_printing.proofs.law.printing.words_spell_back.Goals as goal

pub returns-clause-spell : goal.returns-clause-spell
returns-clause-spell c expansion levels k words rest after e d q n = derived expansion levels k words rest after e d q n

pub returns-clause-text : goal.returns-clause-text
returns-clause-text c e after rest = texts e after rest
