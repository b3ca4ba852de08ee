use Rattle.laws_printing.proofs.Printing.Headers.{dependencies_spelled, parameters_spelled}
use Rattle.laws_printing.proofs.law.printing.headers_spell_back.Goals as goal

pub returns-clause-dependencies : goal.returns-clause-dependencies
returns-clause-dependencies c expansion ds words rest after i closed l = dependencies_spelled expansion ds words rest after i closed l

pub returns-clause-parameters : goal.returns-clause-parameters
returns-clause-parameters c expansion ps words rest behind old after i m closed n = parameters_spelled expansion ps words rest behind old after i m closed n
