use Rattle.laws_runs.proofs.Defined.Defined as laws
use Rattle.laws_runs.proofs.law.defined.analyses_are_defined.Goals as goal

pub returns : goal.returns
returns c = laws.analyses_are_defined
