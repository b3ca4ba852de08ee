use Rattle.justfile_evaluator.proofs.Scripts.{ends_well, ends_ill}
use Rattle.justfile_evaluator.proofs.script.end.Goals as goal

pub returns-in-Ok-clause-ended : goal.returns-in-Ok-clause-ended
returns-in-Ok-clause-ended c = ends_well _ _ c.in-Ok.ensures.next

pub returns-in-Err-clause-ended : goal.returns-in-Err-clause-ended
returns-in-Err-clause-ended c = ends_ill _ _ c.in-Err.ensures.next
