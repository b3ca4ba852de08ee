use Rattle.evaluate_variables.specs.Opened.{reads}
use Rattle.evaluate_variables.proofs.Known.{frames_known}
use Rattle.evaluate_variables.proofs.assignments.evaluate_assignments.Goals as goal

pub returns-clause-known : goal.returns-clause-known
returns-clause-known g c = λ known. frames_known c.args.context.now (reads c.args.references) _ _ _ c.open_frame.ensures.opens known
