use Rattle.laws_evaluation.proofs.Bodies.Read.{first_read}
use Rattle.justfile_evaluator.proofs.body.Command.begin.Goals as goal

pub returns-clause-marks : goal.returns-clause-marks
returns-clause-marks c = rw (first_read c.args.line.now) c.sigils-self.ensures
