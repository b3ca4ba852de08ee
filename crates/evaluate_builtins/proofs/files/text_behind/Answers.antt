-- A fault says what was done with the path.
use Rattle.evaluate_builtins.proofs.Words.{path_refusal}
use Rattle.evaluate_builtins.proofs.files.text_behind.Goals as goal

pub returns-in-Err : goal.returns-in-Err
returns-in-Err c name = rw c.in-Err.is (path_refusal name c.args.doing.now c.args.path.now c.in-Err.fault c.failed.result c.failed.ensures)
