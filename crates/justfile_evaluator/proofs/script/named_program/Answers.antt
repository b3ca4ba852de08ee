use Rattle.std.proofs.Common.{◌∙◌}
use Rattle.justfile_evaluator.proofs.Shebangs.{stripped, not_stripped}
use Rattle.justfile_evaluator.proofs.script.named_program.Goals as goal

pub returns-in-Some : goal.returns-in-Some
returns-in-Some c = λ begins.
    let h = c.in-Some.ensures.cases in
    c.trim.ensures.trim ∙ stripped c.args.line.now c.in-Some.rest.now h.0 h.1.0 h.2

pub returns-in-None : goal.returns-in-None
returns-in-None c = λ begins. absurd (not_stripped c.args.line.now begins c.in-None.ensures.cases)
