-- The longer line end is tried first.
use Rattle.std.proofs.Common.{ap, ◌∙◌}
use Rattle.evaluate_builtins.proofs.Lines.{both_taken, one_taken}
use Rattle.evaluate_builtins.proofs.command.without_line_end.Goals as goal

pub returns-in-Some : goal.returns-in-Some
returns-in-Some c = both_taken c.args.text c.in-Some.line c.in-Some.ensures.cases

pub returns-in-None : goal.returns-in-None
returns-in-None c = ap (λ r. r.now) c.unwrap_or.ensures ∙ one_taken c.args.text c.strip_suffix-in-None.result c.in-None.ensures.cases c.strip_suffix-in-None.ensures.cases
