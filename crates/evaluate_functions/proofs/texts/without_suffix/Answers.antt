-- `strip_suffix` leaves the text without the mark.
use Rattle.std.proofs.Common.{ap, ◌∙◌}
use Rattle.tree_expressions.proofs.Cuts.{stripped_back}
use Rattle.evaluate_functions.proofs.texts.without_suffix.Goals as goal

pub returns : goal.returns
returns c = ap (λ r. r.now) c.unwrap_or.ensures ∙ stripped_back c.args.mark.now c.args.text c.strip_suffix.result c.strip_suffix.ensures.cases
