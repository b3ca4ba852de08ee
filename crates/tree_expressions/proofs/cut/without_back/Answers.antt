-- `strip_suffix` leaves the text without the back.
use Rattle.std.proofs.Common.{ap, ◌∙◌}
use Rattle.tree_expressions.proofs.Cuts.{stripped_back}
use Rattle.tree_expressions.proofs.cut.without_back.Goals as goal

pub returns : goal.returns
returns c = ap (λ r. r.now) c.unwrap_or.ensures ∙ stripped_back c.args.back.now c.args.text c.strip_suffix.result c.strip_suffix.ensures.cases
