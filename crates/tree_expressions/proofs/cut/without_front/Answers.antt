-- `strip_prefix` leaves the text without the front.
use Rattle.std.proofs.Common.{ap, ◌∙◌}
use Rattle.tree_expressions.proofs.Cuts.{stripped_front}
use Rattle.tree_expressions.proofs.cut.without_front.Goals as goal

pub returns : goal.returns
returns c = ap (λ r. r.now) c.unwrap_or.ensures ∙ stripped_front c.args.front.now c.args.text c.strip_prefix.result c.strip_prefix.ensures.cases
