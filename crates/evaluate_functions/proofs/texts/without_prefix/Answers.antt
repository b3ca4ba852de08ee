-- `strip_prefix` leaves the text without the mark.
use Rattle.std.proofs.Common.{ap, ◌∙◌}
use Rattle.tree_expressions.proofs.Cuts.{stripped_front}
use Rattle.evaluate_functions.proofs.texts.without_prefix.Goals as goal

pub returns : goal.returns
returns c = ap (λ r. r.now) c.unwrap_or.ensures ∙ stripped_front c.args.mark.now c.args.text c.strip_prefix.result c.strip_prefix.ensures.cases
