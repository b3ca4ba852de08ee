-- A comment without its mark, and without white space around the rest.
use Rattle.std.proofs.Common.{codes, ap, ◌∙◌}
use Rattle.std.specs.Str.{trim}
use Rattle.justfile_analyzer.proofs.listing.comment_text.Goals as goal
use Rattle.tree_expressions.proofs.Cuts.{stripped_front}

pub returns : goal.returns
returns c = c.trim.ensures.trim ∙ ap trim (ap (λ x. x.now) c.unwrap_or.ensures ∙ stripped_front (codes "#") c.args.comment c.strip_prefix.result c.strip_prefix.ensures.cases)
