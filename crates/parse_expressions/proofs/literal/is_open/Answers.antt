-- The test answers by the bytes.
use Rattle.std.proofs.Common.{codes}
use Rattle.std.proofs.lemmas.Str.Pattern.{ends_text}
use Rattle.parse_expressions.proofs.literal.is_open.Goals as goal

pub returns : goal.returns
returns c = ends_text c.ends_with.result (codes "{{") c.args.part.now c.ends_with.ensures.cases
