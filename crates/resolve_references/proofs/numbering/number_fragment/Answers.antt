-- An interpolation says what it said.
use Rattle.std.proofs.Common.{sym, ap, ◌∙◌}
use Rattle.resolve_references.specs.Said.{said_by}
use Rattle.resolve_references.specs.Seen.{seen_in_fragment}
use Rattle.resolve_references.proofs.numbering.number_fragment.Goals as goal

pub returns-in-Interpolation-clause-said : goal.returns-in-Interpolation-clause-said
returns-in-Interpolation-clause-said c = λ seen. c.number_expression.ensures.said seen ∙ ap (λ fragment. said_by (seen_in_fragment seen fragment)) (sym c.in-Interpolation.is)
