-- One that is there says what it said.
use Rattle.std.proofs.Common.{sym, ap, ◌∙◌}
use Rattle.resolve_references.specs.Said.{said_by}
use Rattle.resolve_references.specs.Seen.{seeing_if_there}
use Rattle.resolve_references.proofs.numbering.number_if_there.Goals as goal

pub returns-in-Some-clause-said : goal.returns-in-Some-clause-said
returns-in-Some-clause-said c = λ seen. c.number_expression.ensures.said seen ∙ ap (λ e. said_by (seeing_if_there seen e)) (sym c.in-Some.is)
