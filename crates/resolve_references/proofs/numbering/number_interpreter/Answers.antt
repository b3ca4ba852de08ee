-- The command and its arguments say what they said.
use Rattle.std.proofs.Common.{ap₂, ◌++◌}
use Rattle.resolve_references.proofs.numbering.number_interpreter.Goals as goal

pub returns-clause-said : goal.returns-clause-said
returns-clause-said c = λ seen. ap₂ ◌++◌ (c.number_expression.ensures.said seen) (c.number_row.ensures.said seen)
