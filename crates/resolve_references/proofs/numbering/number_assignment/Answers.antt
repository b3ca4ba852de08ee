-- The right side sees no parameter.
use Rattle.std.proofs.Common.{[]}
use Rattle.resolve_references.proofs.Seeing.{has_numbers}
use Rattle.resolve_references.proofs.numbering.number_assignment.Goals as goal

pub returns-clause-numbers : goal.returns-clause-numbers
returns-clause-numbers c = has_numbers c.new-none.result c.args.bindings.now _ _ c.resolve_variables.ensures.shape c.resolve_variables.ensures.numbers [] c.new-none.ensures
