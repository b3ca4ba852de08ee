-- An expression that is numbered has the numbers of what it sees, and says what it said.
use Rattle.std.proofs.Common.{[], ◌∷◌, ap}
use Rattle.resolve_references.proofs.Saying.{numbered_says}
use Rattle.resolve_references.proofs.Seeing.{expression_numbered}
use Rattle.resolve_references.proofs.numbering.number_expression.Goals as goal

pub returns-clause-numbers : goal.returns-clause-numbers
returns-clause-numbers c = expression_numbered c.args.names.now.parameters.now c.args.names.now.bindings.now c.args.expression.now c.resolve_variables.new.expression c.resolve_variables.ensures

pub returns-clause-said : goal.returns-clause-said
returns-clause-said c = λ seen. ap (λ said. said ∷ []) (numbered_says _ c.args.expression.now c.resolve_variables.new.expression c.resolve_variables.ensures)
