-- What is read is what it means.
use Rattle.tree_expressions.proofs.Meanings.{means, answered, at_outside}
use Rattle.std.proofs.Common.{[]}
use Rattle.tree_expressions.specs.declared.escapes.Escape.TheVariants.{Outside}
use Rattle.tree_expressions.proofs.law.escapes.Goals as goal

pub returns-clause-mean : goal.returns-clause-mean
returns-clause-mean c = λ characters. means Outside [] characters at_outside

pub returns-clause-answered : goal.returns-clause-answered
returns-clause-answered c = answered
