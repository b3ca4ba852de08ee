-- No lines are left where no text is.
use Rattle.tree_expressions.proofs.Lines.{are_none_is}
use Rattle.tree_expressions.proofs.indentation.is_outer.Goals as goal

pub returns-else-first : goal.returns-else-first
returns-else-first c = rw (c.is_empty.ensures, c.if-first.false) (are_none_is c.args.rest.now)
