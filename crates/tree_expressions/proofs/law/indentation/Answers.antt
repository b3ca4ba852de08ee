-- The run narrows to the longest.
use Rattle.tree_expressions.proofs.Longest.{the_longest, only_blank, texts_are_cut}
use Rattle.tree_expressions.proofs.law.indentation.Goals as goal

pub returns-clause-longest : goal.returns-clause-longest
returns-clause-longest c = the_longest

pub returns-clause-absent : goal.returns-clause-absent
returns-clause-absent c = only_blank

pub returns-clause-cut : goal.returns-clause-cut
returns-clause-cut c = texts_are_cut
