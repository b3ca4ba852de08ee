-- The line ends where the first newline does.
use Rattle.std.proofs.Common.{Some, None, add-one, arith}
use Rattle.std.proofs.lemmas.Str.Pattern.{find_char}
use Rattle.tree_expressions.proofs.Lines.{lines_at, lines_none}
use Rattle.tree_expressions.proofs.indentation.split_line.Goals as goal

pub returns-in-Some-clause-lines : goal.returns-in-Some-clause-lines
returns-in-Some-clause-lines c =
    let at = find_char 10 c.args.text.now (Some c.in-Some.end) c.in-Some.ensures.cases (omega arith) in
    rw (c.split_at.ensures.front, c.split_at.ensures.back, add-one) (lines_at c.args.text.now c.in-Some.end at.0 at.1 at.2)

pub returns-in-None-clause-lines : goal.returns-in-None-clause-lines
returns-in-None-clause-lines c = lines_none c.args.text.now c.requires (find_char 10 c.args.text.now None c.in-None.ensures.cases (omega arith))
