-- Bodies of recipes lex back: each clause by its lemma.
use Rattle.justfile_syntax.proofs.Bodies.{bodies_begin, lines_go_on, empty_body_lines, texts_go_on, expressions_open, expressions_close, body_lines_end, bodies_end}
use Rattle.justfile_syntax.proofs.WholeBodies.{bodies_lex}
use Rattle.justfile_syntax.proofs.law.bodies_lex_back.Goals as goal

pub returns : goal.returns
returns c = record {
  begin = bodies_begin;
  indented = lines_go_on;
  empty = empty_body_lines;
  text = texts_go_on;
  enter = expressions_open;
  leave = expressions_close;
  end = body_lines_end;
  last = bodies_end;
  whole = bodies_lex;
}
