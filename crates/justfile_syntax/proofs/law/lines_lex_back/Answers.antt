-- Lines outside bodies lex back: each clause by its lemma.
use Rattle.justfile_syntax.proofs.Lines.{starts_like_a_line, lines_begin, brackets_begin, colons_announce, lines_end, empty_lines, comment_lines, texts_end}
use Rattle.justfile_syntax.proofs.law.lines_lex_back.Goals as goal

pub returns : goal.returns
returns c = record {
  start = starts_like_a_line;
  begin = lines_begin;
  bracket = brackets_begin;
  colon = colons_announce;
  end = lines_end;
  empty = empty_lines;
  comment = comment_lines;
  last = texts_end;
}
