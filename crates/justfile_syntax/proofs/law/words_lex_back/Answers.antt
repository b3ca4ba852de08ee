-- Words lex back: each clause by its lemma.
use Rattle.just_lexer.specs.Modes.{innermost}
use Rattle.justfile_syntax.proofs.Words.{joins_up, comes_apart, lexes_back}
use Rattle.justfile_syntax.proofs.Stands.{stands}
use Rattle.justfile_syntax.proofs.Table.{table_holds, breaks_keep_apart}
use Rattle.justfile_syntax.proofs.law.words_lex_back.Goals as goal

pub returns : goal.returns
returns c = record {
  joins = joins_up;
  apart = comes_apart;
  back = lexes_back;
  fits = λ m w rest h. stands m.line (innermost m.opened) w rest h;
  table = table_holds;
  breaks = breaks_keep_apart;
}
