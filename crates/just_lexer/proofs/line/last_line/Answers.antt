-- What stands after the last newline, or all where there is none.
use Rattle.std.proofs.Common.{Some, None, ◌∙◌, sym, arith}
use Rattle.std.proofs.lemmas.Str.Pattern.{rfind_char}
use Rattle.just_lexer.proofs.Lines.{after_last_newline, after_no_newline}
use Rattle.just_lexer.proofs.line.last_line.Goals as goal

pub returns-in-Some : goal.returns-in-Some
returns-in-Some c =
    let text = c.args.text.now in
    let found = rfind_char 10 text (Some c.in-Some.newline) c.in-Some.ensures.cases (omega arith) in
    c.range_from.ensures.value ∙ sym (after_last_newline text c.in-Some.newline found.0 found.1 found.2)

pub returns-in-None : goal.returns-in-None
returns-in-None c = sym (after_no_newline c.args.text.now (rfind_char 10 c.args.text.now None c.in-None.ensures.cases (omega arith)))
