-- The first of the text's lines is taken.
use Rattle.std.proofs.Common.{refl, ap, ◌∙◌}
use Rattle.just_lexer.proofs.Lines.{first_line_is}
use Rattle.just_lexer.proofs.line.first_line.Goals as goal

pub returns : goal.returns
returns c = ap (λ x. x.now) c.unwrap_or.ensures ∙ first_line_is c.lines.result c.next.new.self c.args.text.now c.next.result _ c.lines.ensures.rest c.next.ensures.steps refl
