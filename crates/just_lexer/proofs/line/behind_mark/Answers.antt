-- A byte order mark at the front is left out.
use Rattle.std.proofs.Common.{refl, ap, ◌∙◌}
use Rattle.just_lexer.proofs.Lines.{behind_mark_is}
use Rattle.just_lexer.proofs.line.behind_mark.Goals as goal

pub returns : goal.returns
returns c = ap (λ x. x.now) c.unwrap_or.ensures ∙ behind_mark_is c.args.text.now c.strip_prefix.result _ c.strip_prefix.ensures.cases refl
