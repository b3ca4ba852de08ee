-- One variable or several.
use Rattle.std.proofs.Common.{◌≡◌, true, false, sym, ◌∙◌}
use Rattle.evaluate_builtins.proofs.Words.{listed_is}
use Rattle.evaluate_builtins.proofs.variable.not_present.Goals as goal

pub returns : goal.returns
returns c = listed_is c.as_slice.result.now c.args.names.now c.listed.result (c.as_slice.ensures.value ∙ c.in_ok-texts.ensures) (λ e. let both : false ≡ true = sym c.if-is_empty.false ∙ c.is_empty.ensures.1 e in absurd (cc)) c.listed.ensures
