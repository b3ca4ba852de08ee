-- By the line before.
use Rattle.std.proofs.Common.{not, ap}
use Rattle.just_modules.proofs.BodyLines.{goes_on_behind}
use Rattle.std.proofs.Common.{◌∙◌}
use Rattle.just_modules.proofs.rules.is_own_line.Goals as goal

pub returns : goal.returns
returns c = ap not (c.is_continuation.ensures ∙ goes_on_behind c.args.body.now c.args.place c.index-body-place.result (λ e. c.if-place-eq0.false e) c.requires c.index-body-place.is)
