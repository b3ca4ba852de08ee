-- By the first line.
use Rattle.std.proofs.Common.{sym, ◌∙◌}
use Rattle.just_modules.proofs.BodyLines.{first_line_is}
use Rattle.just_modules.proofs.rules.has_shebang.Goals as goal

pub returns : goal.returns
returns c = c.is_shebang.ensures ∙ first_line_is c.args.body.now c.index-body-0.result (sym c.is_empty.ensures ∙ c.if-is_empty.false) c.index-body-0.is
