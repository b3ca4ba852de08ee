-- One side after `/`.
use Rattle.std.proofs.Common.{rules, ◌∙◌}
use Rattle.parse_expressions.proofs.Views.{one_side, one_holds}
use Rattle.parse_expressions.proofs.node.prefixed.Goals as goal

pub returns-in-Join-clause-shape : goal.returns-in-Join-clause-shape
returns-in-Join-clause-shape c = one_side c.args.operand c.args.token ∙ search rules

pub returns-in-Join-clause-held : goal.returns-in-Join-clause-held
returns-in-Join-clause-held c = one_holds c.args.operand c.args.token ∙ search rules
