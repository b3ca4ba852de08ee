-- Two sides that `/` joins.
use Rattle.std.proofs.Common.{rules, ◌∙◌}
use Rattle.parse_expressions.proofs.Views.{two_sides, two_hold}
use Rattle.parse_expressions.proofs.node.binary.Goals as goal

pub returns-in-Join-clause-shape : goal.returns-in-Join-clause-shape
returns-in-Join-clause-shape c = two_sides c.args.lhs c.args.rhs c.args.token ∙ search rules

pub returns-in-Join-clause-held : goal.returns-in-Join-clause-held
returns-in-Join-clause-held c = two_hold c.args.lhs c.args.rhs c.args.token ∙ search rules
