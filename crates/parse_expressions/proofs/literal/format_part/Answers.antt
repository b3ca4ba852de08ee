-- A part that can't be cooked is refused for the reason that cooking tells.
use Rattle.parse_expressions.proofs.Refusals.{told}
use Rattle.parse_expressions.proofs.literal.format_part.Goals as goal

pub returns-in-Err-clause-gives : goal.returns-in-Err-clause-gives
returns-in-Err-clause-gives c = told c.args.token c.in-Err.error.kind c.refused.result _ c.refused.ensures.memory c.refused.ensures.why c.in-Err.ensures.cooked
