-- A string that can't be cooked is refused for the reason that cooking tells.
use Rattle.parse_items.proofs.Strings.{told}
use Rattle.parse_items.proofs.set.string.Goals as goal

pub returns-in-Err-clause-gives : goal.returns-in-Err-clause-gives
returns-in-Err-clause-gives g c = told _ _ c.in_ok-expect.field-0 c.in_ok-token.token _ _ c.in_ok-expect.ensures c.in_ok-token.ensures c.in-Err.error.kind c.refused.result c.refused.ensures.memory c.refused.ensures.why c.in-Err.ensures.cooked
