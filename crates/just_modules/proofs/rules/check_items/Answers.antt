-- The item that is refused is one of the file's.
use Rattle.std.proofs.Common.{sym, arith}
use Rattle.just_modules.proofs.rules.check_items.Goals as goal

pub returns-in-Err-clause-broken : goal.returns-in-Err-clause-broken
returns-in-Err-clause-broken c w is =
    let t = c.in-Err.ensures.broken w is in
    (t.0, t.1, (c.item-item.result, (c.loop-item.item-index, omega arith, sym c.item-item.is), t.2))
