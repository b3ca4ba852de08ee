-- An attribute that is not known is refused before the others.
use Rattle.parse_attributed_items.proofs.Named.{known_refused, unknown_refused}
use Rattle.parse_attributed_items.proofs.fit.ensure_fit.Goals as goal

pub returns-in-Some : goal.returns-in-Some
returns-in-Some c =
    let told = c.in_ok-fault.ensures in
    rw told (unknown_refused c.args.carrier c.args.name.now c.args.reads.now c.unknown.result c.unknown.ensures c.in-Some.read c.in-Some.is)

pub returns : goal.returns
returns c = rw (known_refused c.args.carrier c.args.name.now c.args.reads.now c.unknown.result c.unknown.ensures c.in_default.not-Some) c.ensure_known_fit.ensures
