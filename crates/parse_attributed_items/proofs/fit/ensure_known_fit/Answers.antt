-- What is found is refused by its name.
use Rattle.parse_attributed_items.proofs.Repeated.{misfit_refused, nothing_refused, repeated_refused}
use Rattle.parse_attributed_items.proofs.fit.ensure_known_fit.Goals as goal

pub returns-in-Some : goal.returns-in-Some
returns-in-Some c =
    let told = c.in_ok-fault.ensures in
    rw (told, c.kind_name.ensures) (misfit_refused c.args.carrier c.args.name.now c.args.reads.now c.misfit.result c.misfit.ensures c.in-Some.read c.in-Some.is)

pub returns-in-Some-repeated : goal.returns-in-Some-repeated
returns-in-Some-repeated c =
    let told = c.in_ok-fault-2.ensures in
    rw (told, c.kind_name-in-Some-repeated.ensures) (repeated_refused c.args.carrier c.args.name.now c.args.reads.now c.misfit.result c.misfit.ensures c.in_default.not-Some c.repeated.result c.repeated.ensures c.in-Some-repeated.read c.in-Some-repeated.is)

pub returns : goal.returns
returns c = nothing_refused c.args.carrier c.args.name.now c.args.reads.now c.misfit.result c.misfit.ensures c.in_default.not-Some c.repeated.result c.repeated.ensures c.in_default-repeated.is
