use Rattle.std.proofs.lemmas.Option.{slice_get_past}
use Rattle.evaluate_variables.proofs.Opening.{opens_none}
use Rattle.evaluate_variables.proofs.assignments.open_place.Goals as goal

pub returns-in-None-clause-opens : goal.returns-in-None-clause-opens
returns-in-None-clause-opens g c = λ n. opens_none c.args.context.now _ _ _ _ _ (slice_get_past _ _ c.in-None.ensures.lookup.3)
