use Rattle.std.proofs.lemmas.Option.{slice_get_past}
use Rattle.evaluate_variables.proofs.Settling.{settles_no_place}
use Rattle.evaluate_variables.proofs.const_evaluator.evaluate_place.Goals as goal

pub returns-in-None-clause-settles : goal.returns-in-None-clause-settles
returns-in-None-clause-settles c = λ n. settles_no_place c.args.overrides.now _ c.args.constants.now _ (slice_get_past _ _ c.in-None.ensures.lookup.3)
