use Rattle.run_tasks.proofs.opened.perform.Goals as goal

pub returns-clause-begun : goal.returns-clause-begun
returns-clause-begun g c = c.perform_inside.ensures.begun c.in_ok-constants.ensures.bound.0 c.in_ok-constants.ensures.bound.1 c.in_ok-constants.ensures.sorted
