-- The task goes over the contexts of the modules that are open.
use Rattle.std.proofs.Common.{◌≡◌, refl, rules}
use Rattle.run_tasks.specs.Begun.{nothing_opened}
use Rattle.run_tasks.proofs.Added.{within}
use Rattle.run_tasks.proofs.Beginnings.{contexts_begun}
use Rattle.run_tasks.proofs.Ending.{contexts_so, memory_refused}
use Rattle.run_tasks.proofs.opened.perform_opened.Goals as goal

pub returns-clause-asks : goal.returns-clause-asks
returns-clause-asks g c =
    let same : c.as_slice.result.now ≡ c.in_ok-contexts.contexts.items = search rules in
    λ kinds questions requests may. c.perform_in.ensures.asks kinds questions (rw same (within c.in_ok-contexts.contexts.items c.args.context.now.config.now c.args.task kinds c.in_ok-contexts.ensures.configured may))

pub returns-clause-performs : goal.returns-clause-performs
returns-clause-performs g c =
    let same : c.as_slice.result.now ≡ c.in_ok-contexts.contexts.items = search rules in
    contexts_so _ _ _ _ _ c.in_ok-contexts.contexts.items c.as_slice.result.now same c.in_ok-contexts.ensures.contexts _ _ _ _ _ _ c.perform_in.ensures.performs

pub returns-in_err-contexts-clause-performs : goal.returns-in_err-contexts-clause-performs
returns-in_err-contexts-clause-performs g c = memory_refused _ _ _ _ c.from_residual.ensures

pub returns-clause-begun : goal.returns-clause-begun
returns-clause-begun g c =
    let same : c.as_slice.result.now ≡ c.in_ok-contexts.contexts.items = search rules in
    contexts_begun _ _ _ _ _ c.in_ok-contexts.contexts.items c.as_slice.result.now same c.in_ok-contexts.ensures.contexts _ _ _ c.perform_in.ensures.begun

pub returns-in_err-contexts-clause-begun : goal.returns-in_err-contexts-clause-begun
returns-in_err-contexts-clause-begun g c = nothing_opened refl
