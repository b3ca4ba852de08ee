-- Modules open, and then the task is done.
use Rattle.std.proofs.Common.{◌≡◌, ap, rules}
use Rattle.std.specs.Global.{Vec}
use Rattle.analyze_calls.specs.Opening.{opened_rows}
use Rattle.analyze_calls.specs.declared.opening.Opened.{Opened}
use Rattle.run_tasks.specs.Begun.{in_opening}
use Rattle.run_tasks.proofs.Beginnings.{opened_begun}
use Rattle.run_tasks.proofs.Ending.{opened_so, opening_refused}
use Rattle.run_tasks.proofs.opened.perform_inside.Goals as goal

pub returns-clause-performs : goal.returns-clause-performs
returns-clause-performs g c = λ bound alone sorted.
    let same : c.as_slice.result.now ≡ c.in_ok-opened.opened.items = search rules in
    opened_so _ _ _ _ c.opening_of-opening.result (c.opening_of-opening.ensures bound alone sorted) _ _ _ _ _ _ _ (ap opened_rows same) c.in_ok-opened.ensures.opens _ _ c.perform_opened.ensures.performs

pub returns-in_err-opened-clause-performs : goal.returns-in_err-opened-clause-performs
returns-in_err-opened-clause-performs g c = λ bound alone sorted.
    opening_refused _ _ _ _ c.opening_of-opening.result (c.opening_of-opening.ensures bound alone sorted) _ _ (λ (all : Vec Opened). opened_rows all.items) _ _ c.in_err-opened.field-0.0 _ c.from_residual.ensures c.in_err-opened.ensures.opens

pub returns-clause-begun : goal.returns-clause-begun
returns-clause-begun g c = λ bound alone sorted.
    let same : c.as_slice.result.now ≡ c.in_ok-opened.opened.items = search rules in
    opened_begun _ _ _ _ c.opening_of-opening.result (c.opening_of-opening.ensures bound alone sorted) _ _ _ _ _ _ (ap opened_rows same) c.in_ok-opened.ensures.opens c.in_ok-opened.ensures.begun c.perform_opened.ensures.begun

pub returns-in_err-opened-clause-begun : goal.returns-in_err-opened-clause-begun
returns-in_err-opened-clause-begun g c = λ bound alone sorted. in_opening c.opening_of-opening.result (c.opening_of-opening.ensures bound alone sorted) c.in_err-opened.ensures.begun
