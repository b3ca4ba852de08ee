use Rattle.std.proofs.Common.{rules, ◌≡◌, true, false, None, ap, Err}
use Rattle.std.proofs.lemmas.Result.{err_from_is_err_and}
use Rattle.just_value.specs.Frames.{look_up}
use Rattle.evaluate_variables.specs.Opened.{assigned, reads}
use Rattle.evaluate_variables.proofs.Opening.{opening_begins, opens_unread, opens_bound, opens_value, opens_fault, some_found, none_found}
use Rattle.evaluate_variables.proofs.assignments.open_assignment.Goals as goal

pub returns-then-not-is_read-clause-opens : goal.returns-then-not-is_read-clause-opens
returns-then-not-is_read-clause-opens g c =
    let unread : reads c.args.references c.args.assignment.now.number ≡ false = search rules in
    λ n. opens_unread c.args.context.now (reads c.args.references) (assigned c.args.assignment) c.args.scope.now unread

pub returns-then-is_some-clause-opens : goal.returns-then-is_some-clause-opens
returns-then-is_some-clause-opens g c =
    λ n. opens_bound c.args.context.now (reads c.args.references) (assigned c.args.assignment) c.args.scope.now (some_found _ c.binding.result _ c.binding.ensures (search rules))

pub returns-in_err-value-clause-opens : goal.returns-in_err-value-clause-opens
returns-in_err-value-clause-opens g c =
    let read : reads c.args.references c.args.assignment.now.number ≡ true = search rules in
    let free : look_up c.args.scope.now c.args.assignment.now.number ≡ None = none_found _ c.binding.result _ c.binding.ensures (search rules) in
    let p = err_from_is_err_and c.from_residual.result c.from_residual.ensures.1 in
    rw (p.1, p.2) (λ n. opens_fault c.args.context.now (reads c.args.references) (assigned c.args.assignment) c.args.scope.now read free (λ e. n (ap Err e)) c.in_err-value.ensures.evaluates)

pub returns-clause-opens : goal.returns-clause-opens
returns-clause-opens g c =
    let read : reads c.args.references c.args.assignment.now.number ≡ true = search rules in
    let free : look_up c.args.scope.now c.args.assignment.now.number ≡ None = none_found _ c.binding.result _ c.binding.ensures (search rules) in
    λ n. opens_value c.args.context.now (reads c.args.references) (assigned c.args.assignment) c.args.scope.now read free c.in_ok-value.ensures.evaluates (rw c.is_exported-export.ensures at c.in_ok-bind_value.ensures.bound.0) c.in_ok-bind_value.ensures.sorted

pub returns-in_err-value-clause-begun : goal.returns-in_err-value-clause-begun
returns-in_err-value-clause-begun g c =
    let read : reads c.args.references c.args.assignment.now.number ≡ true = search rules in
    let free : look_up c.args.scope.now c.args.assignment.now.number ≡ None = none_found _ c.binding.result _ c.binding.ensures (search rules) in
    opening_begins c.args.context.now (reads c.args.references) (assigned c.args.assignment) c.args.scope.now read free c.in_err-value.ensures.evaluates

pub returns-in_err-bind_value-clause-begun : goal.returns-in_err-bind_value-clause-begun
returns-in_err-bind_value-clause-begun g c =
    let read : reads c.args.references c.args.assignment.now.number ≡ true = search rules in
    let free : look_up c.args.scope.now c.args.assignment.now.number ≡ None = none_found _ c.binding.result _ c.binding.ensures (search rules) in
    opening_begins c.args.context.now (reads c.args.references) (assigned c.args.assignment) c.args.scope.now read free c.in_ok-value.ensures.evaluates

pub returns-clause-begun : goal.returns-clause-begun
returns-clause-begun g c =
    let read : reads c.args.references c.args.assignment.now.number ≡ true = search rules in
    let free : look_up c.args.scope.now c.args.assignment.now.number ≡ None = none_found _ c.binding.result _ c.binding.ensures (search rules) in
    opening_begins c.args.context.now (reads c.args.references) (assigned c.args.assignment) c.args.scope.now read free c.in_ok-value.ensures.evaluates
