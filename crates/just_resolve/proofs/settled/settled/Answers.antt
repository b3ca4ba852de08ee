-- What settings read is refused, or their values are.
use Rattle.std.proofs.Common.{ap, subst, ◌∙◌}
use Rattle.std.proofs.lemmas.Result.{err_from_is_err_and}
use Rattle.just_resolve.specs.Faults.{reading_error}
use Rattle.evaluate_context.specs.Refusals.{fault_of}
use Rattle.just_resolve.specs.Settling.{AreUnsettledBy, evaluated, reading}
use Rattle.just_resolve.proofs.settled.settled.Goals as goal

pub returns-in_err-numbers-clause-refused : goal.returns-in_err-numbers-clause-refused
returns-in_err-numbers-clause-refused c =
    let p = err_from_is_err_and c.from_residual.result c.from_residual.ensures.1 in
    rw p.1 (λ some. reading c.in_err-numbers.field-0.0 (c.in_err-numbers.ensures.err (λ e. some (p.2 ∙ ap reading_error e))) p.2)

pub returns-in_err-known_settings-clause-refused : goal.returns-in_err-known_settings-clause-refused
returns-in_err-known_settings-clause-refused c =
    let p = err_from_is_err_and c.from_residual-in_err-known_settings.result c.from_residual-in_err-known_settings.ensures.1 in
    rw p.1 (λ some. evaluated c.in_ok-numbers.numbers c.in_err-known_settings.field-0.0 c.in_ok-numbers.ensures.ok
    (λ some_fault. subst (λ variables. AreUnsettledBy c.args.constants.now c.args.overrides.now c.args.compilation.now c.args.sets.now variables c.args.order.now c.in_ok-numbers.numbers (fault_of c.in_err-known_settings.field-0.0)) c.as_slice.ensures.value (c.in_err-known_settings.ensures.refused some_fault))
    p.2)
