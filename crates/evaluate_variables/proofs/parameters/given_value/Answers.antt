use Rattle.std.proofs.Common.{rules, ◌≡◌, false, length, refl, ap, Ok, Err}
use Rattle.std.proofs.lemmas.Result.{err_from_is_err_and}
use Rattle.meaning_dialogues.specs.Faults.{memory}
use Rattle.meaning_dialogues.specs.Terms.{term_of}
use Rattle.meaning_dialogues.proofs.Dialogues.{begins_here, not_begun}
use Rattle.evaluate_expressions.specs.Situations.{stage_at, reading_at}
use Rattle.evaluate_variables.specs.Given.{times_over}
use Rattle.evaluate_variables.proofs.Given.{given_each, given_fails}
use Rattle.evaluate_variables.proofs.parameters.given_value.Goals as goal

pub returns-in_err-clone-clause-evaluates : goal.returns-in_err-clone-clause-evaluates
returns-in_err-clone-clause-evaluates g c =
    let p = err_from_is_err_and c.from_residual.result c.from_residual.ensures.1 in
    rw (p.1, p.2) (not_begun _ _)

pub returns-then-is_dependency-clause-evaluates : goal.returns-then-is_dependency-clause-evaluates
returns-then-is_dependency-clause-evaluates g c = record { goes = λ n. search rules; begins = begins_here _ _ _ }

pub returns-in_err-clone-2-clause-evaluates : goal.returns-in_err-clone-2-clause-evaluates
returns-in_err-clone-2-clause-evaluates g c =
    let p = err_from_is_err_and c.from_residual-in_err-clone-2.result c.from_residual-in_err-clone-2.ensures.1 in
    rw (p.1, p.2) (not_begun _ _)

pub returns-in_default-clause-evaluates : goal.returns-in_default-clause-evaluates
returns-in_default-clause-evaluates g c = record { goes = λ n. search rules; begins = begins_here _ _ _ }

pub returns-clause-evaluates : goal.returns-clause-evaluates
returns-clause-evaluates g c =
    let group = c.args.group.now in
    let evaluator = c.args.evaluator.now in
    let alone : c.args.is_dependency ≡ false = search rules in
    let each : c.in_ok-repeated.field-0 ≡ times_over (length group) c.in_ok-value.value = search rules in
    rw c.in-Some.is (given_each (reading_at evaluator) (stage_at evaluator) c.args.is_dependency group c.args.host.now.entries c.evaluate_value.new.host.entries (Ok c.in_ok-repeated.field-0) c.in_ok-value.value (term_of c.in-Some.value) alone c.in_ok-value.ensures.evaluates (λ n. ap Ok each))

pub returns-in_err-value-clause-evaluates : goal.returns-in_err-value-clause-evaluates
returns-in_err-value-clause-evaluates g c =
    let evaluator = c.args.evaluator.now in
    let alone : c.args.is_dependency ≡ false = search rules in
    let p = err_from_is_err_and c.from_residual-in_err-value.result c.from_residual-in_err-value.ensures.1 in
    rw (c.in-Some.is, p.1, p.2) (given_fails (reading_at evaluator) (stage_at evaluator) c.args.is_dependency c.args.group.now c.args.host.now.entries c.evaluate_value.new.host.entries _ (term_of c.in-Some.value) alone c.in_err-value.ensures.evaluates)

pub returns-in_err-repeated-clause-evaluates : goal.returns-in_err-repeated-clause-evaluates
returns-in_err-repeated-clause-evaluates g c =
    let evaluator = c.args.evaluator.now in
    let alone : c.args.is_dependency ≡ false = search rules in
    let p = err_from_is_err_and c.from_residual-in_err-repeated.result c.from_residual-in_err-repeated.ensures.1 in
    rw (c.in-Some.is, p.1, p.2)
    (given_each (reading_at evaluator) (stage_at evaluator) c.args.is_dependency c.args.group.now c.args.host.now.entries c.evaluate_value.new.host.entries (Err memory) c.in_ok-value.value (term_of c.in-Some.value) alone c.in_ok-value.ensures.evaluates (λ n. absurd (n refl)))
