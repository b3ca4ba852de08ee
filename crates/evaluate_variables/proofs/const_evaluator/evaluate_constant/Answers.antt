use Rattle.std.proofs.Common.{rules, ◌≡◌, true, false}
use Rattle.std.specs.BTreeSet.{contains}
use Rattle.std.specs.Ordering.{nat_cmp}
use Rattle.std.proofs.lemmas.Result.{err_from_is_err_and}
use Rattle.evaluate_variables.specs.Opened.{assigned}
use Rattle.evaluate_variables.proofs.Settling.{settles_unread, settles_fault, settles_kept, no_fault}
use Rattle.evaluate_variables.proofs.const_evaluator.evaluate_constant.Goals as goal

pub returns-then-not-contains-clause-settles : goal.returns-then-not-contains-clause-settles
returns-then-not-contains-clause-settles c =
    let unread : contains nat_cmp c.args.references.now c.args.assignment.now.number ≡ false = search rules in
    λ n. settles_unread c.args.overrides.now (contains nat_cmp c.args.references.now) (assigned c.args.assignment) c.args.constants.now unread

pub returns-in_err-value-clause-settles : goal.returns-in_err-value-clause-settles
returns-in_err-value-clause-settles c =
    let read : contains nat_cmp c.args.references.now c.args.assignment.now.number ≡ true = search rules in
    let p = err_from_is_err_and c.from_residual.result c.from_residual.ensures.1 in
    rw (p.1, p.2) (λ n. settles_fault c.args.overrides.now (contains nat_cmp c.args.references.now) (assigned c.args.assignment) c.args.constants.now _ read (c.in_err-value.ensures (λ e. n (cc))))

pub returns-clause-settles : goal.returns-clause-settles
returns-clause-settles c =
    let read : contains nat_cmp c.args.references.now c.args.assignment.now.number ≡ true = search rules in
    settles_kept c.args.overrides.now (contains nat_cmp c.args.references.now) (assigned c.args.assignment) c.args.constants.now c.keep.result c.in_ok-value.value c.keep.new.self read (c.in_ok-value.ensures (no_fault c.in_ok-value.value)) c.keep.ensures.keeps
