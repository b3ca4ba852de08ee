-- One more definition.
use Rattle.std.proofs.Common.{rules, ◌≡◌, ◌++◌, ◌∷◌, [], sym, ◌∙◌, ap, subst, Some}
use Rattle.std.proofs.lemmas.Bool.{true≢false}
use Rattle.modules_definitions.specs.Keeping.{ShareName}
use Rattle.modules_definitions.specs.Steps.{Step, IsClashAfter, begins, merges, goes_on, memory, clash}
use Rattle.modules_definitions.proofs.keep.Keeper.add.Goals as goal

pub returns-in_default-clause-step : goal.returns-in_default-clause-step
returns-in_default-clause-step c =
    let front = c.args.self.now.done.items in
    subst (λ last. Step c.args.allowed front last c.args.next front (Some c.args.next)) (sym c.in_default.is) begins

pub returns-in_err-push-clause-refused : goal.returns-in_err-push-clause-refused
returns-in_err-push-clause-refused c = search (rules, memory)

pub returns-then-not-shares_name-clause-step : goal.returns-then-not-shares_name-clause-step
returns-then-not-shares_name-clause-step c =
    let front = c.args.self.now.done.items in
    let last = c.in-Some.last in
    subst (λ more. Step c.args.allowed front c.args.self.now.last c.args.next more (Some c.args.next)) (sym c.in_ok-push.ensures.items)
    (subst (λ o. Step c.args.allowed front o c.args.next (front ++ last ∷ []) (Some c.args.next)) (sym c.in-Some.is) (goes_on (λ s. true≢false (sym (c.shares_name.ensures.1 s) ∙ c.if-not-shares_name.true))))

pub returns-in-Ok-clause-step : goal.returns-in-Ok-clause-step
returns-in-Ok-clause-step c =
    let front = c.args.self.now.done.items in
    subst (λ last. Step c.args.allowed front last c.args.next front (Some c.in-Ok.one)) (sym c.in-Some.is) (merges (c.shares_name.ensures.0 c.if-not-shares_name.false) c.in-Ok.ensures.kept)

pub returns-in-Err-clause-refused : goal.returns-in-Err-clause-refused
returns-in-Err-clause-refused c =
    subst (λ last. IsClashAfter c.args.allowed last c.args.next c.in-Err.error) (sym c.in-Some.is) (clash (c.shares_name.ensures.0 c.if-not-shares_name.false) c.in-Err.ensures.refused)
