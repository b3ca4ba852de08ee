-- Word by word.
use Rattle.std.proofs.Common.{◌≡◌, ◌≤◌, ◌∙◌, ℕ, List, ◌∷◌, Option, length, sym, ap, subst, arith}
use Rattle.std.specs.Borrow.{Bor}
use Rattle.std.specs.Option.{MatchOption, IfSome}
use Rattle.std.proofs.lemmas.Result.{err_from_is_err_and}
use Rattle.analyze_words.specs.Takings.{TakesTo}
use Rattle.analyze_words.proofs.Taken.{IsTaking, taking_step, taking_fails, taking_stops}
use Rattle.analyze_words.proofs.taking.Taking.take_all.Goals as goal

pub returns-in_err-more-clause-refused : goal.returns-in_err-more-clause-refused
returns-in_err-more-clause-refused c =
    let left : c.loop-word.left.now ≡ c.as_str.result.now ∷ c.in-Some.others.now = c.in-Some.ensures.cases.0 ∙ ap (λ t. t ∷ c.in-Some.others.now) (sym c.as_str.ensures) in
    let p = err_from_is_err_and c.from_residual.result c.from_residual.ensures.1 in
    rw (p.1, p.2) (λ at h e. taking_fails c.args.callable.now.slots.items c.args.callable.now.name.now at c.loop-word.self c.loop-word.left.now c.in-Some.others.now c.as_str.result.now c.in_err-more.field-0.0 (c.loop-word.invariant.0 at h e) left c.in_err-more.ensures.refused)

pub loop-word-preserved : goal.loop-word-preserved
loop-word-preserved c =
    let slots = c.args.callable.now.slots.items in
    let left : c.loop-word.left.now ≡ c.as_str.result.now ∷ c.in-Some.others.now = c.in-Some.ensures.cases.0 ∙ ap (λ t. t ∷ c.in-Some.others.now) (sym c.as_str.ensures) in
    let shorter : length c.in-Some-2.more.now ≤ length c.in-Some.others.now = subst (λ (r : Option (Bor (List (List ℕ)))). IfSome r (λ x. length x.now ≤ length c.in-Some.others.now)) c.in-Some-2.is c.in_ok-more.ensures.shorter in (
      λ at h e. subst (λ (r : Option (Bor (List (List ℕ)))). MatchOption r (TakesTo slots at c.take.new.self c.loop-word.left.now) (λ rest. IsTaking slots at c.take.new.self rest.now)) c.in-Some-2.is
          (taking_step slots at c.loop-word.self c.take.new.self c.loop-word.left.now c.in-Some.others.now c.as_str.result.now c.in_ok-more.field-0 (c.loop-word.invariant.0 at h e) left c.in_ok-more.ensures.found),
      omega (arith, shorter, c.in-Some.ensures.cases.1, c.loop-word.invariant.1),
    )

pub returns-in-None-clause-found : goal.returns-in-None-clause-found
returns-in-None-clause-found c =
    let slots = c.args.callable.now.slots.items in
    let left : c.loop-word.left.now ≡ c.as_str.result.now ∷ c.in-Some.others.now = c.in-Some.ensures.cases.0 ∙ ap (λ t. t ∷ c.in-Some.others.now) (sym c.as_str.ensures) in
    λ at h e. subst (λ (r : Option (Bor (List (List ℕ)))). MatchOption r (TakesTo slots at c.take.new.self c.loop-word.left.now) (λ rest. IsTaking slots at c.take.new.self rest.now)) c.in-None.is
    (taking_step slots at c.loop-word.self c.take.new.self c.loop-word.left.now c.in-Some.others.now c.as_str.result.now c.in_ok-more.field-0 (c.loop-word.invariant.0 at h e) left c.in_ok-more.ensures.found)

pub returns-clause-found : goal.returns-clause-found
returns-clause-found c = λ at h e. taking_stops c.args.callable.now.slots.items at c.loop-word.self c.loop-word.left.now (c.loop-word.invariant.0 at h e) c.in_default.ensures.cases
