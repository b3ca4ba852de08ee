-- At most one argument has a star.
use Rattle.std.proofs.Common.{◌≡◌, ◌∙◌, true, false, refl, arith}
use Rattle.std.specs.Prelude.{nat_lt}
use Rattle.tree_items.specs.Recipes.{argument_shapes}
use Rattle.parse_recipes.specs.Headers.{stars}
use Rattle.parse_recipes.specs.Reading.{arguments_at}
use Rattle.parse_recipes.proofs.Stars.{at_most_one, more_than_one, stars_is}
use Rattle.parse_recipes.proofs.dependency.arguments.Goals as goal

pub returns-then-stars-gt1-clause-gives : goal.returns-then-stars-gt1-clause-gives
unfolding arguments_at
returns-then-stars-gt1-clause-gives g c =
    let count : c.stars.result ≡ stars (argument_shapes c.in_ok-arguments.arguments.items) = c.stars.ensures ∙ (rw c.deref.ensures.value (stars_is c.in_ok-arguments.arguments.items)) in
    let more : nat_lt 1 (stars (argument_shapes c.in_ok-arguments.arguments.items)) ≡ true = more_than_one (stars (argument_shapes c.in_ok-arguments.arguments.items)) (omega (arith, count)) in
    rw (c.in_ok-arguments.ensures.gives, more) refl

pub returns-clause-gives : goal.returns-clause-gives
unfolding arguments_at
returns-clause-gives g c =
    let count : c.stars.result ≡ stars (argument_shapes c.in_ok-arguments.arguments.items) = c.stars.ensures ∙ (rw c.deref.ensures.value (stars_is c.in_ok-arguments.arguments.items)) in
    let most : nat_lt 1 (stars (argument_shapes c.in_ok-arguments.arguments.items)) ≡ false = at_most_one (stars (argument_shapes c.in_ok-arguments.arguments.items)) (omega (arith, count)) in
    rw (c.in_ok-arguments.ensures.gives, most) refl
