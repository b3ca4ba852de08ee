-- How many arguments have a star.
use Rattle.std.proofs.Common.{◌≡◌, ◌+◌, ◌<◌, ◌≤◌, ℕ, Bool, true, false, cond, List, refl, sym, arith, if◌then◌else◌}
use Rattle.std.specs.Prelude.{count_by, nat_lt}
use Rattle.std.proofs.lemmas.Bool.Decides.{nat_tests}
use Rattle.std.proofs.lemmas.List.Recursion.{is_count_by}
use Rattle.tree_items.specs.Recipes.{argument_shapes}
use Rattle.tree_items.specs.declared.recipe.DependencyArgument.{DependencyArgument}
use Rattle.parse_recipes.specs.Headers.{stars}

one_more : (starred : Bool) (n : ℕ) → (if starred then 1 else 0) + n ≡ cond starred (1 + n) n
one_more true n = refl
one_more false n = omega arith

pub stars_is : (arguments : List DependencyArgument) → count_by (λ a. a.starred) arguments ≡ stars (argument_shapes arguments)
stars_is arguments = sym (is_count_by (λ (xs : List DependencyArgument). stars (argument_shapes xs)) (λ (a : DependencyArgument). a.starred) refl (λ a others. one_more a.starred (stars (argument_shapes others))) arguments)

-- more than one
pub more_than_one : (n : ℕ) → 1 < n → nat_lt 1 n ≡ true
more_than_one n h = grind (arith, nat_tests)

-- one at most
pub at_most_one : (n : ℕ) → n ≤ 1 → nat_lt 1 n ≡ false
at_most_one n h = grind (arith, nat_tests)
