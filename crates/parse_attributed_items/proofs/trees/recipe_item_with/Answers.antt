-- What holds of the recipe holds of the item.
use Rattle.parse_attributed_items.proofs.trees.recipe_item_with.Goals as goal

pub returns-clause-gives : goal.returns-clause-gives
returns-clause-gives c = λ origin written whole. c.in_ok-recipe.ensures.gives origin written whole

pub returns-clause-numbers : goal.returns-clause-numbers
returns-clause-numbers c = λ old new h. c.in_ok-recipe.ensures.numbers old new h

pub returns-clause-own : goal.returns-clause-own
returns-clause-own c = λ origin written whole arguments bare. (c.in_ok-recipe.ensures.options origin written whole arguments bare, c.in_ok-recipe.ensures.letters origin written whole arguments bare)

pub returns-clause-cooked : goal.returns-clause-cooked
returns-clause-cooked c = λ origin written whole bare cooked.
    let told = c.in_ok-recipe.ensures.attributes in
    record { attributes = rw told whole.cooked; inside = (c.in_ok-recipe.ensures.cooked origin cooked, c.in_ok-recipe.ensures.values origin written whole bare) }
