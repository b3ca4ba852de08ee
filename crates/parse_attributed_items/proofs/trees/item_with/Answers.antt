-- An item that is a recipe is one as it was read.
use Rattle.parse_attributed_items.proofs.trees.item_with.Goals as goal

pub returns-in-Recipe-clause-own : goal.returns-in-Recipe-clause-own
returns-in-Recipe-clause-own c = λ origin written whole arguments bare. c.recipe_item_with.ensures.own origin written whole arguments (rw c.in-Recipe.is at bare)
