-- By the last parameter.
use Rattle.std.proofs.Common.{sym, ◌∙◌}
use Rattle.resolve_recipes.proofs.Counting.{open_by_last}
use Rattle.resolve_recipes.proofs.recipe_node.is_open.Goals as goal

pub returns-in-Some : goal.returns-in-Some
returns-in-Some c = c.is_variadic.ensures ∙ sym (open_by_last c.args.parameters.now c.in-Some.last.now (sym c.in-Some.ensures.value))
