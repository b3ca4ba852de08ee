-- Where the number of a name stands.
use Rattle.std.specs.Prelude.{ℕ, List, Option}
use Rattle.std.specs.Option.{option_or}
use Rattle.tree_items.specs.declared.variables.context.ExpressionContext.{ExpressionContext}
use Rattle.tree_items.specs.Contexts.{number_in}

-- the context's number for a name, else the bindings', else none
abbrev pub number_for : ExpressionContext → ExpressionContext → List ℕ → Option ℕ
number_for context bindings name = option_or (number_in context name) (number_in bindings name)
