-- How many values a recipe takes of a dependency.
use Rattle.std.specs.Prelude.{ℕ, ◌&&◌, Bool, true, false, not, cond, nat_le, List, [], ◌∷◌, length, Option, Some, None, is_some}
use Rattle.std.specs.List.{count_by}
use Rattle.tree_items.specs.Recipes.{is_variadic}
use Rattle.tree_items.specs.declared.recipe.Parameter.{Parameter}
use Rattle.tree_items.specs.declared.recipe.ParameterKind.{ParameterKind}
use Rattle.tree_items.specs.declared.recipe.ParameterKind.TheVariants.{Plus, Singular, Star}
use Rattle.resolve_recipes.specs.declared.recipe_node.ValueCount.{ValueCount}

abbrev pub is_star : ParameterKind → Bool
is_star Plus = false
is_star Singular = false
is_star Star = true

-- it has to be given a value
abbrev pub is_required : Parameter → Bool
is_required parameter = not (is_some parameter.default) && not (is_star parameter.kind) && not parameter.flag

-- the last parameter takes all values that remain
abbrev pub is_open : List Parameter → Bool
is_open [] = false
is_open (parameter ∷ []) = is_variadic parameter.kind
is_open (parameter ∷ other ∷ parameters) = is_open (other ∷ parameters)

-- at least those that are required, and at most one for each parameter, unless the last takes all
abbrev pub count_of : List Parameter → ValueCount
count_of parameters = record { least = count_by is_required parameters; most = cond (is_open parameters) None (Some (length parameters)) }

abbrev pub is_within : Option ℕ → ℕ → Bool
is_within None count = true
is_within (Some most) count = nat_le count most

-- so many values are taken
abbrev pub are_taken : ValueCount → ℕ → Bool
are_taken taken count = nat_le taken.least count && is_within taken.most count
