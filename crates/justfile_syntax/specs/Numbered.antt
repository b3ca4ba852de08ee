-- The numbers in a file.
use Rattle.std.specs.Prelude.{ℕ, ◌≡◌, ◌+◌, List, [], ◌∷◌, length}
use Rattle.std.specs.List.{flat_map}
use Rattle.just_text.specs.Numbers.{Numbers}
use Rattle.tree_items.specs.declared.ast.Item.{Item}
use Rattle.tree_items.specs.declared.ast.Item.TheVariants.{Recipe}
use Rattle.parse_recipes.specs.Numbering.{count_from}
use Rattle.parse_items.specs.Numbered.{binding_numbers}

-- the numbers of all bindings in order: of variables, and of parameters of functions and recipes
abbrev pub bindings_in : List Item → List ℕ
bindings_in items = flat_map binding_numbers items

abbrev pub recipe_numbers : Item → List ℕ
recipe_numbers (Recipe r) = r.number ∷ []
recipe_numbers other = []

-- the numbers of all recipes in order
abbrev pub recipes_in : List Item → List ℕ
recipes_in items = flat_map recipe_numbers items

-- after so many bindings and recipes more
abbrev pub behind : Numbers → ℕ → ℕ → Numbers
behind numbers bindings recipes = record numbers { bindings = numbers.bindings + bindings; recipes = numbers.recipes + recipes }

-- bindings and recipes have the next numbers in order, and no others were handed out
pub record AreInOrder (old new : Numbers) (items : List Item) : Type 0 where
  pub bindings : bindings_in items ≡ count_from old.bindings (length (bindings_in items))
  pub recipes : recipes_in items ≡ count_from old.recipes (length (recipes_in items))
  pub gone_on : new ≡ behind old (length (bindings_in items)) (length (recipes_in items))
