-- The numbers of the bindings of items.
use Rattle.std.specs.Prelude.{ℕ, ◌≡◌, List, [], ◌∷◌, length, map}
use Rattle.just_text.specs.Numbers.{Numbers}
use Rattle.just_text.specs.declared.name.Name.{Name}
use Rattle.tree_items.specs.declared.ast.Item.{Item}
use Rattle.tree_items.specs.declared.ast.Item.TheVariants.{Assignment, Function, Recipe}
use Rattle.parse_recipes.specs.Numbering.{behind_bindings, count_from, numbers_of}

-- the numbers of a function's parameters
abbrev pub parameter_numbers : List (Name × ℕ) → List ℕ
parameter_numbers ps = map (λ p. p.1) ps

-- the numbers of an item's bindings in order: of an assignment, or of the parameters of a function or a recipe
abbrev pub binding_numbers : Item → List ℕ
binding_numbers (Assignment a) = a.number ∷ []
binding_numbers (Function f) = parameter_numbers f.parameters.items
binding_numbers (Recipe r) = numbers_of r.parameters.items
binding_numbers other = []

-- these are the next bindings' numbers in order, and no other was handed out
pub record AreNext (old new : Numbers) (numbers : List ℕ) : Type 0 where
  pub count : numbers ≡ count_from old.bindings (length numbers)
  pub gone_on : new ≡ behind_bindings old (length numbers)
