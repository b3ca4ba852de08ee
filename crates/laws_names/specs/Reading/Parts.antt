-- The expressions of an item with what they see are its parts.
use Rattle.std.specs.Prelude.{◌≡◌, List, map}
use Rattle.std.specs.List.{flat_map}
use Rattle.parse_expressions.specs.Literals.{Expansion}
use Rattle.tree_expressions.specs.Shape.{shape_of}
use Rattle.tree_items.specs.Files.{item_shape}
use Rattle.tree_items.specs.declared.ast.Item.{Item}
use Rattle.tree_items.specs.declared.ast.Item.TheVariants.{Recipe as recipe_item, Set as set_item}
use Rattle.tree_items.specs.declared.recipe.Recipe.{Recipe}
use Rattle.tree_items.specs.declared.recipe.UnresolvedDependency.{UnresolvedDependency}
use Rattle.tree_items.specs.declared.set.Set.{Set}
use Rattle.parse_attributed_items.specs.Held.{IsOwnItem}
use Rattle.resolve_references.specs.ItemReferences.{references_of_recipe, references_of_set}
use Rattle.resolve_references.specs.References.{references_of}
use Rattle.resolve_references.specs.Seen.{Seen, seen_in}
use Rattle.resolve_references.specs.declared.references.Reference.{Reference}
use Rattle.meaning_rules.specs.Fixed.{value_of}
use Rattle.meaning_rules.specs.Naming.{Part, part, parts_of}

-- an expression without its numbers
abbrev pub part_of : Seen → Part
part_of s = part (map (λ p. p.0) s.parameters) (shape_of s.expression)

-- the parts of an item are its expressions in order, each with the parameters that it sees
abbrev pub PartsAreSeen : Type 0
PartsAreSeen = (expansion : Expansion) (item : Item) → IsOwnItem expansion item → parts_of (value_of expansion) (item_shape item) ≡ map part_of (seen_in item)

abbrev pub references_seen : Seen → List Reference
references_seen s = references_of s.expression

-- the calls and variables of all expressions of an item in order
abbrev pub references_in : Item → List Reference
references_in item = flat_map references_seen (seen_in item)

-- those of a recipe are those of its expressions
abbrev pub RecipeReferencesAreSeen : Type 0
RecipeReferencesAreSeen = (r : Recipe UnresolvedDependency) → references_of_recipe r ≡ references_in (recipe_item r)

-- the same of a setting
abbrev pub SettingReferencesAreSeen : Type 0
SettingReferencesAreSeen = (s : Set) → references_of_set s ≡ references_in (set_item s)
