-- What files say of parameters and attributes, in the files of a module.
use Rattle.std.proofs.Common.{◌≡◌, ap, List, Option, Some, None, ℕ, ◌≤◌, ◌<◌}
use Rattle.std.specs.Prelude.{slice_get}
use Rattle.std.proofs.lemmas.Option.{none-some, same_Some}
use Rattle.tree_attributes.specs.Sets.Sets.{shapes_in}
use Rattle.tree_items.specs.Items.{names_of}
use Rattle.tree_items.specs.declared.ast.Item.{Item}
use Rattle.tree_items.specs.declared.ast.Item.TheVariants as items
use Rattle.tree_items.specs.declared.item.FunctionDefinition.{FunctionDefinition}
use Rattle.tree_items.specs.declared.recipe.Recipe.{Recipe}
use Rattle.tree_items.specs.declared.recipe.UnresolvedDependency.{UnresolvedDependency}
use Rattle.parse_attributed_items.specs.Fitting.{repeated}
use Rattle.modules_compilation.specs.Places.{item_at}
use Rattle.modules_compilation.specs.declared.compilation.Compilation.{Compilation}
use Rattle.modules_compilation.specs.declared.module_node.ModuleNode.{ModuleNode}
use Rattle.modules_compilation.specs.declared.place.Place.{Place}
use Rattle.resolve_recipes.specs.Nodes.{recipe_at}
use Rattle.resolve_recipes.specs.Nodes as kept_nodes
use Rattle.meaning_rules.specs.Worlds.Given.{Given, World}
use Rattle.meaning_rules.specs.Worlds.Standing.{StandsFor}
use Rattle.laws_modules.specs.Names.Names.{IsOfWorld}
use Rattle.laws_printing.proofs.Distinct.Places.{item_apart}

-- no function in a file of a module has two parameters of one name
abbrev pub HaveOwnParameters : Compilation → Type 0
HaveOwnParameters compilation = (n : ℕ) (node : ModuleNode) → slice_get compilation.modules.items n ≡ Some node → (place : Place) → node.first_file ≤ place.file → place.file < node.end_file
    → (f : FunctionDefinition) → item_at compilation place ≡ Some (items.Function f) → (i j : ℕ) (name : List ℕ) → slice_get (names_of f.parameters.items) i ≡ Some name → slice_get (names_of f.parameters.items) j ≡ Some name → i ≡ j

-- no recipe in a file of a module has an attribute twice that may stand once
abbrev pub AttributesStandOnce : Compilation → Type 0
AttributesStandOnce compilation = (n : ℕ) (node : ModuleNode) → slice_get compilation.modules.items n ≡ Some node → (place : Place) → node.first_file ≤ place.file → place.file < node.end_file
    → (r : Recipe UnresolvedDependency) → recipe_at compilation place ≡ Some r → repeated (shapes_in r.attributes) ≡ None

-- ---- recipes of items

recipe_back : (item : Item) (q : Recipe UnresolvedDependency) → kept_nodes.recipe_of (Some item) ≡ Some q → item ≡ items.Recipe q
recipe_back (items.Alias x) q e = absurd (none-some q e)
recipe_back (items.Assignment x) q e = absurd (none-some q e)
recipe_back (items.Comment x) q e = absurd (none-some q e)
recipe_back (items.Function x) q e = absurd (none-some q e)
recipe_back (items.Import x) q e = absurd (none-some q e)
recipe_back (items.Module x) q e = absurd (none-some q e)
recipe_back items.Newline q e = absurd (none-some q e)
recipe_back (items.Recipe x) q e = ap (λ y. items.Recipe y) (same_Some x q e)
recipe_back (items.Set x) q e = absurd (none-some q e)
recipe_back (items.Unexport x) q e = absurd (none-some q e)

pub item_back : (o : Option Item) (q : Recipe UnresolvedDependency) → kept_nodes.recipe_of o ≡ Some q → o ≡ Some (items.Recipe q)
item_back None q e = absurd (none-some q e)
item_back (Some item) q e = ap (λ x. Some x) (recipe_back item q e)

-- ---- what files say of them

pub have_own_parameters : (source : Given) (w : World) (compilation : Compilation) → StandsFor source w → IsOfWorld w compilation → HaveOwnParameters compilation
have_own_parameters source w compilation stands is n node here place from to f there = item_apart source w compilation stands is n node here place from to (items.Function f) there

pub attributes_stand_once : (source : Given) (w : World) (compilation : Compilation) → StandsFor source w → IsOfWorld w compilation → AttributesStandOnce compilation
attributes_stand_once source w compilation stands is n node here place from to r there =
    let apart = item_apart source w compilation stands is n node here place from to (items.Recipe r) (item_back (item_at compilation place) r there) in apart.2
