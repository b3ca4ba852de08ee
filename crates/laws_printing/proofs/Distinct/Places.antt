-- Functions and recipes that stand at places of a module's files.
use Rattle.std.proofs.Common.{◌≡◌, ◌∙◌, ◌≤◌, ◌<◌, ◌+◌, ℕ, true, List, map, length, Option, Some, None, ap, refl}
use Rattle.std.specs.Prelude.{slice_get}
use Rattle.std.proofs.lemmas.List.{length-map}
use Rattle.std.proofs.lemmas.List.Elements.{All-contains}
use Rattle.std.proofs.lemmas.Option.{none-some}
use Rattle.just_text.specs.Tokens.{lexeme}
use Rattle.just_text.specs.declared.name.Name.{Name}
use Rattle.tree_items.specs.Files.{item_shape}
use Rattle.tree_items.specs.Items.{name_of}
use Rattle.tree_items.specs.Recipes.{is_variadic, parameter_shape}
use Rattle.tree_items.specs.declared.ast.Item.{Item}
use Rattle.tree_items.specs.declared.ast.Item.TheVariants as items
use Rattle.tree_items.specs.declared.item.FunctionDefinition.{FunctionDefinition}
use Rattle.tree_items.specs.declared.recipe.Parameter.{Parameter}
use Rattle.tree_items.specs.declared.recipe.Recipe.{Recipe}
use Rattle.tree_items.specs.declared.recipe.UnresolvedDependency.{UnresolvedDependency}
use Rattle.parse_recipes.specs.Headers.{parameter_name}
use Rattle.modules_compilation.specs.Places.{item_at, items_of}
use Rattle.modules_compilation.specs.declared.compilation.Compilation.{Compilation}
use Rattle.modules_compilation.specs.declared.module_node.File.{File}
use Rattle.modules_compilation.specs.declared.module_node.ModuleNode.{ModuleNode}
use Rattle.modules_compilation.specs.declared.place.Place.{Place}
use Rattle.meaning_rules.specs.Worlds.Given.{Given, World}
use Rattle.meaning_rules.specs.Worlds.Standing.{StandsFor}
use Rattle.meaning_rules.proofs.Worlds.Places.{contains_at}
use Rattle.laws_modules.proofs.Files.Lists.{map_at}
use Rattle.laws_modules.specs.Names.Names.{HasNode, IsOfWorld}
use Rattle.laws_printing.specs.Distinct.Distinct.{AreApartNames, IsApart}
use Rattle.laws_printing.proofs.Distinct.Worlds.{compilations_are_apart}

-- an item that stands at a place of a module's files
pub item_apart : (given : Given) (w : World) (compilation : Compilation) → StandsFor given w → IsOfWorld w compilation → (n : ℕ) (node : ModuleNode) → HasNode w compilation n node
    → (place : Place) → node.first_file ≤ place.file → place.file < node.end_file → (item : Item) → item_at compilation place ≡ Some item → IsApart (item_shape item)
item_apart given w compilation stands is n node here place from to item there = by_file (slice_get compilation.files.items place.file) refl there
  where
    by_file : (o : Option File) → slice_get compilation.files.items place.file ≡ o → slice_get (items_of o) place.item ≡ Some item → IsApart (item_shape item)
    by_file None found at = absurd (none-some item at)
    by_file (Some file) found at =
        All-contains (λ x. IsApart (item_shape x)) file.ast.items.items item (compilations_are_apart given w compilation stands is n node here place.file file from to found) (contains_at file.ast.items.items place.item item at)

-- names are apart by what has them
apart_by : {X : Type 0} (name : X → List ℕ) (xs : List X) → AreApartNames (map name xs) → (i j : ℕ) (x y : X) → slice_get xs i ≡ Some x → slice_get xs j ≡ Some y → name x ≡ name y → i ≡ j
apart_by name xs apart i j x y at at' same = apart i j (name y) (map_at name xs i x at ∙ ap Some same) (map_at name xs j y at')

module _ (given : Given) (w : World) (compilation : Compilation) (stands : StandsFor given w) (is : IsOfWorld w compilation) (n : ℕ) (node : ModuleNode) (here : HasNode w compilation n node)
    (place : Place) (from : node.first_file ≤ place.file) (to : place.file < node.end_file) where
  -- no function has two parameters of one name
  pub functions_apart : (f : FunctionDefinition) → item_at compilation place ≡ Some (items.Function f) → (i j : ℕ) (p q : Name × ℕ) → slice_get f.parameters.items i ≡ Some p → slice_get f.parameters.items j ≡ Some q
      → lexeme p.0.token ≡ lexeme q.0.token → i ≡ j
  functions_apart f there = apart_by name_of f.parameters.items (item_apart given w compilation stands is n node here place from to (items.Function f) there)

  -- no recipe has two parameters of one name
  pub parameters_apart : (r : Recipe UnresolvedDependency) → item_at compilation place ≡ Some (items.Recipe r) → (i j : ℕ) (p q : Parameter) → slice_get r.parameters.items i ≡ Some p → slice_get r.parameters.items j ≡ Some q
      → lexeme p.name.token ≡ lexeme q.name.token → i ≡ j
  parameters_apart r there i j p q at at' same =
      let apart = item_apart given w compilation stands is n node here place from to (items.Recipe r) there in
      apart_by parameter_name (map parameter_shape r.parameters.items) apart.0 i j (parameter_shape p) (parameter_shape q) (map_at parameter_shape r.parameters.items i p at) (map_at parameter_shape r.parameters.items j q at') same

  -- only its last parameter takes all values that remain
  pub last_takes_all : (r : Recipe UnresolvedDependency) → item_at compilation place ≡ Some (items.Recipe r) → (i : ℕ) (p : Parameter) → slice_get r.parameters.items i ≡ Some p → is_variadic p.kind ≡ true → i + 1 ≡ length r.parameters.items
  last_takes_all r there i p at is_last =
      let apart = item_apart given w compilation stands is n node here place from to (items.Recipe r) there in
      apart.1 i (parameter_shape p) (map_at parameter_shape r.parameters.items i p at) is_last ∙ length-map r.parameters.items parameter_shape
