-- A recipe has just the row that it has in the world.
use Rattle.std.proofs.Common.{◌≡◌, refl, sym, ◌∙◌, ap, subst, Bool, true, false, List, ℕ, Option, Some, None}
use Rattle.std.specs.Prelude.{codes}
use Rattle.std.specs.Option.{option_and_then}
use Rattle.std.proofs.lemmas.Option.{none-some, same_Some}
use Rattle.tree_attributes.specs.Attributes.{AttributeShape}
use Rattle.tree_items.specs.Files.{recipe_item}
use Rattle.tree_items.specs.Recipes.{RecipeShape}
use Rattle.modules_compilation.specs.declared.compilation.Compilation.{Compilation}
use Rattle.modules_compilation.specs.declared.module_node.ModuleNode.{ModuleNode}
use Rattle.modules_compilation.specs.declared.place.Place.{Place}
use Rattle.resolve_recipes.specs.Named.{recipe_of}
use Rattle.meaning_rules.specs.Worlds.Given.{Overrides, Text, World}
use Rattle.meaning_rules.specs.Worlds.Keeping.{IsOn, KeepsAt, a_recipe}
use Rattle.meaning_rules.specs.Worlds.Compiled.{HasList}
use Rattle.meaning_rules.specs.Worlds.Views.{node_view}
use Rattle.laws_modules.specs.Names.Names.{HasNode, IsOfWorld, nodes, views}
use Rattle.laws_modules.proofs.Names.Named.{node_is}
use Rattle.meaning_evaluation.specs.Named.{RecipeName, RecipeRow}
use Rattle.just_meaning.specs.Defining.{IsRecipeRow, named_from}
use Rattle.just_meaning.specs.Rows.{recipe_row}
use Rattle.laws_runs.specs.Resolved.Definitions.{key_at, node_of, passes, recipe_in, recipe_named, shape_at}
use Rattle.laws_runs.specs.Resolved.Kept.{IsWorldOf, RecipesStand}
use Rattle.laws_runs.proofs.Resolved.Items.{is_item}
use Rattle.laws_runs.proofs.Resolved.Leading.{module_of, modules_stand, node_there}
use Rattle.laws_runs.proofs.Resolved.Listed.{found_is, kept_found}
use Rattle.laws_runs.proofs.Resolved.Settings.{is_on}

-- two tests that hold together are the same
same_test : (a b : Bool) → (a ≡ true → b ≡ true) → (b ≡ true → a ≡ true) → a ≡ b
same_test true b to from = sym (to refl)
same_test false true to from = from refl
same_test false false to from = refl

-- the list of a module's recipes
pub recipe_list : (w : World) (compilation : Compilation) (is : IsOfWorld w compilation) (k : ℕ) (node : ModuleNode) → HasNode w compilation k node → HasList w (views w compilation) (nodes w compilation) (node_view node) a_recipe node.recipes.items
recipe_list w compilation is k node here = let r = (node_is w compilation is k node here).recipes in (r.names, r.are)

module _ (w : World) (compilation : Compilation) (path : List Text) (passing : Bool) where
  abbrev row_at : Place → Option RecipeRow
  row_at place = recipe_in w.expansion path passing (key_at compilation place) (shape_at compilation place)

  abbrev row_of : Text → List AttributeShape → RecipeShape → RecipeRow
  row_of key attributes shape = recipe_row w.expansion key passing (λ dependency. named_from path dependency.path) attributes shape

  -- the row at the place of a recipe
  row_there : (place : Place) (key : Text) (attributes : List AttributeShape) (shape : RecipeShape)
      → shape_at compilation place ≡ Some (recipe_item attributes shape) → key_at compilation place ≡ key → row_at place ≡ Some (row_of key attributes shape)
  row_there place key attributes shape shaped keyed = ap (recipe_in w.expansion path passing (key_at compilation place)) shaped ∙ ap (λ t. Some (row_of t attributes shape)) keyed

module _ (w : World) (compilation : Compilation) (of : IsWorldOf w compilation) (o : Overrides) (r : RecipeName) (row : RecipeRow) where
  abbrev Says : Option ModuleNode → Option Place → Type 0
  Says node found = option_and_then (row_at w compilation r.path (passes compilation node)) found ≡ Some row

  -- the row that is found is that of the world
  row_is : (node : Option ModuleNode) (found : Option Place) → node_of compilation r.path ≡ node → recipe_of compilation node r.recipe ≡ found → Says node found → IsRecipeRow w o r row
  row_is None None at e says = absurd (none-some row says)
  row_is (Some node) None at e says = absurd (none-some row says)
  row_is None (Some place) at e says = absurd (none-some place e)
  row_is (Some node) (Some place) at e says =
      let m = module_of w compilation of.of of.single r.path node at in
      let s = (found_is w compilation of.of m.0 node m.1 a_recipe node.recipes.items (recipe_list w compilation of.of m.0 node m.1) r.recipe (Some place) e).1 in
      let q = is_item a_recipe r.recipe w.os s.item s.keeps.defines.is in
      record {
        own = node.source.now;
        is = m.2;
        key = s.key;
        place = s.at;
        attributes = q.0;
        shape = q.1;
        kept = subst (KeepsAt w node.source.now a_recipe r.recipe s.key s.at) q.2 s.keeps;
        passes = passes compilation (Some node);
        passing = is_on w compilation of.of of.settings m.0 node m.1 (codes "positional-arguments");
        says = same_Some row _ (sym says ∙ row_there w compilation r.path (passes compilation (Some node)) place s.key q.0 q.1 (s.shaped ∙ ap (λ i. Some i) q.2) s.keyed);
      }

  -- and that of the world is found
  row_found : IsRecipeRow w o r row → recipe_named compilation w.expansion r ≡ Some row
  row_found h =
      let p = (modules_stand w compilation of.of of.single r.path h.own).0 h.is in
      let node = p.node in
      let kept = subst (λ own. KeepsAt w own a_recipe r.recipe h.key h.place (recipe_item h.attributes h.shape)) (sym p.is) h.kept in
      let f = kept_found w compilation of.of p.k node p.here a_recipe node.recipes.items (recipe_list w compilation of.of p.k node p.here) r.recipe h.key h.place (recipe_item h.attributes h.shape) kept in
      let on = is_on w compilation of.of of.settings p.k node p.here (codes "positional-arguments") in
      let same = same_test (passes compilation (Some node)) h.passes
      (λ e. h.passing.1 (subst (λ own. IsOn w own (codes "positional-arguments")) p.is (on.0 e)))
      (λ e. on.1 (subst (λ own. IsOn w own (codes "positional-arguments")) (sym p.is) (h.passing.0 e))) in
      ap (λ (x : Option ModuleNode). option_and_then (row_at w compilation r.path (passes compilation x)) (recipe_of compilation x r.recipe)) (node_there w compilation r.path h.own p)
      ∙ ap (option_and_then (row_at w compilation r.path (passes compilation (Some node)))) f.found
      ∙ row_there w compilation r.path (passes compilation (Some node)) f.place h.key h.attributes h.shape f.shaped f.keyed
      ∙ ap (λ b. Some (row_of w compilation r.path b h.key h.attributes h.shape)) same
      ∙ ap (λ (x : RecipeRow). Some x) (sym h.says)

-- a recipe has just its row of the world
pub recipes_stand : RecipesStand
recipes_stand w compilation of o r row =
    (λ e. row_is w compilation of o r row (node_of compilation r.path) (recipe_of compilation (node_of compilation r.path) r.recipe) refl refl e, λ h. row_found w compilation of o r row h)
