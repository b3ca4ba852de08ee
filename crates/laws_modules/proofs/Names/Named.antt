-- The recipe of a name.
use Rattle.std.proofs.Common.{◌≡◌, sym, ◌∙◌, subst, ℕ, Option, Some, None, refl, arith, true≢false}
use Rattle.std.specs.Prelude.{slice_get}
use Rattle.std.specs.Str.{bytes_eq}
use Rattle.std.proofs.lemmas.Option.{slice_get_within}
use Rattle.std.proofs.lemmas.Slice.Eq.{bytes_eq-Decides}
use Rattle.modules_compilation.specs.declared.compilation.Compilation.{Compilation}
use Rattle.modules_compilation.specs.declared.module_node.ModuleNode.{ModuleNode}
use Rattle.modules_compilation.specs.declared.place.Place.{Place}
use Rattle.resolve_recipes.specs.Named.{recipe_of, text_at}
use Rattle.meaning_rules.specs.Worlds.Given.{Text, World}
use Rattle.meaning_rules.specs.Worlds.Keeping.{KeepsAt, a_recipe}
use Rattle.meaning_rules.specs.Worlds.Compiled.{AreRecipes, IsAt, IsNode}
use Rattle.meaning_rules.proofs.Worlds.Places.{place_of}
use Rattle.meaning_rules.specs.Worlds.Views.{node_view}
use Rattle.laws_modules.specs.Names.Names.{HasNode, IsOfWorld, IsRecipeOf, KeepsRecipe, RecipesAreKept, nodes, views}
use Rattle.laws_modules.proofs.Names.Defined.{none_defined}
use Rattle.laws_modules.proofs.Names.Found.{found_at, mapped, none_found, there_within}
use Rattle.laws_modules.proofs.Names.Standing.{is_recipe, text_there}

module _ (w : World) (compilation : Compilation) (is : IsOfWorld w compilation) (k : ℕ) (node : ModuleNode) (here : HasNode w compilation k node) where
  pub node_is : IsNode w (views w compilation) (nodes w compilation) k (node_view node)
  node_is = is.sound k (node_view node) (mapped node_view compilation.modules.items k node here)

  abbrev pub recipes : AreRecipes w (views w compilation) (nodes w compilation) (node_view node)
  recipes = node_is.recipes

  -- the recipe that stands at a place of the list has the name there
  pub listed : (n : ℕ) (name : Text) (place : Place) → slice_get recipes.names n ≡ Some name → slice_get node.recipes.items n ≡ Some place → KeepsRecipe w compilation node name place × (text_at compilation place ≡ name)
  listed n name place e f =
      let s = recipes.are.sound n name place e f in
      let r = is_recipe w.os s.2 name s.4.defines.is in
      let there = subst (IsAt w (views w compilation) (nodes w compilation) (node_view node) place s.0 s.1) r.2 s.3 in (
        record {
          key = s.0;
          at = s.1;
          attributes = r.0;
          recipe = r.1;
          there = there;
          keeps = subst (KeepsAt w node.source.now a_recipe name s.0 s.1) r.2 s.4;
          is_named = r.3;
        },
        text_there w compilation (node_view node) place s.0 s.1 r.0 r.1 there ∙ r.3,
      )

  recipe_is : (name : Text) (found : Option Place) → recipe_of compilation (Some node) name ≡ found → IsRecipeOf w compilation node name found
  recipe_is name (Some place) e =
      let f = found_at (λ p. bytes_eq (text_at compilation p) name) node.recipes.items place e in
      let lt = slice_get_within node.recipes.items f.0 place f.1 in
      let many = recipes.are.many in
      let n = there_within recipes.names f.0 (omega (arith, lt, many)) in
      let l = listed f.0 n.0 place n.1 f.1 in
      let same : n.0 ≡ name = sym l.1 ∙ (bytes_eq-Decides (text_at compilation place) name).0 f.2 in
      subst (λ t. KeepsRecipe w compilation node t place) same l.0
  recipe_is name None e = none_defined w node.source.now a_recipe name _ node_is.own_files.order (λ item h.
      let p = place_of recipes.names name (recipes.are.complete name item h) in
      let lt = slice_get_within recipes.names p.0 name p.1 in
      let many = recipes.are.many in
      let q = there_within node.recipes.items p.0 (omega (arith, lt, many)) in
      let l = listed p.0 name q.0 p.1 q.1 in
      let no_text = none_found (λ p. bytes_eq (text_at compilation p) name) node.recipes.items e p.0 q.0 q.1 in
      true≢false (sym ((bytes_eq-Decides (text_at compilation q.0) name).1 l.1) ∙ no_text))

pub recipes_are_kept : RecipesAreKept
recipes_are_kept w compilation is k node here name = recipe_is w compilation is k node here name (recipe_of compilation (Some node) name) refl
