-- Where recipes of a compilation are at home, and what stands at their places in the world.
use Rattle.std.proofs.Common.{◌≡◌, inl, inr, sym, ◌∙◌, ap, subst, ℕ, ◌≤◌, ◌<◌, Some, arith}
use Rattle.std.specs.Prelude.{Contains}
use Rattle.std.specs.Option.{option_map}
use Rattle.std.proofs.lemmas.Bool.Decides.{leb_tells}
use Rattle.std.proofs.lemmas.Option.{slice_get_within}
use Rattle.just_text.specs.Tokens.{lexeme}
use Rattle.tree_attributes.specs.Sets.Sets.{shapes_in}
use Rattle.tree_items.specs.Files.{item_shape, recipe_item}
use Rattle.tree_items.specs.Recipes.{RecipeShape, recipe_shape}
use Rattle.tree_items.specs.declared.recipe.Recipe.{Recipe as RecipeOf}
use Rattle.tree_items.specs.declared.recipe.UnresolvedDependency.{UnresolvedDependency}
use Rattle.modules_compilation.specs.declared.compilation.Compilation.{Compilation}
use Rattle.modules_compilation.specs.declared.module_node.ModuleNode.{ModuleNode}
use Rattle.modules_compilation.specs.declared.place.Place.{Place}
use Rattle.resolve_recipes.specs.Nodes.{Kept, all_kept, recipe_at}
use Rattle.meaning_rules.specs.Worlds.Given.{Text, World}
use Rattle.meaning_rules.proofs.Worlds.Places.{place_of}
use Rattle.meaning_rules.specs.Worlds.Views.{node_view}
use Rattle.laws_modules.specs.Names.Names.{HasNode, IsOfWorld, KeepsRecipe, nodes}
use Rattle.laws_modules.proofs.Names.Found.{mapped, there_within}
use Rattle.laws_modules.proofs.Names.Named.{listed, node_is}
use Rattle.laws_modules.proofs.Names.Standing.{item_there}
use Rattle.laws_names.proofs.Depending.Kept.{is_kept}
use Rattle.laws_names.proofs.Depending.Standing.{shape_there}
use Rattle.laws_runs.specs.Resolved.Definitions.{shape_at}

module _ (w : World) (compilation : Compilation) (is : IsOfWorld w compilation) where
  -- two nodes with a file in common are one
  one_home : (k k' : ℕ) (node node' : ModuleNode) → HasNode w compilation k node → HasNode w compilation k' node' → (file : ℕ) → node.first_file ≤ file → file < node.end_file → node'.first_file ≤ file → file < node'.end_file → k ≡ k'
  one_home k k' node node' here here' file from to from' to' = elim (leb_tells k k') [
    | inl p ↦ elim (leb_tells k' k) [
      | inl q ↦ let le = p.1 in let ge = q.1 in omega (arith, le, ge)
      | inr q ↦ absurd (apart k k' node node' here here' q.1 from to from' to')
    ]
    | inr p ↦ absurd (apart k' k node' node here' here p.1 from' to' from to)
  ]
    where
      apart : (j j' : ℕ) (one other : ModuleNode) → HasNode w compilation j one → HasNode w compilation j' other → j < j' → one.first_file ≤ file → file < one.end_file → other.first_file ≤ file → file < other.end_file → ⊥
      apart j j' one other at at' lt f t f' t' = elim (is.apart j j' (node_view one) (node_view other) (mapped node_view compilation.modules.items j one at) (mapped node_view compilation.modules.items j' other at') lt) [
        | inl p ↦ absurd (omega (arith, p, t, f'))
        | inr p ↦ absurd (omega (arith, p, t', f))
      ]

  -- two modules that keep the recipe at one place are one
  pub one_keeper : (k k' : ℕ) (node node' : ModuleNode) (name name' : Text) (place : Place) → HasNode w compilation k node → HasNode w compilation k' node'
      → KeepsRecipe w compilation node name place → KeepsRecipe w compilation node' name' place → k ≡ k'
  one_keeper k k' node node' name name' place here here' keeps keeps' = one_home k k' node node' here here' place.file keeps.there.from keeps.there.to keeps'.there.from keeps'.there.to

  -- a recipe in a module's list is kept there
  pub keeps_listed : (k : ℕ) (node : ModuleNode) → HasNode w compilation k node → (item : Place) → Contains node.recipes.items item → (name : Text) × KeepsRecipe w compilation node name item
  keeps_listed k node here item c =
      let n = node_is w compilation is k node here in
      let p = place_of node.recipes.items item c in
      let lt = slice_get_within node.recipes.items p.0 item p.1 in
      let many = n.recipes.are.many in
      let t = there_within n.recipes.names p.0 (omega (arith, lt, many)) in
      (t.0, (listed w compilation is k node here p.0 t.0 item t.1 p.1).0)

  -- the name and the shape of a recipe that is kept
  pub kept_name : (node : ModuleNode) (name : Text) (place : Place) (recipe : RecipeOf UnresolvedDependency) → KeepsRecipe w compilation node name place → recipe_at compilation place ≡ Some recipe → lexeme recipe.name.token ≡ name
  kept_name node name place recipe keeps e =
      let shapes = shape_there w compilation (node_view node) place keeps.key keeps.at (recipe_item keeps.attributes keeps.recipe) recipe keeps.there e in
      let shape : keeps.recipe ≡ recipe_shape recipe = cc shapes in
      sym (ap (λ (r : RecipeShape). r.name) shape) ∙ keeps.is_named

  pub kept_shape : (node : ModuleNode) (name : Text) (place : Place) (recipe : RecipeOf UnresolvedDependency) → KeepsRecipe w compilation node name place → recipe_at compilation place ≡ Some recipe
      → shape_at compilation place ≡ Some (recipe_item (shapes_in recipe.attributes) (recipe_shape recipe))
  kept_shape node name place recipe keeps e =
      let shapes = shape_there w compilation (node_view node) place keeps.key keeps.at (recipe_item keeps.attributes keeps.recipe) recipe keeps.there e in
      let i = item_there w compilation (node_view node) place keeps.key keeps.at (recipe_item keeps.attributes keeps.recipe) keeps.there in
      ap (option_map item_shape) i.1 ∙ ap (λ s. Some s) (i.2 ∙ shapes)

  -- what a recipe that is kept is in its module
  pub record IsHome (kept : Kept) : Type 0 where
    pub node : ModuleNode
    pub here : HasNode w compilation kept.0 node
    pub listed : Contains node.recipes.items kept.1
    pub there : recipe_at compilation kept.1 ≡ Some kept.2
    pub keeps : KeepsRecipe w compilation node (lexeme kept.2.name.token) kept.1

  pub home_of : (kept : Kept) → Contains (all_kept compilation) kept → IsHome kept
  home_of kept c =
      let k = is_kept compilation kept c in
      let l = keeps_listed kept.0 k.node k.here kept.1 k.listed in
      record {
        node = k.node;
        here = k.here;
        listed = k.listed;
        there = k.there;
        keeps = subst (λ n. KeepsRecipe w compilation k.node n kept.1) (sym (kept_name k.node l.0 kept.1 kept.2 l.1 k.there)) l.1;
      }
