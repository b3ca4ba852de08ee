-- Recipes of a compilation, and what stands at their places in the world.
use Rattle.std.proofs.Common.{◌≡◌, inl, inr, sym, ◌∙◌, ap, subst, List, ℕ, ◌≤◌, ◌<◌, Option, Some, None, refl, arith}
use Rattle.std.specs.Prelude.{Contains, slice_get}
use Rattle.std.proofs.lemmas.Bool.Decides.{leb_tells}
use Rattle.std.proofs.lemmas.Option.{none-some, same_Some, slice_get_within}
use Rattle.just_text.specs.Tokens.{lexeme}
use Rattle.tree_attributes.specs.Attributes.{AttributeShape}
use Rattle.tree_attributes.specs.Sets.Sets.{shapes_in}
use Rattle.tree_items.specs.Files.{ItemShape, item_shape, recipe_item}
use Rattle.tree_items.specs.Recipes.{RecipeShape, recipe_shape}
use Rattle.tree_items.specs.declared.ast.Item.{Item}
use Rattle.tree_items.specs.declared.ast.Item.TheVariants.{Alias, Assignment, Comment, Function, Import, Module, Newline, Recipe, Set, Unexport}
use Rattle.tree_items.specs.declared.recipe.Recipe.{Recipe as RecipeOf}
use Rattle.tree_items.specs.declared.recipe.UnresolvedDependency.{UnresolvedDependency}
use Rattle.parse_attributed_items.specs.Held.{HasOptions, IsOwnItem}
use Rattle.modules_compilation.specs.Places.{item_at, items_of}
use Rattle.modules_compilation.specs.declared.compilation.Compilation.{Compilation}
use Rattle.modules_compilation.specs.declared.module_node.File.{File}
use Rattle.modules_compilation.specs.declared.module_node.ModuleNode.{ModuleNode}
use Rattle.modules_compilation.specs.declared.place.Place.{Place}
use Rattle.resolve_recipes.specs.Nodes.{Kept, all_kept, recipe_at, recipe_of}
use Rattle.meaning_rules.specs.Worlds.Given.{Text, World}
use Rattle.meaning_rules.specs.Worlds.Compiled.{IsAt, NodeView}
use Rattle.meaning_rules.proofs.Worlds.Places.{place_of}
use Rattle.meaning_rules.specs.Worlds.Views.{node_view}
use Rattle.laws_modules.specs.Names.Names.{HasNode, KeepsRecipe, nodes, views}
use Rattle.laws_modules.proofs.Names.Found.{mapped, there_within}
use Rattle.laws_modules.proofs.Names.Named.{listed, node_is}
use Rattle.laws_modules.proofs.Names.Standing.{item_there}
use Rattle.laws_modules.specs.Names.Meant.{IsMeant}
use Rattle.laws_names.proofs.Depending.Kept.{is_kept}
use Rattle.laws_names.proofs.Depending.Lists.{all_at}

-- ---- items that are recipes

-- the item of a recipe's shape is one
recipe_shaped : (item : Item) (attributes : List AttributeShape) (r : RecipeShape) → item_shape item ≡ recipe_item attributes r → (recipe : RecipeOf UnresolvedDependency) × (item ≡ Recipe recipe)
recipe_shaped (Alias a) attributes r e = absurd (cc e)
recipe_shaped (Assignment a) attributes r e = absurd (cc e)
recipe_shaped (Comment text) attributes r e = absurd (cc e)
recipe_shaped (Function f) attributes r e = absurd (cc e)
recipe_shaped (Import i) attributes r e = absurd (cc e)
recipe_shaped (Module m) attributes r e = absurd (cc e)
recipe_shaped Newline attributes r e = absurd (cc e)
recipe_shaped (Recipe q) attributes r e = (q, refl)
recipe_shaped (Set s) attributes r e = absurd (cc e)
recipe_shaped (Unexport u) attributes r e = absurd (cc e)

-- the item of a recipe
recipe_back : (item : Item) (recipe : RecipeOf UnresolvedDependency) → recipe_of (Some item) ≡ Some recipe → item ≡ Recipe recipe
recipe_back (Alias a) recipe e = absurd (none-some recipe e)
recipe_back (Assignment a) recipe e = absurd (none-some recipe e)
recipe_back (Comment text) recipe e = absurd (none-some recipe e)
recipe_back (Function f) recipe e = absurd (none-some recipe e)
recipe_back (Import i) recipe e = absurd (none-some recipe e)
recipe_back (Module m) recipe e = absurd (none-some recipe e)
recipe_back Newline recipe e = absurd (none-some recipe e)
recipe_back (Recipe q) recipe e = ap (λ x. Recipe x) (same_Some q recipe e)
recipe_back (Set s) recipe e = absurd (none-some recipe e)
recipe_back (Unexport u) recipe e = absurd (none-some recipe e)

item_back : (o : Option Item) (recipe : RecipeOf UnresolvedDependency) → recipe_of o ≡ Some recipe → o ≡ Some (Recipe recipe)
item_back None recipe e = absurd (none-some recipe e)
item_back (Some item) recipe e = ap (λ x. Some x) (recipe_back item recipe e)

module _ (w : World) (compilation : Compilation) where
  -- a recipe stands at a place where the world has one
  pub recipe_there : (node : NodeView) (place : Place) (key : Text) (at : ℕ) (attributes : List AttributeShape) (r : RecipeShape) → IsAt w (views w compilation) (nodes w compilation) node place key at (recipe_item attributes r)
      → (recipe : RecipeOf UnresolvedDependency) × (recipe_at compilation place ≡ Some recipe)
  recipe_there node place key at attributes r h =
      let i = item_there w compilation node place key at (recipe_item attributes r) h in
      let s = recipe_shaped i.0 attributes r i.2 in
      (s.0, ap recipe_of i.1 ∙ ap (λ x. recipe_of (Some x)) s.1)

  -- and it has the shape that the world has
  pub shape_there : (node : NodeView) (place : Place) (key : Text) (at : ℕ) (shape : ItemShape) (recipe : RecipeOf UnresolvedDependency) → IsAt w (views w compilation) (nodes w compilation) node place key at shape
      → recipe_at compilation place ≡ Some recipe
      → shape ≡ recipe_item (shapes_in recipe.attributes) (recipe_shape recipe)
  shape_there node place key at shape recipe h e =
      let i = item_there w compilation node place key at shape h in
      let same : i.0 ≡ Recipe recipe = same_Some i.0 (Recipe recipe) (sym i.1 ∙ item_back (item_at compilation place) recipe e) in
      sym i.2 ∙ ap item_shape same

  -- two nodes with an item at one place are one
  module _ (meant : IsMeant w compilation) where
    pub one_home : (k k' : ℕ) (node node' : ModuleNode) → HasNode w compilation k node → HasNode w compilation k' node' → (file : ℕ) → node.first_file ≤ file → file < node.end_file → node'.first_file ≤ file → file < node'.end_file → k ≡ k'
    one_home k k' node node' here here' file from to from' to' = by_order
      where
        apart : (j j' : ℕ) (one other : ModuleNode) → HasNode w compilation j one → HasNode w compilation j' other → j < j' → one.first_file ≤ file → file < one.end_file → other.first_file ≤ file → file < other.end_file → ⊥
        apart j j' one other at at' lt f t f' t' = elim (meant.of.apart j j' (node_view one) (node_view other) (mapped node_view compilation.modules.items j one at) (mapped node_view compilation.modules.items j' other at') lt) [
          | inl p ↦ absurd (omega (arith, p, t, f'))
          | inr p ↦ absurd (omega (arith, p, t', f))
        ]

        by_order : k ≡ k'
        by_order = elim (leb_tells k k') [
          | inl p ↦ elim (leb_tells k' k) [
            | inl q ↦ let le = p.1 in let ge = q.1 in omega (arith, le, ge)
            | inr q ↦ absurd (apart k k' node node' here here' q.1 from to from' to')
          ]
          | inr p ↦ absurd (apart k' k node' node here' here p.1 from' to' from to)
        ]

    -- a recipe of the compilation is what its attributes make of it
    own_recipe : (place : Place) (recipe : RecipeOf UnresolvedDependency) → recipe_at compilation place ≡ Some recipe → IsOwnItem w.expansion (Recipe recipe)
    own_recipe place recipe e = by_file (slice_get compilation.files.items place.file) refl (item_back (item_at compilation place) recipe e)
      where
        by_file : (o : Option File) → slice_get compilation.files.items place.file ≡ o → slice_get (items_of o) place.item ≡ Some (Recipe recipe) → IsOwnItem w.expansion (Recipe recipe)
        by_file None is at = absurd (none-some (Recipe recipe) at)
        by_file (Some file) is at = all_at (IsOwnItem w.expansion) file.ast.items.items place.item (Recipe recipe) (meant.options place.file file is) at

    -- it has the options that its attributes say
    pub has_options : (place : Place) (recipe : RecipeOf UnresolvedDependency) → recipe_at compilation place ≡ Some recipe → HasOptions w.expansion recipe
    has_options place recipe e = (own_recipe place recipe e).0

    -- a recipe in a module's list is kept there by its name
    pub keeps_listed : (k : ℕ) (node : ModuleNode) → HasNode w compilation k node → (item : Place) → Contains node.recipes.items item → (name : Text) × KeepsRecipe w compilation node name item
    keeps_listed k node here item c =
        let n = node_is w compilation meant.of k node here in
        let p = place_of node.recipes.items item c in
        let lt = slice_get_within node.recipes.items p.0 item p.1 in
        let many = n.recipes.are.many in
        let t = there_within n.recipes.names p.0 (omega (arith, lt, many)) in
        (t.0, (listed w compilation meant.of k node here p.0 t.0 item t.1 p.1).0)

    -- what a recipe that is kept is in the world
    pub record StandsIn (kept : Kept) : Type 0 where
      pub node : ModuleNode
      pub here : HasNode w compilation kept.0 node
      pub keeps : KeepsRecipe w compilation node (lexeme kept.2.name.token) kept.1
      pub attributes : keeps.attributes ≡ shapes_in kept.2.attributes
      pub shape : keeps.recipe ≡ recipe_shape kept.2

    pub stands_in : (kept : Kept) → Contains (all_kept compilation) kept → StandsIn kept
    stands_in kept c =
        let k = is_kept compilation kept c in
        let l = keeps_listed kept.0 k.node k.here kept.1 k.listed in
        with_name k.node k.here k.there l.0 l.1
      where
        with_name : (node : ModuleNode) → HasNode w compilation kept.0 node → recipe_at compilation kept.1 ≡ Some kept.2 → (name : Text) → KeepsRecipe w compilation node name kept.1 → StandsIn kept
        with_name node here there name keeps =
            let shapes = shape_there (node_view node) kept.1 keeps.key keeps.at (recipe_item keeps.attributes keeps.recipe) kept.2 keeps.there there in
            let shape : keeps.recipe ≡ recipe_shape kept.2 = cc shapes in
            let named : name ≡ lexeme kept.2.name.token = sym keeps.is_named ∙ ap (λ (r : RecipeShape). r.name) shape in
            let keeps' = subst (λ n. KeepsRecipe w compilation node n kept.1) named keeps in
            let shapes' = shape_there (node_view node) kept.1 keeps'.key keeps'.at (recipe_item keeps'.attributes keeps'.recipe) kept.2 keeps'.there there in
            record { node = node; here = here; keeps = keeps'; attributes = cc shapes'; shape = cc shapes' }
