-- Dependencies that lead to recipes.
use Rattle.std.proofs.Common.{◌≡◌, sym, ◌∙◌, ap₂, subst, true≢false, List, ℕ, Ok, length}
use Rattle.tree_attributes.specs.Attributes.{AttributeShape}
use Rattle.tree_items.specs.Files.{recipe_item}
use Rattle.tree_items.specs.Paths.{path_names}
use Rattle.tree_items.specs.Recipes.{RecipeShape}
use Rattle.tree_items.specs.declared.recipe.UnresolvedDependency.{UnresolvedDependency}
use Rattle.just_text.specs.declared.name.Name.{Name}
use Rattle.modules_compilation.specs.declared.compilation.Compilation.{Compilation}
use Rattle.modules_compilation.specs.declared.module_node.ModuleNode.{ModuleNode}
use Rattle.modules_compilation.specs.declared.place.Place.{Place}
use Rattle.resolve_recipes.specs.Resolving.{place_of}
use Rattle.resolve_recipes.specs.declared.recipe_resolver.RecipeResolver.{RecipeResolver}
use Rattle.meaning_rules.specs.Worlds.Given.{Text, World}
use Rattle.meaning_rules.specs.Worlds.Keeping.{Keeps, KeepsAt, a_recipe}
use Rattle.meaning_rules.proofs.Worlds.Kept.{keeps_at_most_one}
use Rattle.meaning_rules.specs.Depending.{IsModulePath, IsRecipePath, LeadsTo, LeadsToRecipe, takes}
use Rattle.laws_modules.specs.Names.Names.{HasNode}
use Rattle.laws_modules.specs.Names.Targets.{LeadsToPlace}
use Rattle.laws_modules.proofs.Names.Found.{snoc_same}
use Rattle.laws_modules.proofs.Names.Paths.{led_recipes_stand, targets_are_exact}
use Rattle.laws_names.specs.Depending.Dependencies.{DependenciesAreLed, IsPlaced, LedDependenciesArePlaced}
use Rattle.laws_modules.specs.Names.Meant.{IsMeant}
use Rattle.laws_names.specs.Depending.Meant.{IsResolverFor}
use Rattle.laws_names.proofs.Depending.Outcomes.{IsFound, Outcome, a_count, a_module, outcome, placed, unknown}

-- a path to a recipe that is kept is one to a recipe
pub recipe_path : (w : World) (own : Text) (path modules : List Text) (name : Text) (attributes : List AttributeShape) (r : RecipeShape) → LeadsToRecipe w own path modules name attributes r → IsRecipePath w own path
recipe_path w own path modules name attributes r led =
    record { modules = modules; inner = led.inner; name = name; names = led.names; defined = record { key = led.kept.key; place = led.kept.place; item = recipe_item attributes r; defines = led.kept.kept.defines } }

-- what a path leads to in the compilation is what it leads to in the world
pub record IsSame (w : World) (compilation : Compilation) (k : ℕ) (node : ModuleNode) (path : List Text) (inner : ℕ) (place : Place)
    (l : LeadsToPlace w compilation k node path inner place) (modules : List Text) (name : Text) (attributes : List AttributeShape) (r : RecipeShape) : Type 0 where
  pub same_modules : l.modules ≡ modules
  pub same_name : l.name ≡ name
  pub same_attributes : l.keeps.attributes ≡ attributes
  pub same_recipe : l.keeps.recipe ≡ r

pub led_same : (w : World) (compilation : Compilation) (k : ℕ) (node : ModuleNode) (path : List Text) (inner : ℕ) (place : Place)
    (l : LeadsToPlace w compilation k node path inner place) (modules : List Text) (name : Text) (attributes : List AttributeShape) (r : RecipeShape)
    → LeadsToRecipe w node.source.now path modules name attributes r → IsSame w compilation k node path inner place l modules name attributes r
led_same w compilation k node path inner place l modules name attributes r led =
    let p = snoc_same l.modules modules l.name name (sym l.whole ∙ led.names.whole) in
    let own = l.leads.alone led.inner (subst (λ ms. LeadsTo w node.source.now ms led.inner) (sym p.0) led.names.leads) in
    let kept = subst (λ o. Keeps w o a_recipe name (recipe_item attributes r)) own led.kept in
    let kept' = subst (λ n. KeepsAt w l.submodule.source.now a_recipe n l.keeps.key l.keeps.at (recipe_item l.keeps.attributes l.keeps.recipe)) p.1 l.keeps.keeps in
    let same = (keeps_at_most_one w l.submodule.source.now a_recipe name l.keeps.key kept.key l.keeps.at kept.place (recipe_item l.keeps.attributes l.keeps.recipe) (recipe_item attributes r) kept' kept.kept).2 in
    let attributes_same : l.keeps.attributes ≡ attributes = cc same in
    let recipes_same : l.keeps.recipe ≡ r = cc same in
    record { same_modules = p.0; same_name = p.1; same_attributes = attributes_same; same_recipe = recipes_same }

module _ (w : World) (compilation : Compilation) (meant : IsMeant w compilation) (k : ℕ) (node : ModuleNode) (here : HasNode w compilation k node) (names : List Name) where
  -- a path leads to one recipe
  pub one_recipe : (modules modules' : List Text) (name name' : Text) (attributes attributes' : List AttributeShape) (r r' : RecipeShape) → LeadsToRecipe w node.source.now (path_names names) modules name attributes r
      → LeadsToRecipe w node.source.now (path_names names) modules' name' attributes' r' → (attributes ≡ attributes') × (r ≡ r')
  one_recipe modules modules' name name' attributes attributes' r r' led led' =
      let p = led_recipes_stand w compilation meant.of meant.single k node here names modules name attributes r led in
      let s = led_same w compilation k node (path_names names) p.inner p.place p.leads modules' name' attributes' r' led' in
      (sym p.same_attributes ∙ s.same_attributes, sym p.same_recipe ∙ s.same_recipe)

  -- no path leads to a recipe and to a module
  pub never_both : IsRecipePath w node.source.now (path_names names) → IsModulePath w node.source.now (path_names names) → ⊥
  never_both r m =
      let e = targets_are_exact w compilation meant.of meant.single k node here names in
      let one = e.recipe r in
      let other = e.module' m in
      let both = sym one.2 ∙ other.1 in
      absurd (cc both)

-- a dependency that has a place is found there
pub is_found : (w : World) (compilation : Compilation) (resolver : RecipeResolver) (meant : IsMeant w compilation) (fits : IsResolverFor compilation resolver)
    (k : ℕ) (node : ModuleNode) (here : HasNode w compilation k node) (dependency : UnresolvedDependency) (place : ℕ)
    → place_of compilation resolver k dependency ≡ Ok place → IsFound w compilation resolver meant fits k node here dependency place
is_found w compilation resolver meant fits k node here dependency place e = by_outcome (outcome w compilation resolver meant fits k node here dependency)
  where
    by_outcome : Outcome w compilation resolver meant fits k node here dependency → IsFound w compilation resolver meant fits k node here dependency place
    by_outcome (placed other is none f) =
        let same = sym is ∙ e in
        subst (IsFound w compilation resolver meant fits k node here dependency) (cc same) f
    by_outcome (a_module r first m) = absurd (r.not_placed place e)
    by_outcome (a_count r first other) = absurd (r.not_placed place e)
    by_outcome (unknown r left none none') = absurd (r.not_placed place e)

pub dependencies_are_led : DependenciesAreLed
dependencies_are_led w compilation resolver meant fits k node here dependency place e = (is_found w compilation resolver meant fits k node here dependency place e).led

pub led_dependencies_are_placed : LedDependenciesArePlaced
led_dependencies_are_placed w compilation resolver meant fits k node here dependency modules name attributes r led taken = by_outcome (outcome w compilation resolver meant fits k node here dependency)
  where
    recipe_is : IsRecipePath w node.source.now (path_names dependency.recipe)
    recipe_is = recipe_path w node.source.now (path_names dependency.recipe) modules name attributes r led

    by_outcome : Outcome w compilation resolver meant fits k node here dependency → IsPlaced w compilation resolver k node dependency modules name attributes r
    by_outcome (placed place is none f) =
        let s = led_same w compilation k node (path_names dependency.recipe) f.led.kept.0 f.led.kept.1 f.led.leads modules name attributes r led in
        record { place = place; is = is; led = f.led; same_modules = s.same_modules; same_name = s.same_name; same_attributes = s.same_attributes; same_recipe = s.same_recipe }
    by_outcome (a_count refused first (modules', name', attributes', r', led', other)) =
        let one = one_recipe w compilation meant k node here dependency.recipe modules modules' name name' attributes attributes' r r' led led' in
        absurd (true≢false (sym taken ∙ ap₂ (λ a q. takes w a q (length dependency.arguments.items)) one.0 one.1 ∙ other))
    by_outcome (a_module refused first m) = absurd (never_both w compilation meant k node here dependency.recipe recipe_is m)
    by_outcome (unknown refused left none none') = absurd (none recipe_is)
