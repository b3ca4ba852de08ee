-- Recipes that modules keep, in the list of all.
use Rattle.std.proofs.Common.{◌≡◌, inl, inr, sym, ◌∙◌, ap, subst, List, [], ◌∷◌, ◌+◌, ℕ, zero, suc, Option, Some, None, refl, arith}
use Rattle.std.specs.Prelude.{Contains, slice_get}
use Rattle.std.specs.Option.{option_map}
use Rattle.std.proofs.lemmas.List.Elements.{Contains-append_cases, Contains-append_left, Contains-append_right}
use Rattle.std.proofs.lemmas.Option.{none-some, same_Some}
use Rattle.tree_items.specs.declared.recipe.Recipe.{Recipe}
use Rattle.tree_items.specs.declared.recipe.UnresolvedDependency.{UnresolvedDependency}
use Rattle.modules_compilation.specs.declared.compilation.Compilation.{Compilation}
use Rattle.modules_compilation.specs.declared.module_node.ModuleNode.{ModuleNode}
use Rattle.modules_compilation.specs.declared.place.Place.{Place}
use Rattle.resolve_recipes.specs.Nodes.{Kept, all_kept, kept_at, kept_by, kept_from, recipe_at}
use Rattle.meaning_rules.proofs.Worlds.Places.{contains_none}
use Rattle.laws_names.proofs.Depending.Lists.{given_back, given_there}

module _ (compilation : Compilation) where
  kept_option : (place : ℕ) (item : Place) (found : Option (Recipe UnresolvedDependency)) (kept : Kept) → option_map (λ recipe. (place, item, recipe)) found ≡ Some kept → (kept.0 ≡ place) × (kept.1 ≡ item) × (found ≡ Some kept.2)
  kept_option place item None kept e = absurd (none-some kept e)
  kept_option place item (Some recipe) kept e =
      let same = sym (same_Some (place, item, recipe) kept e) in
      (ap (λ (k : Kept). k.0) same, ap (λ (k : Kept). k.1) same, ap (λ (k : Kept). Some k.2) (sym same))

  -- one of these modules keeps the recipe, of which the first is at a place
  pub record IsIn (first : ℕ) (modules : List ModuleNode) (kept : Kept) : Type 0 where
    pub i : ℕ
    pub node : ModuleNode
    pub here : slice_get modules i ≡ Some node
    pub home : kept.0 ≡ first + i
    pub listed : Contains node.recipes.items kept.1
    pub there : recipe_at compilation kept.1 ≡ Some kept.2

  kept_in : (first : ℕ) (modules : List ModuleNode) (kept : Kept) → Contains (kept_from compilation first modules) kept → IsIn first modules kept
  kept_in first [] kept c = absurd (contains_none [] kept refl c)
  kept_in first (node ∷ modules) kept c = elim (Contains-append_cases (kept_by compilation first node) (kept_from compilation (suc first) modules) kept c) [
    | inl p ↦
        let g = given_back (kept_at compilation first) node.recipes.items kept p in
        let k = kept_option first g.0 (recipe_at compilation g.0) kept g.2 in
        let home = k.0 in
        record { i = 0; node = node; here = refl; home = omega (arith, home); listed = subst (Contains node.recipes.items) (sym k.1) g.1; there = ap (recipe_at compilation) k.1 ∙ k.2 }
    | inr p ↦
        let r = kept_in (suc first) modules kept p in
        let home = r.home in
        record { i = suc r.i; node = r.node; here = r.here; home = omega (arith, home); listed = r.listed; there = r.there }
  ]

  in_kept : (first : ℕ) (modules : List ModuleNode) (i k : ℕ) (node : ModuleNode) (item : Place) (recipe : Recipe UnresolvedDependency) → first + i ≡ k → slice_get modules i ≡ Some node → Contains node.recipes.items item
      → recipe_at compilation item ≡ Some recipe
      → Contains (kept_from compilation first modules) (k, item, recipe)
  in_kept first [] i k node item recipe e at c there = absurd (none-some node at)
  in_kept first (x ∷ modules) zero k node item recipe e at c there =
      let home : first ≡ k = omega (arith, e) in
      let one = sym (same_Some x node at) in
      Contains-append_left (kept_by compilation first x) (kept_from compilation (suc first) modules) (k, item, recipe)
      (given_there (kept_at compilation first) x.recipes.items item (k, item, recipe) (subst (λ (n : ModuleNode). Contains n.recipes.items item) one c)
      (ap (option_map (λ r. (first, item, r))) there ∙ ap (λ n. Some (n, item, recipe)) home))
  in_kept first (x ∷ modules) (suc i) k node item recipe e at c there =
      Contains-append_right (kept_by compilation first x) (kept_from compilation (suc first) modules) (k, item, recipe) (in_kept (suc first) modules i k node item recipe (omega (arith, e)) at c there)

  -- a recipe in the list of all is kept by its module
  pub record IsKept (kept : Kept) : Type 0 where
    pub node : ModuleNode
    pub here : slice_get compilation.modules.items kept.0 ≡ Some node
    pub listed : Contains node.recipes.items kept.1
    pub there : recipe_at compilation kept.1 ≡ Some kept.2

  pub is_kept : (kept : Kept) → Contains (all_kept compilation) kept → IsKept kept
  is_kept kept c =
      let r = kept_in 0 compilation.modules.items kept c in
      let home = r.home in
      let same : r.i ≡ kept.0 = omega (arith, home) in
      record { node = r.node; here = ap (slice_get compilation.modules.items) (sym same) ∙ r.here; listed = r.listed; there = r.there }

  -- and what a module keeps is in that list
  pub kept_there : (k : ℕ) (node : ModuleNode) (item : Place) (recipe : Recipe UnresolvedDependency) → slice_get compilation.modules.items k ≡ Some node → Contains node.recipes.items item → recipe_at compilation item ≡ Some recipe
      → Contains (all_kept compilation) (k, item, recipe)
  kept_there k node item recipe at c there = in_kept 0 compilation.modules.items k k node item recipe (omega arith) at c there
