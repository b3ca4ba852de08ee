-- What is steady, by tests.
use Rattle.std.proofs.Common.{◌≡◌, ◌↔◌, refl, sym, ◌∙◌, ap, subst, true, false, not, Bool, List, Option, Some, None, ℕ}
use Rattle.std.specs.Prelude.{slice_get, Contains, is_some}
use Rattle.std.specs.List.{list_any}
use Rattle.std.proofs.lemmas.Option.{same_Some}
use Rattle.tree_items.specs.declared.recipe.Recipe.{Recipe}
use Rattle.tree_items.specs.declared.recipe.UnresolvedDependency.{UnresolvedDependency}
use Rattle.evaluate_context.specs.declared.settings.Settings.{Settings}
use Rattle.modules_compilation.specs.declared.compilation.Compilation.{Compilation}
use Rattle.modules_compilation.specs.declared.module_node.ModuleNode.{ModuleNode}
use Rattle.resolve_recipes.specs.Nodes.{recipe_at}
use Rattle.resolve_analysis.specs.declared.module_lists.ModuleLists.{ModuleLists}
use Rattle.resolve_analysis.specs.declared.recipes.ResolvedRecipe.{ResolvedRecipe}
use Rattle.justfile_analyzer.specs.Steady.{AreSteadyAt, AskFirst, HasValue, ModuleAsks}
use Rattle.justfile_analyzer.specs.Values.{has_value, value_in, value_of}
use Rattle.justfile_analyzer.proofs.Contained.{any_found, any_there}

some_of : {X : Type 0} (o : Option X) → is_some o ≡ true → (x : X) × (o ≡ Some x)
some_of None e = absurd (cc e)
some_of (Some x) e = (x, refl)

module _ (compilation : Compilation) (recipes : List ResolvedRecipe) where
  -- a recipe's parameter has a value where the test says so
  pub valued : list_any (value_in compilation) recipes ≡ true → HasValue compilation recipes
  valued e = let found = any_found (value_in compilation) recipes e in by_recipe found.0 found.1 (recipe_at compilation found.0.place) refl found.2
    where
      by_recipe : (resolved : ResolvedRecipe) → Contains recipes resolved → (o : Option (Recipe UnresolvedDependency)) → recipe_at compilation resolved.place ≡ o → value_of o ≡ true → HasValue compilation recipes
      by_recipe resolved among None is e = absurd (cc e)
      by_recipe resolved among (Some recipe) is e =
          let p = any_found has_value recipe.parameters.items e in
          let v = some_of p.0.value p.2 in
          record { resolved = resolved; among = among; recipe = recipe; stands = is; parameter = p.0; has = p.1; value = v.0; is = v.1 }

  pub unvalued : list_any (value_in compilation) recipes ≡ false → HasValue compilation recipes → ⊥
  unvalued none h =
      let here : value_in compilation h.resolved ≡ true = ap value_of h.stands ∙ any_there has_value h.recipe.parameters.items h.parameter h.has (ap is_some h.is) in
      let both : false ≡ true = sym none ∙ any_there (value_in compilation) recipes h.resolved h.among here in
      cc both

  module _ (lists : List ModuleLists) (settings : List Settings) where
    -- steady exactly where no module asks, and no parameter has a value
    pub steady_unless : (asks : Bool) → (asks ≡ true) ↔ ((home : ℕ) × ModuleAsks compilation lists settings home) → (HasValue compilation recipes → ⊥)
        → (not asks ≡ true → AreSteadyAt compilation recipes lists settings) × (AreSteadyAt compilation recipes lists settings → not asks ≡ true)
    steady_unless true so none = (λ e. absurd (cc e), λ steady. let m = so.0 refl in absurd (steady.unasked m.0 m.1))
    steady_unless false so none = (λ e. record { unasked = λ home m. let both : false ≡ true = so.1 (home, m) in cc both; unvalued = none }, λ steady. refl)

module _ (compilation : Compilation) (lists : List ModuleLists) (settings : List Settings) where
  -- what stands at the place of a module
  pub module_asks : (home : ℕ) (node : ModuleNode) (kept : ModuleLists) (own : Settings) → slice_get compilation.modules.items home ≡ Some node → slice_get lists home ≡ Some kept → slice_get settings home ≡ Some own
      → AskFirst compilation kept.functions.items own.share_subsequents node.recipes.items → ModuleAsks compilation lists settings home
  module_asks home node kept own here keeps set asks = record { node = node; here = here; kept = kept; keeps = keeps; own = own; set = set; asks = asks }

  pub asked_there : (home : ℕ) (node : ModuleNode) (kept : ModuleLists) (own : Settings) → slice_get compilation.modules.items home ≡ Some node → slice_get lists home ≡ Some kept → slice_get settings home ≡ Some own
      → ModuleAsks compilation lists settings home → AskFirst compilation kept.functions.items own.share_subsequents node.recipes.items
  asked_there home node kept own here keeps set m =
      let one : m.node ≡ node = same_Some m.node node (sym m.here ∙ here) in
      let list : m.kept ≡ kept = same_Some m.kept kept (sym m.keeps ∙ keeps) in
      let same : m.own ≡ own = same_Some m.own own (sym m.set ∙ set) in
      subst (λ (x : ModuleNode). AskFirst compilation kept.functions.items own.share_subsequents x.recipes.items) one
      (subst (λ (x : ModuleLists). AskFirst compilation x.functions.items own.share_subsequents m.node.recipes.items) list
      (subst (λ (x : Settings). AskFirst compilation m.kept.functions.items x.share_subsequents m.node.recipes.items) same m.asks))
