-- Where nothing is refused, no rule on dependencies is broken.
use Rattle.std.proofs.Common.{◌≡◌, inl, inr, sym, ◌∙◌, ap, subst, List, ◌++◌, ℕ, None, Ok}
use Rattle.std.specs.Prelude.{Contains, slice_get}
use Rattle.std.proofs.lemmas.List.Elements.{Contains-append_cases}
use Rattle.just_text.specs.declared.name.Name.{Name}
use Rattle.tree_items.specs.Files.{recipe_item}
use Rattle.tree_items.specs.Items.{AliasShape}
use Rattle.tree_items.specs.Paths.{path_names}
use Rattle.tree_items.specs.Recipes.{DependencyShape, RecipeShape, dependency_shape, recipe_shape}
use Rattle.tree_items.specs.declared.item.Alias.{Alias}
use Rattle.tree_items.specs.declared.recipe.Recipe.{Recipe}
use Rattle.tree_items.specs.declared.recipe.UnresolvedDependency.{UnresolvedDependency}
use Rattle.modules_compilation.specs.declared.compilation.Compilation.{Compilation}
use Rattle.modules_compilation.specs.declared.compilation.Target.TheVariants.{Module as ModuleTarget}
use Rattle.modules_compilation.specs.declared.module_node.ModuleNode.{ModuleNode}
use Rattle.resolve_recipes.specs.Disabled.{first_refusal}
use Rattle.resolve_recipes.specs.Leading.{target_in}
use Rattle.resolve_recipes.specs.Nodes.{all_kept}
use Rattle.resolve_recipes.specs.Resolving.{all_needs}
use Rattle.resolve_recipes.specs.declared.recipe_resolver.RecipeResolver.{RecipeResolver}
use Rattle.meaning_rules.specs.Worlds.Given.{Text, World}
use Rattle.meaning_rules.specs.Worlds.Sources.{IsFileOf}
use Rattle.meaning_rules.specs.Worlds.Keeping.{IsDisabled, Keeps, a_recipe}
use Rattle.meaning_rules.proofs.Worlds.Places.{contains_at}
use Rattle.meaning_rules.specs.Worlds.Views.{node_view}
use Rattle.meaning_rules.specs.Depending.{IsModulePath}
use Rattle.meaning_rules.specs.Rules.{BreaksDependency, HasAlias, HasDependency, IsDroppedRecipe, IsKeptRecipe, Misses, MissesAll, Rule, of_disabled, of_kept}
use Rattle.laws_modules.specs.Names.Names.{HasNode}
use Rattle.laws_modules.specs.Names.Targets.{KeepsAlias}
use Rattle.laws_modules.proofs.Names.Aliases.{alias_here}
use Rattle.laws_modules.proofs.Names.Modules.{modules_are_nodes}
use Rattle.laws_modules.proofs.Names.Paths.{targets_are_exact}
use Rattle.laws_names.specs.Depending.Dependencies.{AreOf, DependenciesAreClear, ListsDisabled, priors, subsequents}
use Rattle.laws_modules.specs.Names.Meant.{IsMeant}
use Rattle.laws_names.specs.Depending.Meant.{IsResolverFor}
use Rattle.laws_names.proofs.Depending.Disabled.{disabled_listed}
use Rattle.laws_names.proofs.Depending.Led.{is_found}
use Rattle.laws_names.proofs.Depending.Missing.{none_missed}
use Rattle.laws_names.proofs.Depending.Needing.{needs_given, row_there}
use Rattle.laws_names.proofs.Depending.Refused.{none_refused}
use Rattle.laws_names.proofs.Depending.Standing.{recipe_there, shape_there}
use Rattle.laws_names.proofs.Depending.Told.{listed_back}
use Rattle.laws_names.proofs.Depending.Walks.{IsKeptThere, kept_of_world}

module _ (w : World) (compilation : Compilation) (resolver : RecipeResolver) (meant : IsMeant w compilation) (fits : IsResolverFor compilation resolver) where
  -- a dependency of a kept recipe
  none_of_kept : (needs : List (List ℕ)) → all_needs compilation resolver (all_kept compilation) ≡ Ok needs → (rule : Rule) (own name : Text) (d : DependencyShape) → HasDependency w (IsKeptRecipe w) own name d → Misses w own d rule name → ⊥
  none_of_kept needs given rule own name d h misses =
      let m = modules_are_nodes w compilation meant.of meant.single h.path own h.is in
      in_node m.0 m.1 m.2 (sym m.4)
    where
      with_kept : (k : ℕ) (node : ModuleNode) (a : IsKeptThere w compilation resolver meant fits node k h.recipe.name h.recipe) → HasNode w compilation a.kept.0 node → own ≡ node.source.now → ⊥
      with_kept k node a here same =
          let row = row_there compilation resolver (all_kept compilation) needs given a.place a.kept a.here in
          let b = listed_back a.kept.2 d (subst (λ (x : RecipeShape). Contains (x.priors ++ x.subsequents) d) a.is h.listed) in
          let n = needs_given w compilation resolver meant fits a.kept.0 node here a.kept.2.name (a.kept.2.priors.items ++ a.kept.2.subsequents.items) row.0 row.2 b.0 b.1 in
          none_missed w compilation resolver meant fits a.kept.0 node here b.0 n.0 (is_found w compilation resolver meant fits a.kept.0 node here b.0 n.0 n.1) rule name
          (subst (λ x. Misses w node.source.now x rule name) (sym b.2) (subst (λ o. Misses w o d rule name) same misses))

      in_node : (k : ℕ) (node : ModuleNode) → HasNode w compilation k node → own ≡ node.source.now → ⊥
      in_node k node here same =
          let a = kept_of_world w compilation resolver meant fits k node here h.recipe.name h.attributes h.recipe (subst (λ o. Keeps w o a_recipe h.recipe.name (recipe_item h.attributes h.recipe)) same h.there) in
          with_kept k node a (ap (slice_get compilation.modules.items) a.home ∙ here) same

  abbrev NoneRefused : Type 0
  NoneRefused = (k : ℕ) (recipe : Recipe UnresolvedDependency) → ListsDisabled w compilation k recipe → (dependencies : List UnresolvedDependency) → AreOf recipe dependencies → first_refusal compilation resolver k recipe.name dependencies ≡ None

  -- a dependency of a disabled one
  none_of_disabled : NoneRefused → (rule : Rule) (own name : Text) (d : DependencyShape) → HasDependency w (IsDroppedRecipe w) own name d → MissesAll w own d rule name → ⊥
  none_of_disabled none rule own name d h misses =
      let m = modules_are_nodes w compilation meant.of meant.single h.path own h.is in
      in_node m.0 m.1 m.2 (sym m.4)
    where
      with_dependency : (k : ℕ) (node : ModuleNode) (here : HasNode w compilation k node) (recipe : Recipe UnresolvedDependency) → ListsDisabled w compilation k recipe
          → (b : UnresolvedDependency) → Contains (recipe.priors.items ++ recipe.subsequents.items) b → MissesAll w node.source.now (dependency_shape b) rule name → ⊥
      with_dependency k node here recipe has b c missed = elim (Contains-append_cases recipe.priors.items recipe.subsequents.items b c) [
        | inl p ↦ none_refused w compilation resolver meant fits k node here recipe.name recipe.priors.items (none k recipe has recipe.priors.items priors) b p rule name missed
        | inr p ↦ none_refused w compilation resolver meant fits k node here recipe.name recipe.subsequents.items (none k recipe has recipe.subsequents.items subsequents) b p rule name missed
      ]

      with_recipe : (k : ℕ) (node : ModuleNode) (here : HasNode w compilation k node) (recipe : Recipe UnresolvedDependency) → ListsDisabled w compilation k recipe → own ≡ node.source.now → h.recipe ≡ recipe_shape recipe → ⊥
      with_recipe k node here recipe has same shape =
          let b = listed_back recipe d (subst (λ (x : RecipeShape). Contains (x.priors ++ x.subsequents) d) shape h.listed) in
          with_dependency k node here recipe has b.0 b.1 (subst (λ x. MissesAll w node.source.now x rule name) (sym b.2) (subst (λ o. MissesAll w o d rule name) same misses))

      in_node : (k : ℕ) (node : ModuleNode) → HasNode w compilation k node → own ≡ node.source.now → ⊥
      in_node k node here same =
          let i = h.there.0 in
          let is_disabled : IsDisabled w node.source.now i.file i.place h.attributes h.recipe = record { of = subst (λ o. IsFileOf w o i.file) same i.of; has = i.has; disabled = h.there.1 } in
          let l = disabled_listed w compilation meant.of k node here i.file i.place h.attributes h.recipe is_disabled in
          let r = recipe_there w compilation (node_view node) l.item i.file i.place h.attributes h.recipe l.there in
          let shapes = shape_there w compilation (node_view node) l.item i.file i.place (recipe_item h.attributes h.recipe) r.0 l.there r.1 in
          let shape : h.recipe ≡ recipe_shape r.0 = cc shapes in
          with_recipe k node here r.0 (record { node = node; here = here; item = l.item; listed = contains_at node.disabled.items l.n l.item l.listed; there = r.1 }) same shape

  none_broken : (needs : List (List ℕ)) → all_needs compilation resolver (all_kept compilation) ≡ Ok needs → NoneRefused → (rule : Rule) → BreaksDependency w rule → ⊥
  none_broken needs given none rule (of_kept {own} {name} {d} h misses) = none_of_kept needs given rule own name d h misses
  none_broken needs given none rule (of_disabled {own} {name} {d} h misses) = none_of_disabled none rule own name d h misses

  abbrev NoModule : Type 0
  NoModule = (k : ℕ) (alias : Alias (List Name)) → KeepsAlias w compilation k alias → (inner : ℕ) → target_in compilation k alias.target ≡ ModuleTarget inner → ⊥

  -- an alias of the world
  none_of_alias : NoModule → (own : Text) (a : AliasShape) (path : List Text) → HasAlias w own a → a.target ≡ path → IsModulePath w own path → ⊥
  none_of_alias none own a path has to m =
      let h = alias_here w compilation meant.of meant.single own a has in
      let e = targets_are_exact w compilation meant.of meant.single h.k h.keeps.node h.keeps.here h.alias.target in
      let path_is : path_names h.alias.target ≡ path = ap (λ (x : AliasShape). x.target) h.shape ∙ to in
      let t = e.module' (subst (λ p. IsModulePath w h.keeps.node.source.now p) (sym path_is) (subst (λ o. IsModulePath w o path) (sym h.source) m)) in
      none h.k h.alias h.keeps t.0 t.1

pub dependencies_are_clear : DependenciesAreClear
dependencies_are_clear w compilation resolver meant fits needs given no_refusal no_module o = record {
  unknown = λ name path b. none_broken w compilation resolver meant fits needs given no_refusal _ b.breaks;
  counts = λ name path count b. none_broken w compilation resolver meant fits needs given no_refusal _ b.breaks;
  modules = λ path b. elim b.breaks [
    | inl p ↦ none_broken w compilation resolver meant fits needs given no_refusal _ p
    | inr p ↦ none_of_alias w compilation resolver meant fits no_module p.0 p.1 path p.2 p.3 p.4
  ];
}
