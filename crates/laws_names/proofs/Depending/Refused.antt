-- The refusals of disabled recipes' dependencies name rules that are broken.
use Rattle.std.proofs.Common.{◌≡◌, ◌⊎◌, inl, inr, sym, ◌∙◌, ap, subst, List, [], ◌∷◌, ◌++◌, ℕ, Option, Some, None, refl}
use Rattle.std.specs.Prelude.{Contains}
use Rattle.std.specs.Option.{option_map, option_or}
use Rattle.std.proofs.lemmas.List.Elements.{Contains-append_left, Contains-append_right}
use Rattle.std.proofs.lemmas.Option.{none-some, same_Some}
use Rattle.just_text.specs.Tokens.{lexeme}
use Rattle.just_text.specs.declared.name.Name.{Name}
use Rattle.tree_attributes.specs.Sets.Sets.{shapes_in}
use Rattle.tree_items.specs.Files.{recipe_item}
use Rattle.tree_items.specs.Recipes.{DependencyShape, dependency_shape, recipe_shape}
use Rattle.tree_items.specs.declared.recipe.Recipe.{Recipe}
use Rattle.tree_items.specs.declared.recipe.UnresolvedDependency.{UnresolvedDependency}
use Rattle.modules_compilation.specs.declared.compilation.Compilation.{Compilation}
use Rattle.modules_compilation.specs.declared.module_node.ModuleNode.{ModuleNode}
use Rattle.resolve_recipes.specs.Disabled.{first_refusal, reason_of}
use Rattle.resolve_recipes.specs.Refusals.{Refusal, refused}
use Rattle.resolve_recipes.specs.declared.recipe_resolver.RecipeResolver.{RecipeResolver}
use Rattle.meaning_rules.specs.Worlds.Given.{Overrides, Text, World}
use Rattle.meaning_rules.specs.Worlds.Sources.{AreSaid, Has, enabled}
use Rattle.meaning_rules.proofs.Worlds.Places.{contains_cases, contains_first, contains_later, contains_none}
use Rattle.meaning_rules.specs.Worlds.Views.{node_view}
use Rattle.meaning_rules.specs.Rules.{Broken, HasDependency, InModule, IsDroppedRecipe, MissesAll, Rule, of_disabled}
use Rattle.laws_modules.specs.Names.Names.{HasNode}
use Rattle.laws_modules.proofs.Names.Modules.{reached_are_said}
use Rattle.laws_modules.proofs.Names.Named.{node_is}
use Rattle.laws_names.specs.Depending.Dependencies.{AreOf, DisabledDependenciesAreTold, priors, subsequents}
use Rattle.laws_modules.specs.Names.Meant.{IsMeant}
use Rattle.laws_names.specs.Depending.Meant.{IsResolverFor}
use Rattle.laws_names.proofs.Depending.Disabled.{disabled_at}
use Rattle.laws_names.proofs.Depending.Missing.{AfterAll, IsMissedAfter, after_all, fine, missed}
use Rattle.laws_names.proofs.Depending.Standing.{shape_there}
use Rattle.laws_names.proofs.Depending.Told.{shape_listed}

module _ (w : World) (compilation : Compilation) (resolver : RecipeResolver) (meant : IsMeant w compilation) (fits : IsResolverFor compilation resolver) (k : ℕ) (node : ModuleNode) (here : HasNode w compilation k node) where
  abbrev After : UnresolvedDependency → Type 0
  After d = AfterAll w compilation resolver meant fits k node here d

  after : (d : UnresolvedDependency) → After d
  after d = after_all w compilation resolver meant fits k node here d

  abbrev Missed : Name → UnresolvedDependency → Refusal → Type 0
  Missed recipe d refusal = IsMissedAfter w compilation resolver meant fits k node here d (lexeme recipe.token) refusal

  -- the refusal is that of the first, or of a later one
  first_or_later : (recipe : Name) (d : UnresolvedDependency) (later : Option Refusal) (refusal : Refusal) → After d → option_or (option_map (λ reason. refused reason recipe d.recipe) (reason_of compilation resolver k d)) later ≡ Some refusal
      → Missed recipe d refusal ⊎ (later ≡ Some refusal)
  first_or_later recipe d later refusal (fine none no_rule) e = inr (sym (ap (λ o. option_or (option_map (λ reason. refused reason recipe d.recipe) o) later) none) ∙ e)
  first_or_later recipe d later refusal (missed told first rule) e =
      let same = same_Some (told recipe) refusal (sym (ap (λ o. option_or o later) (first recipe)) ∙ e) in
      inl (subst (Missed recipe d) same (rule recipe))

  refusal_missed : (recipe : Name) (ds : List UnresolvedDependency) (refusal : Refusal) → first_refusal compilation resolver k recipe ds ≡ Some refusal → (d : UnresolvedDependency) × Contains ds d × Missed recipe d refusal
  refusal_missed recipe [] refusal e = absurd (none-some refusal e)
  refusal_missed recipe (x ∷ ds) refusal e = elim (first_or_later recipe x (first_refusal compilation resolver k recipe ds) refusal (after x) e) [
    | inl m ↦ (x, contains_first x ds, m)
    | inr later ↦ let r = refusal_missed recipe ds refusal later in (r.0, contains_later x ds r.0 r.1, r.2)
  ]

  -- where nothing is refused, no dependency misses a rule
  some_first : (recipe : Name) (d : UnresolvedDependency) (later : Option Refusal) → After d → option_or (option_map (λ reason. refused reason recipe d.recipe) (reason_of compilation resolver k d)) later ≡ None
      → ((rule : Rule) (name : Text) → MissesAll w node.source.now (dependency_shape d) rule name → ⊥) × (later ≡ None)
  some_first recipe d later (fine none no_rule) e = (no_rule, sym (ap (λ o. option_or (option_map (λ reason. refused reason recipe d.recipe) o) later) none) ∙ e)
  some_first recipe d later (missed told first rule) e = absurd (none-some (told recipe) (sym e ∙ ap (λ o. option_or o later) (first recipe)))

  pub none_refused : (recipe : Name) (ds : List UnresolvedDependency) → first_refusal compilation resolver k recipe ds ≡ None → (d : UnresolvedDependency) → Contains ds d → (rule : Rule) (name : Text)
      → MissesAll w node.source.now (dependency_shape d) rule name → ⊥
  none_refused recipe [] e d c = absurd (contains_none [] d refl c)
  none_refused recipe (x ∷ ds) e d c =
      let s = some_first recipe x (first_refusal compilation resolver k recipe ds) (after x) e in
      elim (contains_cases x ds d c) [
        | inl same ↦ subst (λ y. (rule : Rule) (name : Text) → MissesAll w node.source.now (dependency_shape y) rule name → ⊥) same s.0
        | inr later ↦ none_refused recipe ds s.1 d later
      ]

listed_of : (recipe : Recipe UnresolvedDependency) (ds : List UnresolvedDependency) → AreOf recipe ds → (d : UnresolvedDependency) → Contains ds d → Contains (recipe.priors.items ++ recipe.subsequents.items) d
listed_of recipe _ priors d c = Contains-append_left recipe.priors.items recipe.subsequents.items d c
listed_of recipe _ subsequents d c = Contains-append_right recipe.priors.items recipe.subsequents.items d c

-- a rule that a disabled recipe's dependency misses is broken
missed_breaks : (w : World) (own name : Text) (d : DependencyShape) (rule : Rule) → HasDependency w (IsDroppedRecipe w) own name d → MissesAll w own d rule name → AreSaid w → (o : Overrides) → Broken w o rule
missed_breaks w own name d _ h (MissesAll.unknown none none' no_disabled) said o = record { said = λ b. said; breaks = of_disabled h (MissesAll.unknown none none' no_disabled) }
missed_breaks w own name d _ h (MissesAll.a_module m) said o = record { said = λ b. said; breaks = inl (of_disabled h (MissesAll.a_module m)) }
missed_breaks w own name d _ h (MissesAll.a_count other) said o = record { said = λ b. said; breaks = of_disabled h (MissesAll.a_count other) }
missed_breaks w own name d _ h (MissesAll.a_disabled_count none none' other) said o = record { said = λ b. said; breaks = of_disabled h (MissesAll.a_disabled_count none none' other) }

pub disabled_dependencies_are_told : DisabledDependenciesAreTold
disabled_dependencies_are_told w compilation resolver meant fits o k recipe h ds of refusal e =
    let m = refusal_missed w compilation resolver meant fits k h.node h.here recipe.name ds refusal e in
    let n = node_is w compilation meant.of k h.node h.here in
    let a = disabled_at w compilation meant.of k h.node h.here h.item h.listed in
    let shape = shape_there w compilation (node_view h.node) h.item a.key a.at (recipe_item a.attributes a.r) recipe a.there h.there in
    let item_is = subst (Has w a.key a.at) shape a.is_disabled.has in
    let attributes : a.attributes ≡ shapes_in recipe.attributes = cc shape in
    let in_module : InModule w h.node.source.now (recipe_item (shapes_in recipe.attributes) (recipe_shape recipe)) = record { path = n.path; is = n.is; file = a.key; of = a.is_disabled.of; place = a.at; has = item_is } in
    let has : HasDependency w (IsDroppedRecipe w) h.node.source.now (lexeme recipe.name.token) (dependency_shape m.0) = record {
      path = n.path;
      is = n.is;
      attributes = shapes_in recipe.attributes;
      recipe = recipe_shape recipe;
      there = (in_module, sym (ap (enabled w.os) attributes) ∙ a.is_disabled.disabled);
      is_named = refl;
      listed = shape_listed recipe m.0 (listed_of recipe ds of m.0 m.1);
    } in
    (m.2.rule, m.2.is, missed_breaks w h.node.source.now (lexeme recipe.name.token) (dependency_shape m.0) m.2.rule has m.2.misses (reached_are_said w compilation meant.of meant.single) o)
