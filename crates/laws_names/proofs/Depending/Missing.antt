-- What dependencies of kept and of disabled recipes miss.
use Rattle.std.proofs.Common.{◌≡◌, sym, ◌∙◌, ap, ap₂, subst, Bool, true, false, cond, true≢false, List, ℕ, Option, Some, None, refl, length}
use Rattle.std.specs.Option.{option_and_then, option_map}
use Rattle.std.proofs.lemmas.List.{length-map}
use Rattle.just_text.specs.Tokens.{lexeme}
use Rattle.just_text.specs.declared.name.Name.{Name}
use Rattle.tree_attributes.specs.Sets.Sets.{shapes_in}
use Rattle.tree_items.specs.Files.{recipe_item}
use Rattle.tree_items.specs.Paths.{path_names}
use Rattle.tree_items.specs.Recipes.{argument_shape, dependency_shape, recipe_shape}
use Rattle.tree_items.specs.declared.recipe.Recipe.{Recipe}
use Rattle.tree_items.specs.declared.recipe.UnresolvedDependency.{UnresolvedDependency}
use Rattle.modules_compilation.specs.declared.compilation.Compilation.{Compilation}
use Rattle.modules_compilation.specs.declared.module_node.ModuleNode.{ModuleNode}
use Rattle.modules_compilation.specs.declared.place.Place.{Place}
use Rattle.resolve_recipes.specs.Counts.{are_taken, count_of}
use Rattle.resolve_recipes.specs.Disabled.{count_at, disabled_from, reason_of, reason_of_count}
use Rattle.resolve_recipes.specs.Nodes.{recipe_at}
use Rattle.resolve_recipes.specs.Refusals.{Refusal, argument_count, module_as_recipe as module_refused, refused, unknown_dependency as dependency_refused}
use Rattle.resolve_recipes.specs.declared.recipe_resolver.RecipeResolver.{RecipeResolver}
use Rattle.meaning_rules.specs.Worlds.Given.{Text, World}
use Rattle.meaning_rules.specs.Worlds.Views.{node_view}
use Rattle.meaning_rules.specs.Depending.{IsModulePath, IsRecipePath, takes}
use Rattle.meaning_rules.specs.Rules.{FirstDisabledTakesOther, Misses, MissesAll, Rule, TakesOtherCount, dependency_argument_count, module_as_recipe, unknown_dependency}
use Rattle.laws_modules.specs.Names.Names.{HasNode}
use Rattle.laws_modules.proofs.Names.Paths.{standing_recipes_are_led}
use Rattle.laws_modules.specs.Names.Meant.{IsMeant}
use Rattle.laws_names.specs.Depending.Meant.{IsResolverFor, rule_of}
use Rattle.laws_names.proofs.Depending.Counting.{taken_alike}
use Rattle.laws_names.proofs.Depending.Disabled.{IsFirstOf, first_of}
use Rattle.laws_names.proofs.Depending.Dropped.{IsDisabledThere, disabled_path, none_of, only_first, takes_other, there_of}
use Rattle.laws_names.proofs.Depending.Led.{led_same, recipe_path}
use Rattle.laws_names.proofs.Depending.Outcomes.{IsFirst, IsFound, IsLeft, Outcome, a_count, a_module, outcome, placed, unknown}
use Rattle.laws_names.proofs.Depending.Standing.{has_options, recipe_there, shape_there}

-- what a test chooses
at_true : {A : Type 0} (x y : A) (b : Bool) → b ≡ true → cond b x y ≡ x
at_true x y b e = ap (λ c. cond c x y) e

at_false : {A : Type 0} (x y : A) (b : Bool) → b ≡ false → cond b x y ≡ y
at_false x y b e = ap (λ c. cond c x y) e

module _ (w : World) (compilation : Compilation) (resolver : RecipeResolver) (meant : IsMeant w compilation) (fits : IsResolverFor compilation resolver)
    (k : ℕ) (node : ModuleNode) (here : HasNode w compilation k node) (d : UnresolvedDependency) where
  abbrev path : List Text
  path = path_names d.recipe

  abbrev count : ℕ
  count = length d.arguments.items

  many : length (dependency_shape d).arguments ≡ count
  many = length-map d.arguments.items argument_shape

  abbrev Found : ℕ → Type 0
  Found place = IsFound w compilation resolver meant fits k node here d place

  -- ---- a dependency that has a place misses nothing

  found_path : (place : ℕ) → Found place → IsRecipePath w node.source.now path
  found_path place f =
      recipe_path w node.source.now path f.led.leads.modules f.led.leads.name f.led.leads.keeps.attributes f.led.leads.keeps.recipe (standing_recipes_are_led w compilation k node path f.led.kept.0 f.led.kept.1 f.led.leads)

  found_takes : (place : ℕ) → Found place → TakesOtherCount w node.source.now path (length (dependency_shape d).arguments) → ⊥
  found_takes place f (modules, name, attributes, r, led, other) =
      let s = led_same w compilation k node path f.led.kept.0 f.led.kept.1 f.led.leads modules name attributes r led in
      true≢false (sym f.led.taken ∙ ap₂ (λ a q. takes w a q count) s.same_attributes s.same_recipe ∙ ap (takes w attributes r) (sym many) ∙ other)

  pub none_missed : (place : ℕ) → Found place → (rule : Rule) (name : Text) → Misses w node.source.now (dependency_shape d) rule name → ⊥
  none_missed place f _ name (Misses.unknown none none') = none (found_path place f)
  none_missed place f _ name (Misses.a_module m) = f.no_module m
  none_missed place f _ name (Misses.a_count other) = found_takes place f other

  none_missed_after : (place : ℕ) → Found place → (rule : Rule) (name : Text) → MissesAll w node.source.now (dependency_shape d) rule name → ⊥
  none_missed_after place f _ name (MissesAll.unknown none none' no_disabled) = none (found_path place f)
  none_missed_after place f _ name (MissesAll.a_module m) = f.no_module m
  none_missed_after place f _ name (MissesAll.a_count other) = found_takes place f other
  none_missed_after place f _ name (MissesAll.a_disabled_count none none' other) = none (found_path place f)

  -- ---- one of a disabled recipe

  -- the refusal names a rule that the dependency breaks
  pub record IsMissedAfter (name : Text) (refusal : Refusal) : Type 0 where
    pub rule : Rule
    pub is : rule_of refusal ≡ Some rule
    pub misses : MissesAll w node.source.now (dependency_shape d) rule name

  -- it misses nothing, or is refused
  pub data AfterAll : Type 0 where
    fine : reason_of compilation resolver k d ≡ None → ((rule : Rule) (name : Text) → MissesAll w node.source.now (dependency_shape d) rule name → ⊥) → AfterAll
    missed : (refusal : Name → Refusal) → IsFirst w compilation resolver meant fits k node here d refusal → ((recipe : Name) → IsMissedAfter (lexeme recipe.token) (refusal recipe)) → AfterAll

  counted : (name : Text) → MissesAll w node.source.now (dependency_shape d) (dependency_argument_count name path (length (dependency_shape d).arguments)) name
      → (recipe : Name) → lexeme recipe.token ≡ name → IsMissedAfter name (argument_count recipe d.recipe count)
  counted name m recipe same =
      record { rule = dependency_argument_count name path (length (dependency_shape d).arguments); is = ap₂ (λ x n. Some (dependency_argument_count x path n)) same (sym many); misses = m }

  -- ---- a path to a disabled recipe

  module _ (none : IsRecipePath w node.source.now path → ⊥) (none' : IsModulePath w node.source.now path → ⊥) (left : IsLeft w compilation resolver meant fits k node here d) where
    module _ (item : Place) (at_item : disabled_from compilation (Some k) d.recipe ≡ Some item) (t : IsDisabledThere w compilation meant.of meant.single k node path item)
        (f : IsFirstOf w compilation meant.of t.inner t.submodule t.leads.there t.name item)
        (recipe : Recipe UnresolvedDependency) (there : recipe_at compilation item ≡ Some recipe) where
      shapes : recipe_item f.found.attributes f.found.r ≡ recipe_item (shapes_in recipe.attributes) (recipe_shape recipe)
      shapes = shape_there w compilation (node_view t.submodule) item f.found.key f.found.at (recipe_item f.found.attributes f.found.r) recipe f.found.there there

      taken : takes w f.found.attributes f.found.r count ≡ are_taken (count_of recipe.parameters.items) count
      taken =
          let e = shapes in
          let attributes : f.found.attributes ≡ shapes_in recipe.attributes = cc e in
          let shape : f.found.r ≡ recipe_shape recipe = cc e in
          ap₂ (λ a r. takes w a r count) attributes shape ∙ taken_alike w recipe count (has_options w compilation meant item recipe there)

      counts : option_and_then (count_at compilation) (disabled_from compilation (Some k) d.recipe) ≡ Some (count_of recipe.parameters.items)
      counts = ap (option_and_then (count_at compilation)) at_item ∙ ap (option_map (λ (r : Recipe UnresolvedDependency). count_of r.parameters.items)) there

      none_after : takes w f.found.attributes f.found.r count ≡ true → (rule : Rule) (name : Text) → MissesAll w node.source.now (dependency_shape d) rule name → ⊥
      none_after e _ name (MissesAll.unknown no_recipe no_module no_disabled) =
          no_disabled (t.submodule.source.now, f.found.key, f.found.at, f.found.attributes, f.found.r, disabled_path w compilation meant.of meant.single k node path item t f)
      none_after e _ name (MissesAll.a_module m) = none' m
      none_after e _ name (MissesAll.a_count (modules, other, attributes, r, led, few)) = none (recipe_path w node.source.now path modules other attributes r led)
      none_after e _ name (MissesAll.a_disabled_count no_recipe no_module g) =
          true≢false (sym e ∙ only_first w compilation meant.of meant.single k node path item t f count (subst (FirstDisabledTakesOther w node.source.now path) many g))

      by_taken : (b : Bool) → are_taken (count_of recipe.parameters.items) count ≡ b → AfterAll
      by_taken true e = fine (left ∙ ap (reason_of_count count) counts ∙ at_true _ _ (are_taken (count_of recipe.parameters.items) count) e) (none_after (taken ∙ e))
      by_taken false e = missed (λ x. argument_count x d.recipe count)
          (λ x. ap (option_map (λ reason. refused reason x d.recipe)) (left ∙ ap (reason_of_count count) counts ∙ at_false _ _ (are_taken (count_of recipe.parameters.items) count) e))
          (λ x. counted (lexeme x.token) (MissesAll.a_disabled_count none none' (subst (FirstDisabledTakesOther w node.source.now path) (sym many) (takes_other w compilation meant.of meant.single k node path item t f count (taken ∙ e)))) x refl)

    by_disabled : (o : Option Place) → disabled_from compilation (Some k) d.recipe ≡ o → AfterAll
    by_disabled None e = missed (λ x. dependency_refused x d.recipe)
        (λ x. ap (option_map (λ reason. refused reason x d.recipe)) (left ∙ ap (λ o. reason_of_count count (option_and_then (count_at compilation) o)) e))
        (λ x. record {
          rule = unknown_dependency (lexeme x.token) path;
          is = refl;
          misses = MissesAll.unknown none none' (λ p. none_of w compilation meant.of meant.single d.recipe k node here e p.0 p.1 p.2 p.3 p.4 p.5);
        })
    by_disabled (Some item) e =
        let t = there_of w compilation meant.of meant.single d.recipe k node here item e in
        let f = first_of w compilation meant.of t.inner t.submodule t.leads.there t.name item t.found in
        let r = recipe_there w compilation (node_view t.submodule) item f.found.key f.found.at f.found.attributes f.found.r f.found.there in
        by_taken item e t f r.0 r.1 (are_taken (count_of r.0.parameters.items) count) refl

  by_outcome : Outcome w compilation resolver meant fits k node here d → AfterAll
  by_outcome (placed place is no_reason f) = fine no_reason (none_missed_after place f)
  by_outcome (a_module r first m) = missed (λ x. module_refused d.recipe) first (λ x. record { rule = module_as_recipe path; is = refl; misses = MissesAll.a_module m })
  by_outcome (a_count r first other) = missed (λ x. argument_count x d.recipe count) first (λ x. counted (lexeme x.token) (MissesAll.a_count (subst (TakesOtherCount w node.source.now path) (sym many) other)) x refl)
  by_outcome (unknown r left none none') = by_disabled none none' left (disabled_from compilation (Some k) d.recipe) refl

  pub after_all : AfterAll
  after_all = by_outcome (outcome w compilation resolver meant fits k node here d)
