-- The place of a dependency, or why it has none, in the world.
use Rattle.std.proofs.Common.{◌≡◌, sym, ◌∙◌, ap, ap₂, subst, Bool, true, false, List, ℕ, Option, Some, None, Result, Ok, Err, refl, map, length, arith, ◌≤◌, ◌<◌}
use Rattle.std.specs.Prelude.{Contains, slice_get}
use Rattle.std.specs.Option.{option_and_then, option_map}
use Rattle.std.specs.Str.{bytes_eq}
use Rattle.std.proofs.lemmas.Option.{same_Some}
use Rattle.std.proofs.lemmas.Slice.Eq.{bytes_eq-Decides}
use Rattle.just_text.specs.declared.name.Name.{Name}
use Rattle.tree_attributes.specs.Sets.Sets.{shapes_in}
use Rattle.tree_items.specs.Files.{recipe_item}
use Rattle.tree_items.specs.Paths.{path_names}
use Rattle.tree_items.specs.Recipes.{recipe_shape}
use Rattle.tree_items.specs.declared.recipe.UnresolvedDependency.{UnresolvedDependency}
use Rattle.modules_compilation.specs.declared.compilation.Compilation.{Compilation}
use Rattle.modules_compilation.specs.declared.compilation.Target.{Target}
use Rattle.modules_compilation.specs.declared.compilation.Target.TheVariants.{Recipe, Module, Nothing}
use Rattle.modules_compilation.specs.declared.module_node.ModuleNode.{ModuleNode}
use Rattle.modules_compilation.specs.declared.place.Place.{Place}
use Rattle.resolve_recipes.specs.Counts.{count_of}
use Rattle.resolve_recipes.specs.Leading.{target_in}
use Rattle.resolve_recipes.specs.Named.{recipe_of, text_at}
use Rattle.resolve_recipes.specs.Nodes.{Kept, all_kept, recipe_at}
use Rattle.resolve_recipes.specs.Disabled.{count_at, disabled_from, reason_of, reason_of_count, reason_or}
use Rattle.resolve_recipes.specs.Refusals.{Refusal, argument_count, module_as_recipe, refused, unknown_dependency}
use Rattle.resolve_recipes.specs.Resolving.{if_taken, named_by, named_in, place_before, place_of, place_of_named, recipe_or_nothing, take_so_many, takes_at}
use Rattle.resolve_recipes.specs.Standing.{last_place, place_in}
use Rattle.resolve_recipes.specs.declared.recipe_resolver.Named.TheVariants as Named
use Rattle.resolve_recipes.specs.declared.recipe_resolver.RecipeResolver.{RecipeResolver}
use Rattle.meaning_rules.specs.Worlds.Given.{Text, World}
use Rattle.meaning_rules.proofs.Worlds.Places.{contains_at, place_of as place_among}
use Rattle.meaning_rules.specs.Worlds.Views.{node_view}
use Rattle.meaning_rules.specs.Depending.{IsModulePath, IsRecipePath, takes}
use Rattle.meaning_rules.specs.Rules.{TakesOtherCount}
use Rattle.laws_modules.specs.Names.Names.{HasNode}
use Rattle.laws_modules.specs.Names.Targets.{IsTarget, LeadsToPlace}
use Rattle.laws_modules.proofs.Names.Found.{found_at, mapped, mapped_at}
use Rattle.laws_modules.proofs.Names.Paths.{standing_recipes_are_led, targets_are_meant}
use Rattle.laws_modules.proofs.Names.Standing.{text_there}
use Rattle.laws_names.specs.Depending.Dependencies.{IsLed}
use Rattle.laws_modules.specs.Names.Meant.{IsMeant}
use Rattle.laws_names.specs.Depending.Meant.{IsResolverFor}
use Rattle.laws_names.proofs.Depending.Counting.{taken_alike}
use Rattle.laws_names.proofs.Depending.Kept.{is_kept, kept_there}
use Rattle.laws_names.proofs.Depending.Leading.{IsNamed, target_named}
use Rattle.laws_names.proofs.Depending.Lists.{last_found, last_there}
use Rattle.laws_names.proofs.Depending.Standing.{has_options, keeps_listed, one_home, recipe_there, shape_there, stands_in}

module _ (w : World) (compilation : Compilation) (resolver : RecipeResolver) (meant : IsMeant w compilation) (fits : IsResolverFor compilation resolver) where
  -- the recipe at the place of an item is the one that stands there
  pub record IsPlace (k : ℕ) (item : Place) (place : ℕ) : Type 0 where
    pub kept : Kept
    pub here : slice_get (all_kept compilation) place ≡ Some kept
    pub home : kept.0 ≡ k
    pub standing : kept.1 ≡ item
    pub last : place_in resolver.places.now item ≡ Some place

  abbrev standing_places : List Place
  standing_places = map (λ (kept : Kept). kept.1) (all_kept compilation)

  -- a recipe in the list of all has a last place there
  record IsLast (item : Place) (place : ℕ) : Type 0 where
    pub kept : Kept
    pub here : slice_get (all_kept compilation) place ≡ Some kept
    pub standing : kept.1 ≡ item
    pub last : place_in resolver.places.now item ≡ Some place

  last_in : (item : Place) (place i : ℕ) → i ≡ place → last_place 0 standing_places item ≡ Some place → slice_get standing_places i ≡ Some item → IsLast item place
  last_in item place i same is at =
      let m = mapped_at (λ (kept : Kept). kept.1) (all_kept compilation) i item at in
      record { kept = m.0; here = ap (slice_get (all_kept compilation)) (sym same) ∙ m.1; standing = m.2; last = fits.places item ∙ is }

  last_of : (kept : Kept) → Contains (all_kept compilation) kept → (place : ℕ) × IsLast kept.1 place
  last_of kept c =
      let a = place_among (all_kept compilation) kept c in
      let f = last_found 0 standing_places kept.1 a.0 (mapped (λ (x : Kept). x.1) (all_kept compilation) a.0 kept a.1) in
      let g = last_there 0 standing_places kept.1 f.0 f.1 in
      let e = g.1 in
      (f.0, last_in kept.1 f.0 g.0 (omega (arith, e)) f.1 g.2)

  -- the recipes at one place are of one module
  home_of : (k : ℕ) (node : ModuleNode) → HasNode w compilation k node → (item : Place) → node.first_file ≤ item.file → item.file < node.end_file → (kept : Kept) → Contains (all_kept compilation) kept → kept.1 ≡ item → kept.0 ≡ k
  home_of k node here item from to kept c same =
      let s = stands_in w compilation meant kept c in
      one_home w compilation meant kept.0 k s.node node s.here here item.file (subst (λ (q : Place). s.node.first_file ≤ q.file) same s.keeps.there.from) (subst (λ (q : Place). q.file < s.node.end_file) same s.keeps.there.to) from to

  -- a recipe that a module keeps has a place
  pub has_place : (k : ℕ) (node : ModuleNode) → HasNode w compilation k node → (item : Place) → Contains node.recipes.items item → (place : ℕ) × IsPlace k item place
  has_place k node here item c =
      let l = (keeps_listed w compilation meant k node here item c).1 in
      let r = recipe_there w compilation (node_view node) item l.key l.at l.attributes l.recipe l.there in
      let f = last_of (k, item, r.0) (kept_there compilation k node item r.0 here c r.1) in
      let q = f.1 in (
        f.0,
        record {
          kept = q.kept;
          here = q.here;
          home = home_of k node here item l.there.from l.there.to q.kept (contains_at (all_kept compilation) f.0 q.kept q.here) q.standing;
          standing = q.standing;
          last = q.last;
        },
      )

  module _ (k : ℕ) (node : ModuleNode) (here : HasNode w compilation k node) (dependency : UnresolvedDependency) where
    abbrev path : List Text
    path = path_names dependency.recipe

    -- the dependency leads to the recipe at the place, and to no module
    pub record IsFound (place : ℕ) : Type 0 where
      pub led : IsLed w compilation k node dependency place
      pub no_module : IsModulePath w node.source.now path → ⊥
      pub named : recipe_of compilation (Some led.leads.submodule) led.leads.name ≡ Some led.kept.1
      pub last : place_in resolver.places.now led.kept.1 ≡ Some place

    -- the refusal of the dependency, whichever stand before and behind it
    pub record IsRefused (refusal : Name → Refusal) : Type 0 where
      pub before : (recipe : Name) (others : Result (List ℕ) Refusal) → place_before (place_of compilation resolver k dependency) recipe dependency.recipe others ≡ Err (refusal recipe)
      pub not_placed : (place : ℕ) → place_of compilation resolver k dependency ≡ Ok place → ⊥

    -- that of a disabled recipe's dependency
    abbrev pub IsFirst : (Name → Refusal) → Type 0
    IsFirst refusal = (recipe : Name) → option_map (λ reason. refused reason recipe dependency.recipe) (reason_of compilation resolver k dependency) ≡ Some (refusal recipe)

    -- why a disabled recipe's dependency by this path would be refused
    abbrev pub IsLeft : Type 0
    IsLeft = reason_of compilation resolver k dependency ≡ reason_of_count (length dependency.arguments.items) (option_and_then (count_at compilation) (disabled_from compilation (Some k) dependency.recipe))

    -- the dependency has a place, or is refused
    pub data Outcome : Type 0 where
      placed : (place : ℕ) → place_of compilation resolver k dependency ≡ Ok place → reason_of compilation resolver k dependency ≡ None → IsFound place → Outcome
      a_module : IsRefused (λ recipe. module_as_recipe dependency.recipe) → IsFirst (λ recipe. module_as_recipe dependency.recipe) → IsModulePath w node.source.now path → Outcome
      a_count : IsRefused (λ recipe. argument_count recipe dependency.recipe (length dependency.arguments.items)) → IsFirst (λ recipe. argument_count recipe dependency.recipe (length dependency.arguments.items))
          → TakesOtherCount w node.source.now path (length dependency.arguments.items) → Outcome
      unknown : IsRefused (λ recipe. unknown_dependency recipe dependency.recipe) → IsLeft → (IsRecipePath w node.source.now path → ⊥) → (IsModulePath w node.source.now path → ⊥) → Outcome

    abbrev count : ℕ
    count = length dependency.arguments.items

    abbrev left : Option Place
    left = disabled_from compilation (Some k) dependency.recipe

    module _ (kept : Kept) (place : ℕ) (at : slice_get (all_kept compilation) place ≡ Some kept) (l : LeadsToPlace w compilation k node path kept.0 kept.1) (none : IsModulePath w node.source.now path → ⊥)
        (named : recipe_of compilation (Some l.submodule) l.name ≡ Some kept.1) (last : place_in resolver.places.now kept.1 ≡ Some place) where
      there : recipe_at compilation kept.1 ≡ Some kept.2
      there = (is_kept compilation kept (contains_at (all_kept compilation) place kept at)).there

      shapes : recipe_item l.keeps.attributes l.keeps.recipe ≡ recipe_item (shapes_in kept.2.attributes) (recipe_shape kept.2)
      shapes = shape_there w compilation (node_view l.submodule) kept.1 l.keeps.key l.keeps.at (recipe_item l.keeps.attributes l.keeps.recipe) kept.2 l.keeps.there there

      attributes : l.keeps.attributes ≡ shapes_in kept.2.attributes
      attributes = let e = shapes in cc e

      shape : l.keeps.recipe ≡ recipe_shape kept.2
      shape = let e = shapes in cc e

      counts_there : slice_get resolver.counts.now place ≡ Some (count_of kept.2.parameters.items)
      counts_there = ap (λ cs. slice_get cs place) fits.counts ∙ mapped (λ (x : Kept). count_of x.2.parameters.items) (all_kept compilation) place kept at

      taken : takes w l.keeps.attributes l.keeps.recipe count ≡ takes_at resolver.counts.now place count
      taken = ap₂ (λ a r. takes w a r count) attributes shape ∙ taken_alike w kept.2 count (has_options w compilation meant kept.1 kept.2 there) ∙ sym (ap (λ o. take_so_many o count) counts_there)

      module _ (is : named_in compilation resolver.places.now k dependency.recipe ≡ Named.Recipe place) where
        place_is : (b : Bool) → takes_at resolver.counts.now place count ≡ b → place_of compilation resolver k dependency ≡ if_taken b place count
        place_is b e = ap (place_of_named resolver.counts.now count) is ∙ ap (λ c. if_taken c place count) e

        by_taken : (b : Bool) → takes_at resolver.counts.now place count ≡ b → Outcome
        by_taken true e = placed place (place_is true e) (ap (λ r. reason_or r (reason_of_count count (option_and_then (count_at compilation) left))) (place_is true e))
            (record { led = record { kept = kept; here = at; leads = l; attributes = attributes; shape = shape; taken = taken ∙ e }; no_module = none; named = named; last = last })
        by_taken false e = a_count
            (record {
              before = λ recipe others. ap (λ r. place_before r recipe dependency.recipe others) (place_is false e);
              not_placed = λ other so. let f = sym (place_is false e) ∙ so in absurd (cc f);
            })
            (λ recipe. ap (λ r. option_map (λ reason. refused reason recipe dependency.recipe) (reason_or r (reason_of_count count (option_and_then (count_at compilation) left)))) (place_is false e))
            (l.modules, l.name, l.keeps.attributes, l.keeps.recipe, standing_recipes_are_led w compilation k node path kept.0 kept.1 l, taken ∙ e)

        at_place : Outcome
        at_place = by_taken (takes_at resolver.counts.now place count) refl

    by_target : (target : Target) → target_in compilation k dependency.recipe ≡ target → IsTarget w compilation k node path target → IsNamed compilation target → Outcome
    by_target (Module inner) is (t, none) n = a_module
        (record {
          before = λ recipe others. ap (λ o. place_before (place_of_named resolver.counts.now count (named_by resolver.places.now o)) recipe dependency.recipe others) is;
          not_placed = λ other so. let f = sym (ap (λ o. place_of_named resolver.counts.now count (named_by resolver.places.now o)) is) ∙ so in absurd (cc f);
        })
        (λ recipe. ap (λ o. option_map (λ reason. refused reason recipe dependency.recipe)
        (reason_or (place_of_named resolver.counts.now count (named_by resolver.places.now o)) (reason_of_count count (option_and_then (count_at compilation) left)))) is)
        (t.0.source.now, t.1.leads)
    by_target Nothing is (none, none') n = unknown
        (record {
          before = λ recipe others. ap (λ o. place_before (place_of_named resolver.counts.now count (named_by resolver.places.now o)) recipe dependency.recipe others) is;
          not_placed = λ other so. let f = sym (ap (λ o. place_of_named resolver.counts.now count (named_by resolver.places.now o)) is) ∙ so in absurd (cc f);
        })
        (ap (λ o. reason_or (place_of_named resolver.counts.now count (named_by resolver.places.now o)) (reason_of_count count (option_and_then (count_at compilation) left))) is) none none'
    by_target (Recipe inner item) is (l, none) n =
        let f = found_at (λ p. bytes_eq (text_at compilation p) n.name) n.node.recipes.items item n.found in
        let p = has_place inner n.node n.here item (contains_at n.node.recipes.items f.0 item f.1) in
        let q = p.1 in
        let l' = subst (λ i. LeadsToPlace w compilation k node path i q.kept.1) (sym q.home) (subst (LeadsToPlace w compilation k node path inner) (sym q.standing) l) in
        let modules : n.node ≡ l'.submodule = same_Some n.node l'.submodule (sym n.here ∙ ap (slice_get compilation.modules.items) (sym q.home) ∙ l'.leads.there) in
        let names : n.name ≡ l'.name =
        sym ((bytes_eq-Decides (text_at compilation item) n.name).0 f.2) ∙ ap (text_at compilation) (sym q.standing)
        ∙ text_there w compilation (node_view l'.submodule) q.kept.1 l'.keeps.key l'.keeps.at l'.keeps.attributes l'.keeps.recipe l'.keeps.there ∙ l'.keeps.is_named in
        at_place q.kept p.0 q.here l' none (ap₂ (λ m name. recipe_of compilation (Some m) name) (sym modules) (sym names) ∙ n.found ∙ ap (λ x. Some x) (sym q.standing))
        (ap (place_in resolver.places.now) q.standing ∙ q.last) (ap (named_by resolver.places.now) is ∙ ap recipe_or_nothing q.last)

    -- what a dependency comes to
    pub outcome : Outcome
    outcome = by_target (target_in compilation k dependency.recipe) refl (targets_are_meant w compilation meant.of meant.single k node here dependency.recipe) (target_named compilation k dependency.recipe)
