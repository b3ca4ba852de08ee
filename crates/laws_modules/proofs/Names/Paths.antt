-- What paths of names lead to.
use Rattle.std.proofs.Common.{◌∙◌, ◌≡◌, ◌⊎◌, inl, inr, sym, ap, subst, List, [], ◌∷◌, ◌++◌, ℕ, Option, Some, None, refl, append_assoc}
use Rattle.std.proofs.lemmas.List.{append-nil}
use Rattle.just_text.specs.Tokens.{lexeme}
use Rattle.just_text.specs.declared.name.Name.{Name}
use Rattle.tree_items.specs.Paths.{path_names}
use Rattle.modules_compilation.specs.declared.compilation.Compilation.{Compilation}
use Rattle.modules_compilation.specs.declared.compilation.Target.{Target}
use Rattle.modules_compilation.specs.declared.compilation.Target.TheVariants.{Recipe, Module, Nothing}
use Rattle.modules_compilation.specs.declared.module_node.ModuleNode.{ModuleNode}
use Rattle.modules_compilation.specs.declared.place.Place.{Place}
use Rattle.resolve_recipes.specs.Leading.{leads_from, recipe_or_module, target_in}
use Rattle.resolve_recipes.specs.Named.{recipe_of, submodule_in}
use Rattle.meaning_rules.specs.Worlds.Given.{Text, World}
use Rattle.meaning_rules.specs.Worlds.Sources.{IsFileOf, IsSubmodule}
use Rattle.meaning_rules.specs.Worlds.Keeping.{IsDefined, a_recipe, Keeps, KeepsAt}
use Rattle.meaning_rules.specs.Worlds.Compiled.{HasPath}
use Rattle.meaning_rules.specs.Depending.{IsModulePath, IsRecipePath, LeadsTo, here, into, LeadsToRecipe}
use Rattle.laws_modules.specs.Names.Names.{AreSingle, HasNode, IsInner, IsOfWorld, IsRecipeOf, IsSubmoduleOf, KeepsRecipe, nodes, views}
use Rattle.laws_modules.specs.Names.Targets.{IsExact, IsTarget, LeadsFrom, LeadsToPlace, TargetsAreExact, TargetsAreMeant, IsPlaceOf, LedRecipesStand, StandingRecipesAreLed}
use Rattle.laws_modules.proofs.Names.Found.{snoc_empty, snoc_same}
use Rattle.laws_modules.proofs.Names.Modules.{never_two, path_inside, submodules_are_found}
use Rattle.laws_modules.proofs.Names.Named.{recipes_are_kept}
use Rattle.tree_items.specs.Files.{recipe_item}
use Rattle.tree_items.specs.Recipes.{RecipeShape}
use Rattle.tree_attributes.specs.Attributes.{AttributeShape}
use Rattle.meaning_rules.proofs.Worlds.Kept.{keeps_at_most_one}

-- ---- paths of a world

module _ (w : World) where
  -- the first name of a path leads to a submodule
  pub record Into (own name : Text) (names : List Text) (key : Text) : Type 0 where
    pub file : Text
    pub inner : Text
    pub of : IsFileOf w own file
    pub is : IsSubmodule w file name inner
    pub leads : LeadsTo w inner names key

  pub first_into : (own name key : Text) (names : List Text) → LeadsTo w own (name ∷ names) key → Into own name names key
  first_into own name key names (into {file = file} {inner = inner} f s l) = record { file = file; inner = inner; of = f; is = s; leads = l }

  pub stays : (own key : Text) (names : List Text) → names ≡ [] → LeadsTo w own names key → own ≡ key
  stays own _ _ e here = refl
  stays own key _ e (into f s l) = absurd (cc e)

  no_recipe_path : (own : Text) → IsRecipePath w own [] → ⊥
  no_recipe_path own r = snoc_empty r.modules r.name r.names.whole

  -- a path to a recipe is its name alone, or one from the submodule of its first name on
  record RecipeInto (own name : Text) (names : List Text) : Type 0 where
    pub file : Text
    pub inner : Text
    pub of : IsFileOf w own file
    pub is : IsSubmodule w file name inner
    pub recipe : IsRecipePath w inner names

  recipe_cases : (own name : Text) (names : List Text) → IsRecipePath w own (name ∷ names) → ((names ≡ []) × IsDefined w own a_recipe name) ⊎ RecipeInto own name names
  recipe_cases own name names r = by_modules r.modules r.names.whole r.names.leads
    where
      by_modules : (modules : List Text) → name ∷ names ≡ modules ++ r.name ∷ [] → LeadsTo w own modules r.inner → ((names ≡ []) × IsDefined w own a_recipe name) ⊎ RecipeInto own name names
      by_modules [] e l =
          let first : name ≡ r.name = cc e in
          let rest : names ≡ [] = cc e in
          let same : own ≡ r.inner = stays own r.inner [] refl l in
          inl (rest, subst (λ o. IsDefined w o a_recipe name) (sym same) (subst (λ n. IsDefined w r.inner a_recipe n) (sym first) r.defined))
      by_modules (m ∷ ms) e l =
          let first : m ≡ name = cc e in
          let rest : names ≡ ms ++ r.name ∷ [] = cc e in
          let i = first_into own m r.inner ms l in
          inr (record {
            file = i.file;
            inner = i.inner;
            of = i.of;
            is = subst (λ n. IsSubmodule w i.file n i.inner) first i.is;
            recipe = record { modules = ms; inner = r.inner; name = r.name; names = record { whole = rest; leads = i.leads }; defined = r.defined };
          })

-- ---- paths of a compilation

nothing_leads : (compilation : Compilation) (names : List Name) → leads_from compilation Nothing names ≡ Nothing
nothing_leads compilation [] = refl
nothing_leads compilation (name ∷ names) = nothing_leads compilation names

module _ (w : World) (compilation : Compilation) (is : IsOfWorld w compilation) (single : AreSingle w compilation) where
  pub leads_here : (k : ℕ) (node : ModuleNode) → HasNode w compilation k node → LeadsFrom w compilation k node [] k node
  leads_here k node there = record {
    there = there;
    below = λ above has. subst (HasPath w (views w compilation) (nodes w compilation) k) (sym (append-nil above)) has;
    leads = here;
    alone = λ key l. sym (stays w node.source.now key [] refl l);
  }

  -- from a submodule on
  module _ (k : ℕ) (node : ModuleNode) (at_k : HasNode w compilation k node) (name : Text) (place : ℕ) (submodule : ModuleNode) (i : IsInner w compilation k node name place submodule) where
    pub leads_into : (names : List Text) (inner : ℕ) (last : ModuleNode) → LeadsFrom w compilation place submodule names inner last → LeadsFrom w compilation k node (name ∷ names) inner last
    leads_into names inner last l = record {
      there = l.there;
      below = λ above has.
          subst (HasPath w (views w compilation) (nodes w compilation) inner) (append_assoc above (name ∷ []) names)
          (l.below (above ++ name ∷ []) (path_inside w compilation is single k node at_k place submodule name above i.there i.parent i.is_named has));
      leads = into i.of i.is l.leads;
      alone = λ key m.
          let f = first_into w node.source.now name key names m in
          l.alone key (subst (λ o. LeadsTo w o names key) (i.alone f.file f.inner f.of f.is) f.leads);
    }

    module_back : (names : List Text) → IsModulePath w node.source.now (name ∷ names) → IsModulePath w submodule.source.now names
    module_back names m =
        let f = first_into w node.source.now name m.0 names m.1 in
        (m.0, subst (λ o. LeadsTo w o names m.0) (i.alone f.file f.inner f.of f.is) f.leads)

    -- no recipe has the submodule's name
    no_recipe : IsDefined w node.source.now a_recipe name → ⊥
    no_recipe d = never_two w node.source.now name (single k node at_k a_recipe name refl) d i.file submodule.source.now i.of i.is

    recipe_back : (names : List Text) → IsRecipePath w node.source.now (name ∷ names) → IsRecipePath w submodule.source.now names
    recipe_back names r = elim (recipe_cases w node.source.now name names r) [
      | inl p ↦ absurd (no_recipe p.1)
      | inr p ↦ subst (λ o. IsRecipePath w o names) (i.alone p.file p.inner p.of p.is) p.recipe
    ]

    target_into : (names : List Text) (target : Target) → IsTarget w compilation place submodule names target → IsTarget w compilation k node (name ∷ names) target
    target_into names (Recipe inner item) (l, none) = (
      record {
        modules = name ∷ l.modules;
        name = l.name;
        whole = ap (λ ns. name ∷ ns) l.whole;
        submodule = l.submodule;
        leads = leads_into l.modules inner l.submodule l.leads;
        keeps = l.keeps;
      },
      λ m. none (module_back names m),
    )
    target_into names (Module inner) (l, none) = ((l.0, leads_into names inner l.0 l.1), λ r. none (recipe_back names r))
    target_into names Nothing (none, none') = (λ r. none (recipe_back names r), λ m. none' (module_back names m))

  defined_here : (k : ℕ) (node : ModuleNode) (name : Text) (place : Place) → KeepsRecipe w compilation node name place → IsDefined w node.source.now a_recipe name
  defined_here k node name place h = record { key = h.key; place = h.at; item = _; defines = h.keeps.defines }

  -- what is behind a name that is no submodule's
  module _ (k : ℕ) (node : ModuleNode) (name : Text) (none : (file key : Text) → IsFileOf w node.source.now file → IsSubmodule w file name key → ⊥) where
    no_module_path : (names : List Text) → IsModulePath w node.source.now (name ∷ names) → ⊥
    no_module_path names m = let f = first_into w node.source.now name m.0 names m.1 in none f.file f.inner f.of f.is

    recipe_alone : (names : List Text) → IsRecipePath w node.source.now (name ∷ names) → (names ≡ []) × IsDefined w node.source.now a_recipe name
    recipe_alone names r = elim (recipe_cases w node.source.now name names r) [
      | inl p ↦ p
      | inr p ↦ absurd (none p.file p.inner p.of p.is)
    ]

    recipe_target : (HasNode w compilation k node) → (place : Place) → KeepsRecipe w compilation node name place → (names : List Name) → IsTarget w compilation k node (name ∷ path_names names) (leads_from compilation (Recipe k place) names)
    recipe_target at_k place h [] = (record { modules = []; name = name; whole = refl; submodule = node; leads = leads_here k node at_k; keeps = h }, no_module_path [])
    recipe_target at_k place h (other ∷ names) =
        subst (IsTarget w compilation k node (name ∷ path_names (other ∷ names))) (sym (nothing_leads compilation names))
        (λ r. let e = (recipe_alone (path_names (other ∷ names)) r).0 in absurd (cc e), no_module_path (path_names (other ∷ names)))

    nothing_target : (IsDefined w node.source.now a_recipe name → ⊥) → (names : List Name) → IsTarget w compilation k node (name ∷ path_names names) (leads_from compilation Nothing names)
    nothing_target no_recipes names =
        subst (IsTarget w compilation k node (name ∷ path_names names)) (sym (nothing_leads compilation names))
        (λ r. no_recipes (recipe_alone (path_names names) r).1, no_module_path (path_names names))

  target_is : (names : List Name) (k : ℕ) (node : ModuleNode) → HasNode w compilation k node → IsTarget w compilation k node (path_names names) (target_in compilation k names)
  target_is [] k node at_k = ((node, leads_here k node at_k), no_recipe_path w node.source.now)
  target_is (name ∷ names) k node at_k =
      subst (λ o. IsTarget w compilation k node (lexeme name.token ∷ path_names names)
      (leads_from compilation (recipe_or_module k (recipe_of compilation o (lexeme name.token)) (submodule_in compilation.modules.items k (lexeme name.token))) names)) (sym at_k)
      (by_found (recipe_of compilation (Some node) (lexeme name.token)) (submodule_in compilation.modules.items k (lexeme name.token))
      (recipes_are_kept w compilation is k node at_k (lexeme name.token)) (submodules_are_found w compilation is single k node at_k (lexeme name.token)) (target_is names))
    where
      by_found : (recipe : Option Place) (submodule : Option ℕ) → IsRecipeOf w compilation node (lexeme name.token) recipe → IsSubmoduleOf w compilation k node (lexeme name.token) submodule
          → ((k : ℕ) (node : ModuleNode) → HasNode w compilation k node → IsTarget w compilation k node (path_names names) (target_in compilation k names))
          → IsTarget w compilation k node (lexeme name.token ∷ path_names names) (leads_from compilation (recipe_or_module k recipe submodule) names)
      by_found (Some place) submodule h s more =
          recipe_target k node (lexeme name.token) (λ file key of t. never_two w node.source.now (lexeme name.token) (single k node at_k a_recipe (lexeme name.token) refl)
          (defined_here k node (lexeme name.token) place h) file key of t) at_k place h names
      by_found None (Some inner) h (submodule, i) more = target_into k node at_k (lexeme name.token) inner submodule i (path_names names) (target_in compilation inner names) (more inner submodule i.there)
      by_found None None h s more = nothing_target k node (lexeme name.token) s h names

pub targets_are_meant : TargetsAreMeant
targets_are_meant w compilation is single k node at_k names = target_is w compilation is single names k node at_k

-- ---- what is exact of it

module _ (w : World) (compilation : Compilation) (k : ℕ) (node : ModuleNode) (path : List Text) where
  recipe_path : (inner : ℕ) (place : Place) → LeadsToPlace w compilation k node path inner place → IsRecipePath w node.source.now path
  recipe_path inner place l = record {
    modules = l.modules;
    inner = l.submodule.source.now;
    name = l.name;
    names = record { whole = l.whole; leads = l.leads.leads };
    defined = record { key = l.keeps.key; place = l.keeps.at; item = _; defines = l.keeps.keeps.defines };
  }

  pub is_exact : (target : Target) → IsTarget w compilation k node path target → IsExact w compilation node.source.now path target
  is_exact (Recipe inner place) (l, none) = record {
    recipe = λ r. (inner, place, refl);
    from_recipe = λ other item e. recipe_path inner place l;
    module' = λ m. absurd (none m);
    from_module = λ other e. absurd (cc e);
    nothing = λ no_recipes no_modules. absurd (no_recipes (recipe_path inner place l));
    from_nothing = λ e. absurd (cc e);
  }
  is_exact (Module inner) (l, none) = record {
    recipe = λ r. absurd (none r);
    from_recipe = λ other item e. absurd (cc e);
    module' = λ m. (inner, refl);
    from_module = λ other e. (l.0.source.now, l.1.leads);
    nothing = λ no_recipes no_modules. absurd (no_modules (l.0.source.now, l.1.leads));
    from_nothing = λ e. absurd (cc e);
  }
  is_exact Nothing (none, none') = record {
    recipe = λ r. absurd (none r);
    from_recipe = λ other item e. absurd (cc e);
    module' = λ m. absurd (none' m);
    from_module = λ other e. absurd (cc e);
    nothing = λ no_recipes no_modules. refl;
    from_nothing = λ e. (none, none');
  }

pub targets_are_exact : TargetsAreExact
targets_are_exact w compilation is single k node at_k names = is_exact w compilation k node (path_names names) (target_in compilation k names) (target_is w compilation is single names k node at_k)

-- ---- the recipe that a path leads to

module _ (w : World) (compilation : Compilation) (k : ℕ) (node : ModuleNode) (path : List Text) where
  pub standing_led : (inner : ℕ) (place : Place) (leads : LeadsToPlace w compilation k node path inner place) → LeadsToRecipe w node.source.now path leads.modules leads.name leads.keeps.attributes leads.keeps.recipe
  standing_led inner place l = record {
    inner = l.submodule.source.now;
    names = record { whole = l.whole; leads = l.leads.leads };
    kept = record { key = l.keeps.key; place = l.keeps.at; kept = l.keeps.keeps };
  }

  module _ (modules : List Text) (name : Text) (attributes : List AttributeShape) (r : RecipeShape) (led : LeadsToRecipe w node.source.now path modules name attributes r) where
    recipe_there : IsRecipePath w node.source.now path
    recipe_there = record { modules = modules; inner = led.inner; name = name; names = led.names; defined = record { key = led.kept.key; place = led.kept.place; item = _; defines = led.kept.kept.defines } }

    pub led_stands : (target : Target) → IsTarget w compilation k node path target → IsPlaceOf w compilation k node path modules name attributes r target
    led_stands (Recipe inner place) (l, none) =
        let p = snoc_same l.modules modules l.name name (sym l.whole ∙ led.names.whole) in
        let own = l.leads.alone led.inner (subst (λ ms. LeadsTo w node.source.now ms led.inner) (sym p.0) led.names.leads) in
        let kept = subst (λ o. Keeps w o a_recipe name (recipe_item attributes r)) own led.kept in
        let kept' = subst (λ n. KeepsAt w l.submodule.source.now a_recipe n l.keeps.key l.keeps.at (recipe_item l.keeps.attributes l.keeps.recipe)) p.1 l.keeps.keeps in
        let same = (keeps_at_most_one w l.submodule.source.now a_recipe name l.keeps.key kept.key l.keeps.at kept.place (recipe_item l.keeps.attributes l.keeps.recipe) (recipe_item attributes r) kept' kept.kept).2 in
        let attributes_same : l.keeps.attributes ≡ attributes = cc same in
        let recipes_same : l.keeps.recipe ≡ r = cc same in
        record { inner = inner; place = place; is = refl; leads = l; same_modules = p.0; same_name = p.1; same_attributes = attributes_same; same_recipe = recipes_same }
    led_stands (Module inner) (l, none) = absurd (none recipe_there)
    led_stands Nothing (none, none') = absurd (none recipe_there)

pub led_recipes_stand : LedRecipesStand
led_recipes_stand w compilation is single k node at_k names modules name attributes r led = led_stands w compilation k node (path_names names) modules name attributes r led
    (target_in compilation k names) (target_is w compilation is single names k node at_k)

pub standing_recipes_are_led : StandingRecipesAreLed
standing_recipes_are_led w compilation k node path inner place leads = standing_led w compilation k node path inner place leads
