-- What recipes depend on has a lower rank, in a world that breaks no rule.
use Rattle.std.proofs.Common.{◌≡◌, ◌-◌, suc, List, [], ◌∷◌, ◌++◌, map, length, Bool, true, false, ◌&&◌, Option, Some, None, ◌⊎◌, inl, inr, refl, sym, ap, ap₂, ◌∙◌, subst, arith}
use Rattle.std.specs.Prelude.{slice_get, Contains}
use Rattle.std.specs.List.{AllByRecursion, flat_map}
use Rattle.std.specs.Str.{bytes_eq}
use Rattle.std.proofs.lemmas.List.Elements.{Contains-append_cases, Contains-append_left, Contains-append_right}
use Rattle.std.proofs.lemmas.Slice.Eq.{slice_eq-Decides, bytes_eq-Decides}
use Rattle.tree_items.specs.Files.{ItemShape, recipe_item}
use Rattle.tree_items.specs.Recipes.{DependencyShape}
use Rattle.meaning_rules.specs.Worlds.Given.{Text, World, Overrides}
use Rattle.meaning_rules.specs.Worlds.Modules.{IsModule}
use Rattle.meaning_rules.specs.Worlds.Sources.{IsFileOf}
use Rattle.meaning_rules.specs.Worlds.Keeping.{a_recipe, Keeps, KeepsAt}
use Rattle.meaning_rules.proofs.Worlds.Places.{contains_at, contains_cases, contains_first, contains_none, push_here}
use Rattle.meaning_rules.proofs.Worlds.Reading.{orders_have_reached}
use Rattle.meaning_rules.specs.Depending.{DependsOn, IsModulePath, IsRecipePath, RecipeWalk, IsRecipeCycle}
use Rattle.meaning_rules.specs.Rules.{HasDependency, IsKeptRecipe, of_kept, unknown_dependency, module_as_recipe, circular_recipe}
use Rattle.meaning_rules.specs.Rules as rules
use Rattle.meaning_evaluation.specs.Named.{RecipeName, DependencyRow, RecipeRow, Definitions, paths_of, same_recipe}
use Rattle.just_meaning.specs.Defining.{last_name, names_before, named_from, AreDefined}
use Rattle.laws_agreement.proofs.Agreement.Lists.{all_more, all_contained, contains_map}
use Rattle.just_meaning.specs.Known.{BreaksNoRule, IsRead}
use Rattle.laws_agreement.proofs.Known.Kept.{is_item, none_defined, recipe_named}
use Rattle.laws_agreement.proofs.Known.Lists.{contains_mapped}
use Rattle.laws_agreement.proofs.Known.Rows.{none_breaks, recipe_at}
use Rattle.laws_naive.specs.Naive.Laws.{DependenciesFall}
use Rattle.laws_naive.proofs.Naive.Heights.{Path, one, more, height, heights_fall}
use Rattle.laws_naive.proofs.Naive.Modules.{leads_module, one_module}

-- ---- names

last_is : (xs : List Text) (x : Text) → last_name (xs ++ x ∷ []) ≡ x
last_is [] x = refl
last_is (y ∷ []) x = refl
last_is (y ∷ z ∷ xs) x = last_is (z ∷ xs) x

before_is : (xs : List Text) (x : Text) → names_before (xs ++ x ∷ []) ≡ xs
before_is [] x = refl
before_is (y ∷ []) x = refl
before_is (y ∷ z ∷ xs) x = ap (λ l. y ∷ l) (before_is (z ∷ xs) x)

named_is : (path modules : List Text) (name : Text) → named_from path (modules ++ name ∷ []) ≡ recipe_at (path ++ modules) name
named_is path modules name = ap₂ (λ a b. recipe_at (path ++ a) b) (before_is modules name) (last_is modules name)

and_both : (a b : Bool) → a && b ≡ true → (a ≡ true) × (b ≡ true)
and_both true true e = (refl, refl)
and_both true false e = absurd (cc)
and_both false b e = absurd (cc)

recipes_decided : (a b : RecipeName) → (same_recipe a b ≡ true → a ≡ b) × (a ≡ b → same_recipe a b ≡ true)
recipes_decided a b = (
  (λ e.
      let p = and_both _ (bytes_eq a.recipe b.recipe) e in
      ap₂ recipe_at ((slice_eq-Decides bytes_eq-Decides a.path b.path _ refl).0 p.0) ((bytes_eq-Decides a.recipe b.recipe).0 p.1)),
  (λ e. ap₂ (λ x y. x && y) ((slice_eq-Decides bytes_eq-Decides a.path b.path _ refl).1 (ap (λ (r : RecipeName). r.path) e)) ((bytes_eq-Decides a.recipe b.recipe).1 (ap (λ (r : RecipeName). r.recipe) e))),
)

in_flat : {X Y : Type 0} (f : X → List Y) (xs : List X) (x : X) (y : Y) → Contains xs x → Contains (f x) y → Contains (flat_map f xs) y
in_flat f [] x y c d = absurd (contains_none [] x refl c)
in_flat f (z ∷ zs) x y c d = by_place (contains_cases z zs x c) (λ k. in_flat f zs x y k d)
  where
    by_place : (z ≡ x) ⊎ Contains zs x → (Contains zs x → Contains (flat_map f zs) y) → Contains (f z ++ flat_map f zs) y
    by_place (inl e) later = Contains-append_left (f z) (flat_map f zs) y (subst (λ v. Contains (f v) y) (sym e) d)
    by_place (inr k) later = Contains-append_right (f z) (flat_map f zs) y (later k)

-- ---- all recipes

abbrev name_in : ItemShape → List Text
name_in (recipe_item attributes r) = r.name ∷ []
name_in other = []

abbrev items_in : Option (List ItemShape) → List ItemShape
items_in None = []
items_in (Some items) = items

abbrev names_in : World → List Text → List Text
names_in w files = flat_map (λ key. flat_map name_in (items_in (w.said key))) files

-- what is depended on
abbrev on_of : Option RecipeRow → List RecipeName
on_of None = []
on_of (Some row) = map (λ (d : DependencyRow). d.on) (row.priors ++ row.subsequents)

abbrev dependency_row : (DependencyShape → RecipeName) → DependencyShape → DependencyRow
dependency_row named d = record { on = named d; arguments = d.arguments }

dependency_of : (named : DependencyShape → RecipeName) (priors subsequents : List DependencyShape) (r : RecipeName)
    → Contains (map (λ (d : DependencyRow). d.on) (map (dependency_row named) priors ++ map (dependency_row named) subsequents)) r → (d : DependencyShape) × Contains (priors ++ subsequents) d × (named d ≡ r)
dependency_of named priors subsequents r c =
    let m = contains_mapped (λ (d : DependencyRow). d.on) (map (dependency_row named) priors ++ map (dependency_row named) subsequents) r c in
    elim (Contains-append_cases (map (dependency_row named) priors) (map (dependency_row named) subsequents) m.0 m.1) [
      | inl p ↦ let d = contains_mapped (dependency_row named) priors m.0 p in (d.0, Contains-append_left priors subsequents d.0 d.1, ap (λ (x : DependencyRow). x.on) d.2 ∙ m.2)
      | inr s ↦ let d = contains_mapped (dependency_row named) subsequents m.0 s in (d.0, Contains-append_right priors subsequents d.0 d.1, ap (λ (x : DependencyRow). x.on) d.2 ∙ m.2)
    ]

length_snoc : {A : Type 0} (xs : List A) (x : A) → length (xs ++ x ∷ []) ≡ suc (length xs)
length_snoc [] x = refl
length_snoc (y ∷ ys) x = ap suc (length_snoc ys x)

module _ (w : World) (o : Overrides) (unbroken : BreaksNoRule w o) (read : IsRead w) (base working : Text) (defined : Definitions) (are : AreDefined w o base working defined) where
  abbrev next : RecipeName → List RecipeName
  next r = on_of (defined.recipe r)

  abbrev HaveModules : List (List Text) → Type 0
  HaveModules paths = AllByRecursion (λ path. (own : Text) × IsModule w path own) paths

  have_modules : HaveModules (paths_of defined.modules)
  have_modules = all_more (Contains (paths_of defined.modules)) _ (λ path c. (are.tree path).0 c) (paths_of defined.modules) (all_contained (paths_of defined.modules))

  abbrev all_in : (paths : List (List Text)) → HaveModules paths → List RecipeName
  all_in [] h = []
  all_in (path ∷ paths) h = map (recipe_at path) (names_in w (read.orders path h.0.0 h.0.1).0) ++ all_in paths h.1

  -- each recipe that has a row is among these
  is_in : (paths : List (List Text)) (h : HaveModules paths) (r : RecipeName) (row : RecipeRow) → defined.recipe r ≡ Some row → Contains paths r.path → Contains (all_in paths h) r
  is_in [] h r row e c = absurd (contains_none [] r.path refl c)
  is_in (path ∷ paths) h r row e c = by_place (contains_cases path paths r.path c) (λ k. is_in paths h.1 r row e k)
    where
      here_is : path ≡ r.path → Contains (map (recipe_at path) (names_in w (read.orders path h.0.0 h.0.1).0)) r
      here_is same =
          let k = (are.recipes r row).0 e in
          let files = read.orders path h.0.0 h.0.1 in
          let one_own : k.own ≡ h.0.0 = one_module w o unbroken read r.path k.own h.0.0 k.is (subst (λ p. IsModule w p h.0.0) same h.0.1) in
          let of : IsFileOf w h.0.0 k.key = subst (λ x. IsFileOf w x k.key) one_own k.kept.defines.of in
          let file_there : Contains files.0 k.key = (orders_have_reached w h.0.0 files.0 files.1 k.key).1 of in
          let item_there : Contains (items_in (w.said k.key)) (recipe_item k.attributes k.shape) = subst (λ s. Contains (items_in s) (recipe_item k.attributes k.shape)) (sym k.kept.defines.has.says) (contains_at k.kept.defines.has.items k.place (recipe_item k.attributes k.shape) k.kept.defines.has.at) in
          let name_there : Contains (names_in w files.0) k.shape.name = in_flat (λ key. flat_map name_in (items_in (w.said key))) files.0 k.key k.shape.name file_there (in_flat name_in (items_in (w.said k.key)) (recipe_item k.attributes k.shape) k.shape.name item_there (contains_first k.shape.name [])) in
          let named : k.shape.name ≡ r.recipe = recipe_named w.os k.attributes k.shape r.recipe k.kept.defines.is in
          subst (Contains (map (recipe_at path) (names_in w files.0))) (ap₂ recipe_at same named) (contains_map (recipe_at path) (names_in w files.0) k.shape.name name_there)

      by_place : (path ≡ r.path) ⊎ Contains paths r.path → (Contains paths r.path → Contains (all_in paths h.1) r) → Contains (map (recipe_at path) (names_in w (read.orders path h.0.0 h.0.1).0) ++ all_in paths h.1) r
      by_place (inl same) later = Contains-append_left (map (recipe_at path) (names_in w (read.orders path h.0.0 h.0.1).0)) (all_in paths h.1) r (here_is same)
      by_place (inr k) later = Contains-append_right (map (recipe_at path) (names_in w (read.orders path h.0.0 h.0.1).0)) (all_in paths h.1) r (later k)

  abbrev all_recipes : List RecipeName
  all_recipes = all_in (paths_of defined.modules) have_modules

  leads_within : (z y : RecipeName) → Contains (next z) y → Contains all_recipes z
  leads_within z y c = by_row (defined.recipe z) refl c
    where
      by_row : (row : Option RecipeRow) → defined.recipe z ≡ row → Contains (on_of row) y → Contains all_recipes z
      by_row None e k = absurd (contains_none [] y refl k)
      by_row (Some row) e k = let h = (are.recipes z row).0 e in is_in (paths_of defined.modules) have_modules z row e ((are.tree z.path).1 (h.own, h.is))

  -- ---- cycles

  -- what a row depends on is depended on in the world: that it isn't can't be
  depends : (a b : RecipeName) → Contains (next a) b → (DependsOn w a.path a.recipe b.path b.recipe → ⊥) → ⊥
  depends a b c never = by_row (defined.recipe a) refl c
    where
      by_row : (row : Option RecipeRow) → defined.recipe a ≡ row → Contains (on_of row) b → ⊥
      by_row None e k = contains_none [] b refl k
      by_row (Some row) e k =
          let h = (are.recipes a row).0 e in
          let own = h.own in
          let d = dependency_of (λ dependency. named_from a.path dependency.path) h.shape.priors h.shape.subsequents b (subst (λ (x : RecipeRow). Contains (map (λ (d : DependencyRow). d.on) (x.priors ++ x.subsequents)) b) h.says k) in
          let name = h.shape.name in
          let named : h.shape.name ≡ a.recipe = recipe_named w.os h.attributes h.shape a.recipe h.kept.defines.is in
          let kept : KeepsAt w own a_recipe name h.key h.place (recipe_item h.attributes h.shape) = subst (λ n. KeepsAt w own a_recipe n h.key h.place (recipe_item h.attributes h.shape)) (sym named) h.kept in
          let has : HasDependency w (IsKeptRecipe w) own name d.0 = record {
            path = a.path;
            is = h.is;
            attributes = h.attributes;
            recipe = h.shape;
            there = record { key = h.key; place = h.place; kept = kept };
            is_named = refl;
            listed = d.1;
          } in
          let no_module : IsModulePath w own d.0.path → ⊥ = λ m. none_breaks w o unbroken read base working defined are (module_as_recipe d.0.path) (inl (of_kept has (rules.a_module m))) in
          let no_recipe : IsRecipePath w own d.0.path → ⊥ = λ p.
          let inner_is = leads_module w a.path own h.is p.modules p.inner p.names.leads in
          let files = read.orders (a.path ++ p.modules) p.inner inner_is in
          none_defined w p.inner a_recipe p.name files.0 files.1 (λ item k.
          let q = is_item a_recipe p.name w.os item k.kept.defines.is in
          let to : RecipeName = recipe_at (a.path ++ p.modules) p.name in
          let same : to ≡ b = sym (named_is a.path p.modules p.name) ∙ (ap (named_from a.path) (sym p.names.whole) ∙ d.2) in
          let found : DependsOn w a.path a.recipe to.path to.recipe = record {
            own = own;
            is = h.is;
            attributes = h.attributes;
            recipe = h.shape;
            kept = record { key = h.key; place = h.place; kept = h.kept };
            dependency = d.0;
            listed = d.1;
            modules = p.modules;
            attributes' = q.0;
            recipe' = q.1;
            leads = record { inner = p.inner; names = p.names; kept = subst (Keeps w p.inner a_recipe p.name) q.2 k };
            below = refl;
          } in
          never (subst (λ (x : RecipeName). DependsOn w a.path a.recipe x.path x.recipe) same found)) p.defined in
          none_breaks w o unbroken read base working defined are (unknown_dependency name d.0.path) (of_kept has (rules.unknown no_recipe no_module))

  abbrev pair_of : RecipeName → List Text × Text
  pair_of r = (r.path, r.recipe)

  -- steps are a walk in the world
  walks : (a b : RecipeName) → Path next a b → ((between : List (List Text × Text)) → RecipeWalk w (pair_of a ∷ (between ++ pair_of b ∷ [])) → ⊥) → ⊥
  walks a b (one c) never = depends a b c (λ d. never [] (d, tt))
  walks a b (more {b = m} c p) never = depends a m c (λ d. walks m b p (λ between walk. never (pair_of m ∷ between) (d, walk)))

  -- none leads back
  acyclic : (x : RecipeName) → Path next x x → ⊥
  acyclic x p = walks x x p (λ between walk.
      let recipes : List (List Text × Text) = pair_of x ∷ (between ++ pair_of x ∷ []) in
      let many : length recipes ≡ suc (suc (length between)) = ap suc (length_snoc between (pair_of x)) in
      let last : length recipes - 1 ≡ suc (length between) = omega (arith, many) in
      let cycle : IsRecipeCycle w recipes = record {
        long = omega (arith, many);
        closed = sym (ap (slice_get recipes) last ∙ push_here between (pair_of x) []);
        walk = walk;
      } in
      none_breaks w o unbroken read base working defined are (circular_recipe (map (λ r. r.1) recipes)) (recipes, cycle, refl))

pub dependencies_fall : DependenciesFall
dependencies_fall w o unbroken read base working defined are = (
  height (next w o unbroken read base working defined are) (suc (length (all_recipes w o unbroken read base working defined are))),
  record {
    falls = λ r row d e c.
        heights_fall (next w o unbroken read base working defined are) same_recipe recipes_decided (acyclic w o unbroken read base working defined are) (all_recipes w o unbroken read base working defined are)
        (leads_within w o unbroken read base working defined are) r d.on (subst (λ row. Contains (on_of row) d.on) (sym e) (contains_map (λ (x : DependencyRow). x.on) (row.priors ++ row.subsequents) d c));
  },
)
