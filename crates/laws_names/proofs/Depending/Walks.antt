-- Cycles of recipes are cycles of needs.
use Rattle.std.proofs.Common.{◌≡◌, sym, ◌∙◌, ap, subst, List, [], ◌∷◌, ◌++◌, ◌-◌, ◌<◌, ℕ, zero, suc, Option, Some, None, Ok, refl, length, arith}
use Rattle.std.specs.Prelude.{Contains, slice_get}
use Rattle.std.specs.Str.{bytes_eq}
use Rattle.std.proofs.lemmas.Option.{none-some, same_Some, slice_get_within}
use Rattle.tree_attributes.specs.Attributes.{AttributeShape}
use Rattle.tree_items.specs.Files.{recipe_item}
use Rattle.tree_items.specs.Paths.{path_names}
use Rattle.tree_items.specs.Recipes.{DependencyShape, RecipeShape, dependency_shape, recipe_shape}
use Rattle.tree_items.specs.declared.recipe.UnresolvedDependency.{UnresolvedDependency}
use Rattle.modules_compilation.specs.declared.compilation.Compilation.{Compilation}
use Rattle.modules_compilation.specs.declared.module_node.ModuleNode.{ModuleNode}
use Rattle.modules_compilation.specs.declared.place.Place.{Place}
use Rattle.resolve_order.specs.Needs.{IsCycle, Needs, Walks}
use Rattle.resolve_recipes.specs.Named.{recipe_of, text_at}
use Rattle.resolve_recipes.specs.Nodes.{Kept, all_kept}
use Rattle.resolve_recipes.specs.Resolving.{all_needs}
use Rattle.resolve_recipes.specs.Standing.{place_in}
use Rattle.resolve_recipes.specs.declared.recipe_resolver.RecipeResolver.{RecipeResolver}
use Rattle.meaning_rules.specs.Worlds.Given.{Text, World}
use Rattle.meaning_rules.specs.Worlds.Keeping.{Keeps, a_recipe}
use Rattle.meaning_rules.specs.Worlds.Compiled.{HasPath}
use Rattle.meaning_rules.proofs.Worlds.Kept.{keeps_at_most_one}
use Rattle.meaning_rules.proofs.Worlds.Places.{contains_at}
use Rattle.meaning_rules.specs.Worlds.Views.{node_view}
use Rattle.meaning_rules.specs.Depending.{DependsOn, IsRecipeCycle, LeadsToRecipe, RecipeWalk}
use Rattle.laws_modules.specs.Names.Names.{HasNode, IsRecipeOf, KeepsRecipe, nodes, views}
use Rattle.laws_modules.proofs.Names.Found.{found_at, there_within}
use Rattle.laws_modules.proofs.Names.Modules.{modules_are_nodes}
use Rattle.laws_modules.proofs.Names.Named.{recipes_are_kept}
use Rattle.laws_names.specs.Depending.Cycles.{CyclesAreClear}
use Rattle.laws_modules.specs.Names.Meant.{IsMeant}
use Rattle.laws_names.specs.Depending.Meant.{IsResolverFor}
use Rattle.laws_names.proofs.Depending.Cycles.{Spot}
use Rattle.laws_names.proofs.Depending.Kept.{is_kept}
use Rattle.laws_names.proofs.Depending.Led.{IsSame, is_found, led_same}
use Rattle.laws_names.proofs.Depending.Needing.{as_many, needs_given, row_there}
use Rattle.laws_names.proofs.Depending.Outcomes.{IsFound, has_place}
use Rattle.laws_names.proofs.Depending.Standing.{shape_there}
use Rattle.laws_names.proofs.Depending.Told.{listed_back}

module _ (w : World) (compilation : Compilation) (resolver : RecipeResolver) (meant : IsMeant w compilation) (fits : IsResolverFor compilation resolver) where
  -- ---- the recipe that a module keeps

  -- the recipe that a module keeps in the world is the one at a place
  pub record IsKeptThere (node : ModuleNode) (k : ℕ) (name : Text) (shape : RecipeShape) : Type 0 where
    pub place : ℕ
    pub kept : Kept
    pub here : slice_get (all_kept compilation) place ≡ Some kept
    pub home : kept.0 ≡ k
    pub found : recipe_of compilation (Some node) name ≡ Some kept.1
    pub last : place_in resolver.places.now kept.1 ≡ Some place
    pub is : shape ≡ recipe_shape kept.2

  pub kept_of_world : (k : ℕ) (node : ModuleNode) → HasNode w compilation k node → (name : Text) (attributes : List AttributeShape) (shape : RecipeShape) → Keeps w node.source.now a_recipe name (recipe_item attributes shape)
      → IsKeptThere node k name shape
  kept_of_world k node here name attributes shape h = by_found (recipe_of compilation (Some node) name) refl (recipes_are_kept w compilation meant.of k node here name)
    where
      by_found : (o : Option Place) → recipe_of compilation (Some node) name ≡ o → IsRecipeOf w compilation node name o → IsKeptThere node k name shape
      by_found None e none = absurd (none (record { key = h.key; place = h.place; item = recipe_item attributes shape; defines = h.kept.defines }))
      by_found (Some item) e l =
          let f = found_at (λ p. bytes_eq (text_at compilation p) name) node.recipes.items item e in
          let p = has_place w compilation resolver meant fits k node here item (contains_at node.recipes.items f.0 item f.1) in
          let q = p.1 in
          let there = (is_kept compilation q.kept (contains_at (all_kept compilation) p.0 q.kept q.here)).there in
          let l' = subst (KeepsRecipe w compilation node name) (sym q.standing) l in
          let same = (keeps_at_most_one w node.source.now a_recipe name h.key l'.key h.place l'.at (recipe_item attributes shape) (recipe_item l'.attributes l'.recipe) h.kept l'.keeps).2 in
          let shapes = same ∙ shape_there w compilation (node_view node) q.kept.1 l'.key l'.at (recipe_item l'.attributes l'.recipe) q.kept.2 l'.there there in
          record {
            place = p.0;
            kept = q.kept;
            here = q.here;
            home = q.home;
            found = e ∙ ap (λ x. Some x) (sym q.standing);
            last = ap (place_in resolver.places.now) q.standing ∙ q.last;
            is = cc shapes;
          }

  -- ---- recipes of the world and their places

  -- the recipe of the world stands at the place
  record IsStanding (r : Spot) (place : ℕ) : Type 0 where
    pub k : ℕ
    pub node : ModuleNode
    pub here : HasNode w compilation k node
    pub path : HasPath w (views w compilation) (nodes w compilation) k r.0
    pub item : Place
    pub found : recipe_of compilation (Some node) r.1 ≡ Some item
    pub last : place_in resolver.places.now item ≡ Some place

  one_place : (r : Spot) (p q : ℕ) → IsStanding r p → IsStanding r q → p ≡ q
  one_place r p q s t =
      let same_k = meant.of.once s.k t.k r.0 s.path t.path in
      let same_node = same_Some s.node t.node (sym s.here ∙ ap (slice_get compilation.modules.items) same_k ∙ t.here) in
      let same_item = same_Some s.item t.item (sym s.found ∙ ap (λ n. recipe_of compilation (Some n) r.1) same_node ∙ t.found) in
      same_Some p q (sym s.last ∙ ap (place_in resolver.places.now) same_item ∙ t.last)

  module _ (needs : List (List ℕ)) (given : all_needs compilation resolver (all_kept compilation) ≡ Ok needs) where
    record AreNeeding (r s : Spot) : Type 0 where
      pub p : ℕ
      pub q : ℕ
      pub one : IsStanding r p
      pub other : IsStanding s q
      pub needs_it : Needs needs p q

    module _ (r s : Spot) (d : DependsOn w r.0 r.1 s.0 s.1) (node : ModuleNode) (own : d.own ≡ node.source.now) where
      abbrev Found : (k : ℕ) → HasNode w compilation k node → UnresolvedDependency → ℕ → Type 0
      Found k here b q = IsFound w compilation resolver meant fits k node here b q

      -- the recipe to which the dependency leads stands at its place
      led_standing : (k : ℕ) (here : HasNode w compilation k node) → HasPath w (views w compilation) (nodes w compilation) k r.0 → (b : UnresolvedDependency) → dependency_shape b ≡ d.dependency → (q : ℕ) → Found k here b q → IsStanding s q
      led_standing k here path b shape q f = record {
        k = f.led.kept.0;
        node = f.led.leads.submodule;
        here = f.led.leads.leads.there;
        path = subst (HasPath w (views w compilation) (nodes w compilation) f.led.kept.0) (ap (λ ms. r.0 ++ ms) same.same_modules ∙ sym d.below) (f.led.leads.leads.below r.0 path);
        item = f.led.kept.1;
        found = subst (λ x. recipe_of compilation (Some f.led.leads.submodule) x ≡ Some f.led.kept.1) same.same_name f.named;
        last = f.last;
      }
        where
          leads : LeadsToRecipe w node.source.now (path_names b.recipe) d.modules s.1 d.attributes' d.recipe'
          leads = subst (λ p. LeadsToRecipe w node.source.now p d.modules s.1 d.attributes' d.recipe') (ap (λ (x : DependencyShape). x.path) (sym shape))
              (subst (λ o. LeadsToRecipe w o d.dependency.path d.modules s.1 d.attributes' d.recipe') own d.leads)

          same : IsSame w compilation k node (path_names b.recipe) f.led.kept.0 f.led.kept.1 f.led.leads d.modules s.1 d.attributes' d.recipe'
          same = led_same w compilation k node (path_names b.recipe) f.led.kept.0 f.led.kept.1 f.led.leads d.modules s.1 d.attributes' d.recipe' leads

      needed : (k : ℕ) → HasPath w (views w compilation) (nodes w compilation) k r.0 → (a : IsKeptThere node k r.1 d.recipe) → HasNode w compilation a.kept.0 node → AreNeeding r s
      needed k path a here =
          let row = row_there compilation resolver (all_kept compilation) needs given a.place a.kept a.here in
          let b = listed_back a.kept.2 d.dependency (subst (λ (x : RecipeShape). Contains (x.priors ++ x.subsequents) d.dependency) a.is d.listed) in
          let n = needs_given w compilation resolver meant fits a.kept.0 node here a.kept.2.name (a.kept.2.priors.items ++ a.kept.2.subsequents.items) row.0 row.2 b.0 b.1 in
          with_row row.0 row.1 b.0 b.2 n.0 n.2 (is_found w compilation resolver meant fits a.kept.0 node here b.0 n.0 n.1)
        where
          path' : HasPath w (views w compilation) (nodes w compilation) a.kept.0 r.0
          path' = subst (λ j. HasPath w (views w compilation) (nodes w compilation) j r.0) (sym a.home) path

          with_row : (row : List ℕ) → slice_get needs a.place ≡ Some row → (b : UnresolvedDependency) → dependency_shape b ≡ d.dependency → (q : ℕ) → Contains row q → Found a.kept.0 here b q → AreNeeding r s
          with_row row at b shape q listed f =
              let many = as_many compilation resolver (all_kept compilation) needs given in
              let lt = slice_get_within (all_kept compilation) q f.led.kept f.led.here in
              record {
                p = a.place;
                q = q;
                one = record { k = a.kept.0; node = node; here = here; path = path'; item = a.kept.1; found = a.found; last = a.last };
                other = led_standing a.kept.0 here path' b shape q f;
                needs_it = record { row = row; here = at; listed = listed; there = omega (arith, lt, many) };
              }

      at_node : (k : ℕ) → HasNode w compilation k node → HasPath w (views w compilation) (nodes w compilation) k r.0 → AreNeeding r s
      at_node k here path =
          let a = kept_of_world k node here r.1 d.attributes d.recipe (subst (λ o. Keeps w o a_recipe r.1 (recipe_item d.attributes d.recipe)) own d.kept) in
          needed k path a (ap (slice_get compilation.modules.items) a.home ∙ here)

    -- what a recipe depends on it needs
    depends_needs : (r s : Spot) → DependsOn w r.0 r.1 s.0 s.1 → AreNeeding r s
    depends_needs r s d =
        let m = modules_are_nodes w compilation meant.of meant.single r.0 d.own d.is in
        at_node r s d m.1 (sym m.4) m.0 m.2 m.3

    abbrev AreStanding : List Spot → List ℕ → Type 0
    AreStanding [] [] = Unit {0}
    AreStanding [] (p ∷ ps) = ⊥
    AreStanding (r ∷ rs) [] = ⊥
    AreStanding (r ∷ rs) (p ∷ ps) = IsStanding r p × AreStanding rs ps

    abbrev WalkOf : List Spot → Type 0
    WalkOf rs = (places : List ℕ) × AreStanding rs places × Walks needs places

    join : (a b : Spot) (rs : List Spot) → AreNeeding a b → (places : List ℕ) → AreStanding (b ∷ rs) places → Walks needs places → WalkOf (a ∷ b ∷ rs)
    join a b rs n [] s walk = absurd s
    join a b rs n (q ∷ places) (s, more) walk =
        (n.p ∷ q ∷ places, (n.one, (s, more)), (subst (Needs needs n.p) (one_place b n.q q n.other s) n.needs_it, walk))

    walk_of : (a b : Spot) (rs : List Spot) → RecipeWalk w (a ∷ b ∷ rs) → WalkOf (a ∷ b ∷ rs)
    walk_of a b [] walk =
        let n = depends_needs a b walk.0 in
        (n.p ∷ n.q ∷ [], (n.one, (n.other, tt)), (n.needs_it, tt))
    walk_of a b (c ∷ rs) walk =
        let more = walk_of b c rs walk.1 in
        join a b (c ∷ rs) (depends_needs a b walk.0) more.0 more.1 more.2

    walk_all : (rs : List Spot) → 1 < length rs → RecipeWalk w rs → WalkOf rs
    walk_all [] long walk = absurd (omega (arith, long))
    walk_all (a ∷ []) long walk = absurd (omega (arith, long))
    walk_all (a ∷ b ∷ rs) long walk = walk_of a b rs walk

    as_long : (rs : List Spot) (places : List ℕ) → AreStanding rs places → length places ≡ length rs
    as_long [] [] s = refl
    as_long [] (p ∷ ps) s = absurd s
    as_long (r ∷ rs) [] s = absurd s
    as_long (r ∷ rs) (p ∷ ps) (s, more) = ap suc (as_long rs ps more)

    place_at : (rs : List Spot) (places : List ℕ) → AreStanding rs places → (i : ℕ) (r : Spot) → slice_get rs i ≡ Some r → (place : ℕ) × (slice_get places i ≡ Some place) × IsStanding r place
    place_at [] places s i r e = absurd (none-some r e)
    place_at (x ∷ rs) [] s i r e = absurd s
    place_at (x ∷ rs) (p ∷ ps) (s, more) zero r e = (p, refl, subst (λ y. IsStanding y p) (same_Some x r e) s)
    place_at (x ∷ rs) (p ∷ ps) (s, more) (suc i) r e = place_at rs ps more i r e

    cycle_of : (rs : List Spot) → IsRecipeCycle w rs → (places : List ℕ) × IsCycle needs places
    cycle_of rs c =
        let long = c.long in
        let s = walk_all rs c.long c.walk in
        let many = as_long rs s.0 s.1 in
        let first = there_within rs 0 (omega (arith, long)) in
        let p = place_at rs s.0 s.1 0 first.0 first.1 in
        let q = place_at rs s.0 s.1 (length rs - 1) first.0 (sym c.closed ∙ first.1) in
        let same = one_place first.0 p.0 q.0 p.2 q.2 in
        (s.0, record { long = omega (arith, long, many); closed = p.1 ∙ ap (λ x. Some x) same ∙ sym q.1 ∙ ap (λ n. slice_get s.0 (n - 1)) (sym many); walk = s.2 })

pub cycles_are_clear : CyclesAreClear
cycles_are_clear w compilation resolver meant fits needs given none o names broken =
    let c = cycle_of w compilation resolver meant fits needs given broken.breaks.0 broken.breaks.1 in
    none c.0 c.1
