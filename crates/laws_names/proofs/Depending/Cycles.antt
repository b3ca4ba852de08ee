-- Cycles of needs are cycles of recipes.
use Rattle.std.proofs.Common.{◌≡◌, sym, ◌∙◌, ap, ap₂, subst, List, [], ◌∷◌, ◌++◌, ◌-◌, ◌<◌, ℕ, zero, suc, Some, Ok, refl, map, length, arith}
use Rattle.std.specs.Prelude.{Contains, slice_get}
use Rattle.std.specs.List.{cons_option}
use Rattle.std.specs.Option.{option_map}
use Rattle.std.proofs.lemmas.Option.{none-some, same_Some, slice_get_within}
use Rattle.just_text.specs.Tokens.{lexeme}
use Rattle.tree_attributes.specs.Sets.Sets.{shapes_in}
use Rattle.tree_items.specs.Files.{recipe_item}
use Rattle.tree_items.specs.Paths.{path_names}
use Rattle.tree_items.specs.Recipes.{RecipeShape, dependency_shape, recipe_shape}
use Rattle.tree_items.specs.declared.recipe.UnresolvedDependency.{UnresolvedDependency}
use Rattle.modules_compilation.specs.declared.compilation.Compilation.{Compilation}
use Rattle.resolve_order.specs.Needs.{Needs, Walks}
use Rattle.resolve_recipes.specs.Nodes.{Kept, all_kept}
use Rattle.resolve_recipes.specs.Resolving.{all_needs, recipe_needs}
use Rattle.resolve_recipes.specs.declared.recipe_resolver.RecipeResolver.{RecipeResolver}
use Rattle.meaning_rules.specs.Worlds.Given.{Text, World}
use Rattle.meaning_rules.specs.Worlds.Keeping.{KeepsAt, a_recipe}
use Rattle.meaning_rules.specs.Worlds.Compiled.{HasPath}
use Rattle.meaning_rules.proofs.Worlds.Places.{contains_at}
use Rattle.meaning_rules.specs.Depending.{DependsOn, LeadsToRecipe, RecipeWalk}
use Rattle.laws_modules.specs.Names.Names.{nodes, views}
use Rattle.laws_modules.proofs.Names.Found.{there_within}
use Rattle.laws_modules.proofs.Names.Modules.{module_at, one_path, reached_are_said}
use Rattle.laws_modules.proofs.Names.Named.{node_is}
use Rattle.laws_modules.proofs.Names.Paths.{standing_recipes_are_led}
use Rattle.laws_names.specs.Depending.Cycles.{CyclesAreTold, name_at, names_at}
use Rattle.laws_modules.specs.Names.Meant.{IsMeant}
use Rattle.laws_names.specs.Depending.Meant.{IsResolverFor}
use Rattle.laws_names.proofs.Depending.Led.{is_found}
use Rattle.laws_names.proofs.Depending.Needing.{as_many, needs_back, row_back}
use Rattle.laws_names.proofs.Depending.Outcomes.{IsFound}
use Rattle.laws_names.proofs.Depending.Standing.{StandsIn, stands_in}
use Rattle.laws_names.proofs.Depending.Told.{shape_listed}

-- a recipe of a world: the path of its module, and its name
abbrev pub Spot : Type 0
Spot = List Text × Text

module _ (w : World) (compilation : Compilation) (resolver : RecipeResolver) (meant : IsMeant w compilation) (fits : IsResolverFor compilation resolver)
    (needs : List (List ℕ)) (given : all_needs compilation resolver (all_kept compilation) ≡ Ok needs) where
  -- the recipe at a place is this one
  record IsSpot (place : ℕ) (r : Spot) : Type 0 where
    pub kept : Kept
    pub here : slice_get (all_kept compilation) place ≡ Some kept
    pub path : HasPath w (views w compilation) (nodes w compilation) kept.0 r.0
    pub named : lexeme kept.2.name.token ≡ r.1

  one_spot : (place : ℕ) (r r' : Spot) → IsSpot place r → IsSpot place r' → r ≡ r'
  one_spot place r r' s t =
      let same : s.kept ≡ t.kept = same_Some s.kept t.kept (sym s.here ∙ t.here) in
      let paths : r.0 ≡ r'.0 = one_path w compilation meant.of s.kept.0 t.kept.0 r.0 r'.0 (ap (λ (k : Kept). k.0) same) s.path t.path in
      let names : r.1 ≡ r'.1 = sym s.named ∙ ap (λ (k : Kept). lexeme k.2.name.token) same ∙ t.named in
      ap₂ (λ p n. (p, n)) paths names

  spot_of : (place : ℕ) → place < length needs → (r : Spot) × IsSpot place r
  spot_of place lt =
      let many = as_many compilation resolver (all_kept compilation) needs given in
      let k = there_within (all_kept compilation) place (omega (arith, lt, many)) in
      let s = stands_in w compilation meant k.0 (contains_at (all_kept compilation) place k.0 k.1) in
      let n = node_is w compilation meant.of k.0.0 s.node s.here in
      ((n.path, lexeme k.0.2.name.token), record { kept = k.0; here = k.1; path = n.has_path; named = refl })

  abbrev AreSpots : List ℕ → List Spot → Type 0
  AreSpots [] [] = Unit {0}
  AreSpots [] (r ∷ rs) = ⊥
  AreSpots (p ∷ ps) [] = ⊥
  AreSpots (p ∷ ps) (r ∷ rs) = IsSpot p r × AreSpots ps rs

  spots_of : (places : List ℕ) → ((i place : ℕ) → slice_get places i ≡ Some place → place < length needs) → (rs : List Spot) × AreSpots places rs
  spots_of [] within = ([], tt)
  spots_of (p ∷ ps) within =
      let s = spot_of p (within 0 p refl) in
      let more = spots_of ps (λ i place e. within (suc i) place e) in
      (s.0 ∷ more.0, (s.1, more.1))

  -- what a recipe that is kept depends on
  depends_on : (b : ℕ) (r s : Spot) (kept : Kept) (st : StandsIn w compilation meant kept) → HasPath w (views w compilation) (nodes w compilation) kept.0 r.0 → lexeme kept.2.name.token ≡ r.1
      → (d : UnresolvedDependency) → Contains (kept.2.priors.items ++ kept.2.subsequents.items) d → IsFound w compilation resolver meant fits kept.0 st.node st.here d b → IsSpot b s → DependsOn w r.0 r.1 s.0 s.1
  depends_on b r s kept st path named d listed f q =
      let l = f.led.leads in
      let kept_there = subst (KeepsAt w st.node.source.now a_recipe (lexeme kept.2.name.token) st.keeps.key st.keeps.at) (ap₂ recipe_item st.attributes st.shape) st.keeps.keeps in
      record {
        own = st.node.source.now;
        is = module_at w compilation meant.of kept.0 st.node r.0 st.here path;
        attributes = shapes_in kept.2.attributes;
        recipe = recipe_shape kept.2;
        kept = record { key = st.keeps.key; place = st.keeps.at; kept = subst (λ x. KeepsAt w st.node.source.now a_recipe x st.keeps.key st.keeps.at (recipe_item (shapes_in kept.2.attributes) (recipe_shape kept.2))) named kept_there };
        dependency = dependency_shape d;
        listed = shape_listed kept.2 d listed;
        modules = l.modules;
        attributes' = l.keeps.attributes;
        recipe' = l.keeps.recipe;
        leads = subst (λ x. LeadsToRecipe w st.node.source.now (path_names d.recipe) l.modules x l.keeps.attributes l.keeps.recipe) other
            (standing_recipes_are_led w compilation kept.0 st.node (path_names d.recipe) f.led.kept.0 f.led.kept.1 l);
        below = one_path w compilation meant.of q.kept.0 f.led.kept.0 s.0 (r.0 ++ l.modules) (ap (λ (k : Kept). k.0) same) q.path (l.leads.below r.0 path);
      }
    where
      same : q.kept ≡ f.led.kept
      same = same_Some q.kept f.led.kept (sym q.here ∙ f.led.here)

      other : f.led.leads.name ≡ s.1
      other = sym f.led.leads.keeps.is_named ∙ ap (λ (x : RecipeShape). x.name) f.led.shape ∙ ap (λ (k : Kept). lexeme k.2.name.token) (sym same) ∙ q.named

  -- what one recipe needs it depends on
  depends : (a b : ℕ) (r s : Spot) → IsSpot a r → IsSpot b s → Needs needs a b → DependsOn w r.0 r.1 s.0 s.1
  depends a b r s p q n =
      let back = row_back compilation resolver (all_kept compilation) needs given a n.row n.here in
      with_kept back.0 back.1 back.2
    where
      with_kept : (kept : Kept) → slice_get (all_kept compilation) a ≡ Some kept → recipe_needs compilation resolver kept ≡ Ok n.row → DependsOn w r.0 r.1 s.0 s.1
      with_kept kept at row =
          let same : p.kept ≡ kept = same_Some p.kept kept (sym p.here ∙ at) in
          let st = stands_in w compilation meant kept (contains_at (all_kept compilation) a kept at) in
          let d = needs_back w compilation resolver meant fits kept.0 st.node st.here kept.2.name (kept.2.priors.items ++ kept.2.subsequents.items) n.row row b n.listed in
          depends_on b r s kept st (subst (λ (k : Kept). HasPath w (views w compilation) (nodes w compilation) k.0 r.0) same p.path) (ap (λ (k : Kept). lexeme k.2.name.token) (sym same) ∙ p.named) d.0 d.1
          (is_found w compilation resolver meant fits kept.0 st.node st.here d.0 b d.2) q

  walk_of : (places : List ℕ) (rs : List Spot) → AreSpots places rs → Walks needs places → RecipeWalk w rs
  walk_of [] [] s walk = tt
  walk_of [] (r ∷ rs) s walk = absurd s
  walk_of (a ∷ places) [] s walk = absurd s
  walk_of (a ∷ []) (r ∷ []) s walk = tt
  walk_of (a ∷ []) (r ∷ r' ∷ rs) (s, more) walk = absurd more
  walk_of (a ∷ b ∷ places) (r ∷ []) (s, more) walk = absurd more
  walk_of (a ∷ b ∷ places) (r ∷ r' ∷ rs) (s, (t, more)) (n, walk) = (depends a b r r' s t n, walk_of (b ∷ places) (r' ∷ rs) (t, more) walk)

  -- each place of a walk is there
  within : (a b : ℕ) (places : List ℕ) → Walks needs (a ∷ b ∷ places) → (i place : ℕ) → slice_get (a ∷ b ∷ places) i ≡ Some place → place < length needs
  within a b places walk zero place e = subst (λ x. x < length needs) (same_Some a place e) (slice_get_within needs a walk.0.row walk.0.here)
  within a b [] walk (suc zero) place e = subst (λ x. x < length needs) (same_Some b place e) walk.0.there
  within a b [] walk (suc (suc i)) place e = absurd (none-some place e)
  within a b (c ∷ places) walk (suc i) place e = within b c places walk.1 i place e

  all_within : (places : List ℕ) → 1 < length places → Walks needs places → (i place : ℕ) → slice_get places i ≡ Some place → place < length needs
  all_within [] long walk i place e = absurd (omega (arith, long))
  all_within (a ∷ []) long walk i place e = absurd (omega (arith, long))
  all_within (a ∷ b ∷ places) long walk i place e = within a b places walk i place e

  as_long : (places : List ℕ) (rs : List Spot) → AreSpots places rs → length rs ≡ length places
  as_long [] [] s = refl
  as_long [] (r ∷ rs) s = absurd s
  as_long (p ∷ ps) [] s = absurd s
  as_long (p ∷ ps) (r ∷ rs) (s, more) = ap suc (as_long ps rs more)

  spot_at : (places : List ℕ) (rs : List Spot) → AreSpots places rs → (i place : ℕ) → slice_get places i ≡ Some place → (r : Spot) × (slice_get rs i ≡ Some r) × IsSpot place r
  spot_at [] rs s i place e = absurd (none-some place e)
  spot_at (p ∷ ps) [] s i place e = absurd s
  spot_at (p ∷ ps) (r ∷ rs) (s, more) zero place e = (r, refl, subst (λ x. IsSpot x r) (same_Some p place e) s)
  spot_at (p ∷ ps) (r ∷ rs) (s, more) (suc i) place e = spot_at ps rs more i place e

  same_names : (places : List ℕ) (rs : List Spot) → AreSpots places rs → names_at compilation places ≡ map (λ (r : Spot). r.1) rs
  same_names [] [] s = refl
  same_names [] (r ∷ rs) s = absurd s
  same_names (p ∷ ps) [] s = absurd s
  same_names (p ∷ ps) (r ∷ rs) (s, more) =
      let first : name_at compilation p ≡ Some r.1 = ap (option_map (λ (k : Kept). lexeme k.2.name.token)) s.here ∙ ap (λ x. Some x) s.named in
      ap (λ o. cons_option o (names_at compilation ps)) first ∙ ap (λ xs. r.1 ∷ xs) (same_names ps rs more)

pub cycles_are_told : CyclesAreTold
cycles_are_told w compilation resolver meant fits needs given o places c =
    let long = c.long in
    let s = spots_of w compilation resolver meant fits needs given places (all_within w compilation resolver meant fits needs given places c.long c.walk) in
    let many = as_long w compilation resolver meant fits needs given places s.0 s.1 in
    let first = there_within places 0 (omega (arith, long)) in
    let r = spot_at w compilation resolver meant fits needs given places s.0 s.1 0 first.0 first.1 in
    let r' = spot_at w compilation resolver meant fits needs given places s.0 s.1 (length places - 1) first.0 (sym c.closed ∙ first.1) in
    let same = one_spot w compilation resolver meant fits needs given first.0 r.0 r'.0 r.2 r'.2 in
    record {
      said = λ b. reached_are_said w compilation meant.of meant.single;
      breaks = (
        s.0,
        record {
          long = omega (arith, long, many);
          closed = r.1 ∙ ap (λ x. Some x) same ∙ sym r'.1 ∙ ap (λ n. slice_get s.0 (n - 1)) (sym many);
          walk = walk_of w compilation resolver meant fits needs given places s.0 s.1 c.walk;
        },
        same_names w compilation resolver meant fits needs given places s.0 s.1,
      );
    }
