-- Aliases that stand for no recipe.
use Rattle.std.proofs.Common.{◌≡◌, ◌∙◌, ◌+◌, ◌<◌, ◌≤◌, ◌||◌, ℕ, zero, suc, Bool, true, false, cond, eqb, List, [], ◌∷◌, Option, Some, None, Result, Ok, Err, inl, inr, length, map, refl, subst, sym, ap, arith}
use Rattle.std.specs.Prelude.{slice_get, Contains}
use Rattle.std.specs.List.{filter_map, list_any, range_with_len}
use Rattle.std.specs.Option.{option_or, unwrap_or}
use Rattle.std.proofs.lemmas.Bool.Decides.{eqb_tells, leb_tells}
use Rattle.std.proofs.lemmas.List.{length-map}
use Rattle.std.proofs.lemmas.Map.Steps.{le-length_from_below}
use Rattle.std.proofs.lemmas.Option.{none-some, same_Some}
use Rattle.just_text.specs.Tokens.{lexeme}
use Rattle.just_text.specs.declared.name.Name.{Name}
use Rattle.tree_items.specs.Paths.{path_names}
use Rattle.tree_items.specs.declared.item.Alias.{Alias}
use Rattle.modules_compilation.specs.declared.compilation.Compilation.{Compilation}
use Rattle.modules_compilation.specs.declared.compilation.Target.{Target}
use Rattle.modules_compilation.specs.declared.compilation.Target.TheVariants as targets
use Rattle.modules_compilation.specs.declared.module_node.ModuleNode.{ModuleNode}
use Rattle.modules_compilation.specs.declared.place.Place.{Place}
use Rattle.resolve_order.specs.Order.{IsOrder}
use Rattle.resolve_recipes.specs.Aliases.{alias_at, alias_before, rank_of, rank_or, resolved}
use Rattle.resolve_recipes.specs.Leading.{target_in}
use Rattle.resolve_recipes.specs.Nodes.{Kept, all_kept}
use Rattle.resolve_recipes.specs.Ranks.{AreRanks, last_rank}
use Rattle.resolve_recipes.specs.Refusals.{Refusal, module_as_recipe, unknown_alias_target}
use Rattle.resolve_recipes.specs.Resolving.{all_needs, named_by, named_in, places_before, recipe_needs, recipe_or_nothing, row_before}
use Rattle.resolve_recipes.specs.Standing.{is_place, last_place, place_in}
use Rattle.resolve_recipes.specs.declared.aliases.ResolvedAlias.{ResolvedAlias}
use Rattle.resolve_recipes.specs.declared.item_places.ItemPlaces.{ItemPlaces}
use Rattle.resolve_recipes.specs.declared.recipe_resolver.Named.{Named}
use Rattle.resolve_recipes.specs.declared.recipe_resolver.Named.TheVariants.{Recipe, Module, Nothing}
use Rattle.resolve_recipes.specs.declared.recipe_resolver.RecipeResolver.{RecipeResolver}
use Rattle.meaning_rules.specs.Worlds.Given.{Overrides, World}
use Rattle.meaning_rules.proofs.Worlds.Places.{contains_first, contains_later, place_of}
use Rattle.meaning_rules.specs.Rules as rules
use Rattle.laws_modules.specs.Names.Targets.{KeepsAlias}
use Rattle.laws_modules.specs.Names.Meant.{IsMeant}
use Rattle.laws_names.specs.Depending.Meant.{IsResolverFor, IsTold}
use Rattle.just_resolve.specs.Faults.{naming_error}
use Rattle.just_resolve.specs.Rules.{IsNamed}
use Rattle.just_resolve.specs.Table.{aliases_of, all_aliases, module_aliases}
use Rattle.just_resolve.proofs.Laws.{Laws}
use Rattle.just_resolve.proofs.Naming.{naming_named}
use Rattle.just_resolve.proofs.Refusing.{kept_comes, one_refused}

-- ---- recipes have ranks

-- the place of an item is one of those of the list
last_within : (first : ℕ) (standing : List Place) (item : Place) (place : ℕ) → last_place first standing item ≡ Some place → place < first + length standing
last_within first [] item place e = absurd (none-some place e)
last_within first (other ∷ others) item place e = by_later (last_place (first + 1) others item) refl (last_within (first + 1) others item place) e
  where
    by_test : (b : Bool) → cond b (Some first) None ≡ Some place → place < first + suc (length others)
    by_test true so = let same = same_Some first place so in omega (arith, same)
    by_test false so = absurd (none-some place so)

    by_later : (later : Option ℕ) → last_place (first + 1) others item ≡ later → (last_place (first + 1) others item ≡ Some place → place < first + 1 + length others)
        → option_or later (cond (is_place other item) (Some first) None) ≡ Some place → place < first + suc (length others)
    by_later (Some p) is more so = let less = more (is ∙ so) in omega (arith, less)
    by_later None is more so = by_test (is_place other item) so

any_here : (q x : ℕ) (b : Bool) → x ≡ q → (eqb q x || b) ≡ true
any_here q x b same = elim (eqb_tells q x) [
  | inl p ↦ ap (λ t. t || b) p.0
  | inr p ↦ absurd (p.1 (sym same))
]

any_later : (a b : Bool) → b ≡ true → (a || b) ≡ true
any_later true b e = refl
any_later false b e = e

any_at : (q : ℕ) (xs : List ℕ) (k : ℕ) → slice_get xs k ≡ Some q → list_any (eqb q) xs ≡ true
any_at q [] k e = absurd (none-some q e)
any_at q (x ∷ xs) zero e = any_here q x (list_any (eqb q) xs) (same_Some x q e)
any_at q (x ∷ xs) (suc k) e = any_later (eqb q x) (list_any (eqb q) xs) (any_at q xs k e)

-- an order has as many places as there are things
long_enough : (needs : List (List ℕ)) (order : List ℕ) → IsOrder needs order → length needs ≤ length order
long_enough needs order is = le-length_from_below order (length needs) (λ q lt. let before = is.complete q lt in any_at q order before.at before.found)

-- a thing of the order has a rank
has_rank : (order ranks : List ℕ) (thing : ℕ) → AreRanks order ranks → thing < length order → (rank : ℕ) × (slice_get ranks thing ≡ Some rank)
has_rank order ranks thing are lt = elim (leb_tells (suc thing) (length order)) [
  | inl p ↦ (unwrap_or (last_rank 0 order thing) 0, are thing ∙ ap (λ b. cond b (Some (unwrap_or (last_rank 0 order thing) 0)) None) p.0)
  | inr p ↦ let more = p.1 in absurd (omega (arith, lt, more))
]

module _ (compilation : Compilation) (resolver : RecipeResolver) where
  row_case : (one : Result (List ℕ) Refusal) (rest : Result (List (List ℕ)) Refusal) (needs : List (List ℕ)) → row_before compilation resolver one rest ≡ Ok needs → (others : List (List ℕ)) × (rest ≡ Ok others) × (length needs ≡ suc (length others))
  row_case (Ok row) (Ok others) needs e =
      let same : row ∷ others ≡ needs = cc e in
      (others, refl, ap length (sym same))
  row_case (Ok row) (Err refusal) needs e = absurd (cc e)
  row_case (Err refusal) rest needs e = absurd (cc e)

  -- each recipe has a row
  as_many : (recipes : List Kept) (needs : List (List ℕ)) → all_needs compilation resolver recipes ≡ Ok needs → length needs ≡ length recipes
  as_many [] needs e =
      let same : [] ≡ needs = cc e in
      ap length (sym same)
  as_many (kept ∷ recipes) needs e =
      let r = row_case (recipe_needs compilation resolver kept) (all_needs compilation resolver recipes) needs e in
      r.2 ∙ ap suc (as_many recipes r.0 r.1)

  module _ (for_all : IsResolverFor compilation resolver) (needs : List (List ℕ)) (needed : all_needs compilation resolver (all_kept compilation) ≡ Ok needs)
      (order : List ℕ) (ordered : IsOrder needs order) (ranks : List ℕ) (are : AreRanks order ranks) where
    -- a place that the resolver has is that of a recipe, which has a rank
    of_item : (item : Place) (place : ℕ) → place_in resolver.places.now item ≡ Some place → (rank : ℕ) × (slice_get ranks place ≡ Some rank)
    of_item item place e =
        let standing = map (λ (kept : Kept). kept.1) (all_kept compilation) in
        let less = last_within 0 standing item place (sym (for_all.places item) ∙ e) in
        let many : length standing ≡ length (all_kept compilation) = length-map (all_kept compilation) (λ (kept : Kept). kept.1) in
        let rows = as_many (all_kept compilation) needs needed in
        let long = long_enough needs order ordered in
        has_rank order ranks place are (omega (arith, less, many, rows, long))

    by_place : (item : Place) (place : ℕ) (found : Option ℕ) → place_in resolver.places.now item ≡ found → recipe_or_nothing found ≡ Recipe place → (rank : ℕ) × (slice_get ranks place ≡ Some rank)
    by_place item place (Some p) is e =
        let same : p ≡ place = cc e in
        of_item item place (is ∙ ap (λ n. Some n) same)
    by_place item place None is e = absurd (cc e)

    by_target : (place : ℕ) (target : Target) → named_by resolver.places.now target ≡ Recipe place → (rank : ℕ) × (slice_get ranks place ≡ Some rank)
    by_target place (targets.Recipe keeper item) e = by_place item place (place_in resolver.places.now item) refl e
    by_target place (targets.Module inner) e = absurd (cc e)
    by_target place targets.Nothing e = absurd (cc e)

    -- the recipe that an alias names has a rank
    never_refused : (place : ℕ) (alias : Alias (List Name)) (refusal : Refusal) (home : ℕ) → named_in compilation resolver.places.now home alias.target ≡ Recipe place → rank_or (slice_get ranks place) alias ≡ Err refusal → ⊥
    never_refused place alias refusal home named e =
        let rank = by_target place (target_in compilation home alias.target) named in
        let none : Ok rank.0 ≡ Err refusal = ap (λ found. rank_or found alias) (sym rank.1) ∙ e in
        absurd (cc none)

-- ---- which alias is refused

module _ (compilation : Compilation) (places : ItemPlaces) (ranks : List ℕ) (refusal : Refusal) where
  rest_refused : (one : ResolvedAlias) (others : Result (List ResolvedAlias) Refusal) → places_before (one ∷ []) others ≡ Err refusal → others ≡ Err refusal
  rest_refused one (Ok all) e = absurd (cc e)
  rest_refused one (Err other) e = e

  abbrev rank_at : ℕ → Alias (List Name) → Result ℕ Refusal
  rank_at home alias = rank_of ranks (named_in compilation places home alias.target) alias

  -- one of these aliases is refused
  abbrev OneOf : ℕ → List (Alias (List Name)) → Type 0
  OneOf home aliases = (alias : Alias (List Name)) × Contains aliases alias × (rank_at home alias ≡ Err refusal)

  one_of : (home : ℕ) (aliases : List (Alias (List Name))) → resolved compilation places ranks home aliases ≡ Err refusal → OneOf home aliases
  one_of home [] e = absurd (cc e)
  one_of home (alias ∷ aliases) e = by_rank (rank_at home alias) refl e (one_of home aliases)
    where
      by_rank : (r : Result ℕ Refusal) → rank_at home alias ≡ r → alias_before r alias.name (resolved compilation places ranks home aliases) ≡ Err refusal
          → (resolved compilation places ranks home aliases ≡ Err refusal → OneOf home aliases) → OneOf home (alias ∷ aliases)
      by_rank (Ok rank) is so later =
          let more = later (rest_refused (record { name = alias.name; recipe = rank }) (resolved compilation places ranks home aliases) so) in
          (more.0, contains_later alias aliases more.0 more.1, more.2)
      by_rank (Err other) is so later =
          let same : other ≡ refusal = cc so in
          (alias, contains_first alias aliases, is ∙ ap (λ r. Err r) same)

  -- an alias that a module keeps is refused
  pub record IsOneRefused (w : World) : Type 0 where
    pub home : ℕ
    pub alias : Alias (List Name)
    pub keeps : KeepsAlias w compilation home alias
    pub refused : rank_at home alias ≡ Err refusal

  of_node : (w : World) (home : ℕ) (found : Option ModuleNode) → slice_get compilation.modules.items home ≡ found → resolved compilation places ranks home (filter_map (alias_at compilation) (aliases_of found)) ≡ Err refusal → IsOneRefused w
  of_node w home None is e = absurd (cc e)
  of_node w home (Some node) is e =
      let one = one_of home (filter_map (alias_at compilation) node.aliases.items) e in
      let comes = kept_comes (alias_at compilation) node.aliases.items one.0 one.1 in
      let at = place_of node.aliases.items comes.x comes.listed in
      record { home = home; alias = one.0; keeps = record { node = node; here = is; i = at.0; place = comes.x; listed = at.1; there = comes.is }; refused = one.2 }

  alias_refused : (w : World) → all_aliases compilation places ranks ≡ Err refusal → IsOneRefused w
  alias_refused w e =
      let comes = one_refused (module_aliases compilation places ranks) (range_with_len 0 (length compilation.modules.items)) refusal e in
      of_node w comes.x (slice_get compilation.modules.items comes.x) refl comes.is

module _ (laws : Laws) (w : World) (compilation : Compilation) (meant : IsMeant w compilation) (o : Overrides) (resolver : RecipeResolver) (for_all : IsResolverFor compilation resolver)
    (needs : List (List ℕ)) (needed : all_needs compilation resolver (all_kept compilation) ≡ Ok needs) (order : List ℕ) (ordered : IsOrder needs order) (ranks : List ℕ) (are : AreRanks order ranks) (refusal : Refusal) where
  -- an alias of a module breaks a rule, and so does one of nothing
  by_named : (home : ℕ) (alias : Alias (List Name)) → KeepsAlias w compilation home alias → (named : Named) → named_in compilation resolver.places.now home alias.target ≡ named → rank_of ranks named alias ≡ Err refusal → IsTold w o refusal
  by_named home alias keeps (Recipe place) is e = absurd (never_refused compilation resolver for_all needs needed order ordered ranks are place alias refusal home is e)
  by_named home alias keeps Module is e =
      let same : module_as_recipe alias.target ≡ refusal = cc e in
      subst (IsTold w o) same (rules.module_as_recipe (path_names alias.target), refl, (laws.aliases w compilation resolver meant for_all o home alias keeps).a_module is)
  by_named home alias keeps Nothing is e =
      let same : unknown_alias_target alias.name alias.target ≡ refusal = cc e in
      subst (IsTold w o) same (rules.unknown_alias_target (lexeme alias.name.token) (path_names alias.target), refl, (laws.aliases w compilation resolver meant for_all o home alias keeps).nothing is)

  -- a rule on aliases is broken
  pub aliases_named : all_aliases compilation resolver.places.now ranks ≡ Err refusal → IsNamed w o (naming_error refusal)
  aliases_named e =
      let r = alias_refused compilation resolver.places.now ranks refusal w e in
      naming_named w o refusal (by_named r.home r.alias r.keeps (named_in compilation resolver.places.now r.home r.alias.target) refl r.refused)
