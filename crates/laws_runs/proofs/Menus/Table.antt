-- Recipes that modules keep, and their rows in the table.
use Rattle.std.proofs.Common.{◌≡◌, ◌≤◌, ℕ, List, Some, length, map, refl, sym, ap, subst, ◌∙◌, arith}
use Rattle.std.specs.Prelude.{Contains, slice_get}
use Rattle.std.specs.Option.{option_map}
use Rattle.std.proofs.lemmas.Option.{same_Some, slice_get-map, slice_get_within}
use Rattle.modules_compilation.specs.declared.compilation.Compilation.{Compilation}
use Rattle.modules_compilation.specs.declared.place.Place.{Place}
use Rattle.resolve_recipes.specs.Nodes.{Kept, all_kept, view}
use Rattle.resolve_recipes.specs.Standing.{place_in}
use Rattle.resolve_analysis.specs.declared.module_reads.ModuleReads.{ModuleReads}
use Rattle.resolve_analysis.specs.declared.recipes.RecipeTable.{RecipeTable}
use Rattle.resolve_analysis.specs.declared.recipes.ResolvedRecipe.{ResolvedRecipe}
use Rattle.just_resolve.specs.Recipes.{Resolved, resolved_at, seen}
use Rattle.just_resolve.specs.Table.{IsTable}
use Rattle.meaning_rules.proofs.Worlds.Places.{contains_at}
use Rattle.laws_modules.proofs.Names.Found.{mapped, mapped_at}
use Rattle.laws_runs.proofs.Tables.Before.{all_give, is_of, seen_case, stands}
use Rattle.laws_runs.proofs.Tables.Gathered.{comes_of, goes_to}
use Rattle.laws_runs.proofs.Tables.Kept.{as_many}
use Rattle.laws_runs.proofs.Tables.Ranked.{has_rank, rank_is}
use Rattle.laws_names.proofs.Depending.Lists.{last_found, last_there}

-- the table's recipe of a rank is one that is kept
pub record IsRow (table : RecipeTable) (rank : ℕ) (kept : Kept) : Type 0 where
  pub resolved : ResolvedRecipe
  pub here : slice_get table.recipes.items rank ≡ Some resolved
  pub named : resolved.name ≡ kept.2.name
  pub home : resolved.module ≡ kept.0
  pub standing : resolved.place ≡ kept.1

module _ (compilation : Compilation) (reads : List ModuleReads) (table : RecipeTable) (many : length compilation.modules.items ≤ length reads) (t : IsTable compilation reads table) where
  abbrev pub recipes : List Kept
  recipes = map view t.nodes

  -- the recipes in their first order are those that are kept
  pub kept_there : (q : ℕ) (kept : Kept) → slice_get recipes q ≡ Some kept → Contains (all_kept compilation) kept
  kept_there q kept e = subst (λ ks. Contains ks kept) t.kept (contains_at recipes q kept e)

  -- what stands in the table is kept
  pub row_kept : (rank : ℕ) (resolved : ResolvedRecipe) → slice_get table.recipes.items rank ≡ Some resolved → (kept : Kept) × Contains (all_kept compilation) kept × IsRow table rank kept
  row_kept rank resolved here =
      let sorted = t.is_for.sorted in
      let inside = sorted.is_in in
      let needs = sorted.needs in
      let rows : length needs ≡ length recipes = as_many compilation t.is_for.resolver recipes needs sorted.needed in
      let a : slice_get inside.all rank ≡ Some (seen resolved) = ap (λ found. slice_get found rank) (sym inside.is_of.recipes_are) ∙ slice_get-map seen table.recipes.items rank ∙ ap (option_map seen) here in
      let comes = comes_of (resolved_at recipes reads needs inside.ranks) sorted.order inside.all (all_give compilation reads recipes needs inside.ranks sorted.order many rows t.kept sorted.ordered.within) inside.resolved rank (seen resolved) a in
      let is = is_of reads inside.ranks (slice_get recipes comes.x) (slice_get needs comes.x) recipes comes.x (seen resolved) refl comes.gives in
      (is.kept, kept_there comes.x is.kept is.here, record { resolved = resolved; here = here; named = is.named; home = is.home; standing = is.standing })

  -- the recipe at a place of the first order stands at its rank
  pub ranked_row : (q rank : ℕ) (kept : Kept) → slice_get recipes q ≡ Some kept → slice_get t.is_for.sorted.is_in.ranks q ≡ Some rank → IsRow table rank kept
  ranked_row q rank kept at_q ranked =
      let sorted = t.is_for.sorted in
      let inside = sorted.is_in in
      let needs = sorted.needs in
      let rows : length needs ≡ length recipes = as_many compilation t.is_for.resolver recipes needs sorted.needed in
      let within = slice_get_within recipes q kept at_q in
      let ordered = sorted.ordered.complete q (omega (arith, rows, within)) in
      let has = has_rank sorted.order inside.ranks q rank inside.ranked ranked in
      let same : ordered.at ≡ rank = rank_is sorted.order q ordered.at rank (λ i j x a b. sorted.ordered.distinct i j x a b) ordered.found has.1 in
      let goes = goes_to (resolved_at recipes reads needs inside.ranks) sorted.order inside.all (all_give compilation reads recipes needs inside.ranks sorted.order many rows t.kept sorted.ordered.within) inside.resolved ordered.at q ordered.found in
      let is = is_of reads inside.ranks (slice_get recipes q) (slice_get needs q) recipes q goes.a refl goes.gives in
      let one : is.kept ≡ kept = same_Some is.kept kept (sym is.here ∙ at_q) in
      let found = seen_case (slice_get table.recipes.items ordered.at) goes.a (sym (slice_get-map seen table.recipes.items ordered.at) ∙ ap (λ all. slice_get all ordered.at) inside.is_of.recipes_are ∙ goes.here) in
      record {
        resolved = found.0;
        here = ap (slice_get table.recipes.items) (sym same) ∙ found.1;
        named = ap (λ (r : Resolved). r.name) found.2 ∙ is.named ∙ ap (λ (k : Kept). k.2.name) one;
        home = ap (λ (r : Resolved). r.home) found.2 ∙ is.home ∙ ap (λ (k : Kept). k.0) one;
        standing = ap (λ (r : Resolved). r.place) found.2 ∙ is.standing ∙ ap (λ (k : Kept). k.1) one;
      }

  -- where a recipe stands that is kept, the table has a row for it
  pub record HasRow (place : Place) : Type 0 where
    pub rank : ℕ
    pub kept : Kept
    pub placed : place_in table.places place ≡ Some rank
    pub listed : Contains (all_kept compilation) kept
    pub same : kept.1 ≡ place
    pub row : IsRow table rank kept

  pub placed_row : (kept : Kept) → Contains (all_kept compilation) kept → HasRow kept.1
  placed_row kept listed =
      let s = stands compilation reads table many t kept listed in
      let places = map (λ (r : ResolvedRecipe). r.place) table.recipes.items in
      let at : slice_get places s.place ≡ Some kept.1 = mapped (λ (r : ResolvedRecipe). r.place) table.recipes.items s.place s.recipe s.here ∙ ap (λ p. Some p) s.standing in
      let f = last_found 0 places kept.1 s.place at in
      let l = last_there 0 places kept.1 f.0 f.1 in
      let n = l.1 in
      let rank_is : l.0 ≡ f.0 = omega (arith, n) in
      let m = mapped_at (λ (r : ResolvedRecipe). r.place) table.recipes.items l.0 kept.1 l.2 in
      let row = row_kept l.0 m.0 m.1 in
      record {
        rank = l.0;
        kept = row.0;
        placed = t.is_for.sorted.is_in.is_of.places_are kept.1 ∙ f.1 ∙ ap (λ n. Some n) (sym rank_is);
        listed = row.1;
        same = sym row.2.standing ∙ ap (λ (r : ResolvedRecipe). r.place) (same_Some row.2.resolved m.0 (sym row.2.here ∙ m.1)) ∙ m.2;
        row = row.2;
      }
