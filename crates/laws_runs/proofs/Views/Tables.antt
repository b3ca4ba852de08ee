-- What the expressions of recipes in the table name is known.
use Rattle.std.proofs.Common.{◌≡◌, inl, inr, refl, sym, ◌∙◌, ap, subst, List, [], ◌∷◌, map, Option, Some, None, Result, Ok, Err, ℕ}
use Rattle.std.specs.Prelude.{slice_get, Contains, String}
use Rattle.std.specs.BTreeMap.{BTreeMap}
use Rattle.std.specs.List.{filter_map}
use Rattle.std.specs.Option.{option_map}
use Rattle.std.proofs.lemmas.Option.{none-some, same_Some}
use Rattle.tree_items.specs.declared.ast.Item.{Item}
use Rattle.tree_items.specs.declared.ast.Item.TheVariants as items
use Rattle.tree_items.specs.declared.recipe.Recipe.{Recipe}
use Rattle.tree_items.specs.declared.recipe.UnresolvedDependency.{UnresolvedDependency}
use Rattle.modules_compilation.specs.Places.{item_at}
use Rattle.resolve_references.specs.ItemReferences.{references_of_recipe}
use Rattle.resolve_references.specs.Places.{places_of}
use Rattle.resolve_references.specs.declared.read_fault.ReadFault.{ReadFault}
use Rattle.resolve_recipes.specs.Nodes.{Kept, recipe_of, view}
use Rattle.resolve_analysis.specs.declared.module_reads.ModuleReads.{ModuleReads}
use Rattle.just_resolve.specs.Gathered.{all_before, gathered}
use Rattle.just_resolve.specs.Recipes.{Resolved, resolved, resolved_at, resolved_in, resolved_recipe, resolved_with, seen, with_reads}
use Rattle.just_resolve.proofs.RefusedReads.{at_home}
use Rattle.just_resolve.proofs.Refusing.{kept_comes}
use Rattle.meaning_rules.proofs.Worlds.Places.{contains_at, contains_cases, contains_first, contains_later, contains_none}
use Rattle.laws_modules.specs.Names.Names.{HasNode}
use Rattle.laws_modules.proofs.Names.Found.{mapped}
use Rattle.laws_names.specs.Reading.Told.{KeepsItem}
use Rattle.laws_names.proofs.Reading.Items.{kept_there}
use Rattle.laws_runs.specs.Views.Recipes.{TableRecipesAreKnown}
use Rattle.laws_runs.proofs.Views.Views.{recipes_are_known}

-- ---- results that are gathered

module _ {A E : Type 0} where
  rest_given : (b : A) (others : Result (List A) E) (all : List A) → all_before (b ∷ []) others ≡ Ok all → (rest : List A) × (others ≡ Ok rest) × (b ∷ rest ≡ all)
  rest_given b (Ok rest) all e = (rest, refl, cc e)
  rest_given b (Err fault) all e = absurd (cc e)

  -- what is gathered is one of the results
  one_given : (results : List (Result A E)) (all : List A) → gathered (λ found. found) results ≡ Ok all → (a : A) → Contains all a → Contains results (Ok a)
  one_given [] all e a c = let none : [] ≡ all = cc e in absurd (contains_none all a (sym none) c)
  one_given (Ok b ∷ results) all e a c =
      let g = rest_given b (gathered (λ found. found) results) all e in
      elim (contains_cases b g.0 a (subst (λ xs. Contains xs a) (sym g.2) c)) [
        | inl same ↦ subst (λ x. Contains (Ok b ∷ results) (Ok x)) same (contains_first (Ok b) results)
        | inr later ↦ contains_later (Ok b) results (Ok a) (one_given results g.0 g.1 a later)
      ]
  one_given (Err fault ∷ results) all e a c = absurd (cc e)

-- ---- recipes that are resolved

-- the item at a place is the recipe there
recipe_there : (item : Option Item) (recipe : Recipe UnresolvedDependency) → recipe_of item ≡ Some recipe → item ≡ Some (items.Recipe recipe)
recipe_there None recipe e = absurd (none-some recipe e)
recipe_there (Some (items.Alias x)) recipe e = absurd (none-some recipe e)
recipe_there (Some (items.Assignment x)) recipe e = absurd (none-some recipe e)
recipe_there (Some (items.Comment x)) recipe e = absurd (none-some recipe e)
recipe_there (Some (items.Function x)) recipe e = absurd (none-some recipe e)
recipe_there (Some (items.Import x)) recipe e = absurd (none-some recipe e)
recipe_there (Some (items.Module x)) recipe e = absurd (none-some recipe e)
recipe_there (Some items.Newline) recipe e = absurd (none-some recipe e)
recipe_there (Some (items.Recipe x)) recipe e = ap (λ r. Some (items.Recipe r)) (same_Some x recipe e)
recipe_there (Some (items.Set x)) recipe e = absurd (none-some recipe e)
recipe_there (Some (items.Unexport x)) recipe e = absurd (none-some recipe e)

-- it is that of a recipe that is kept, with the places of what this reads
record ComesOf (recipes : List Kept) (reads : List ModuleReads) (a : Resolved) : Type 0 where
  pub place : ℕ
  pub kept : Kept
  pub here : slice_get recipes place ≡ Some kept
  pub home : ModuleReads
  pub there : slice_get reads kept.0 ≡ Some home
  pub given : places_of home.resolver (references_of_recipe kept.2) ≡ Ok a.reads
  pub module_is : kept.0 ≡ a.home
  pub standing : kept.1 ≡ a.place

module _ (recipes : List Kept) (reads : List ModuleReads) (needs : List (List ℕ)) (ranks : List ℕ) (a : Resolved) where
  by_reads : (place : ℕ) (kept : Kept) (row : List ℕ) → slice_get recipes place ≡ Some kept → (home : ModuleReads) → slice_get reads kept.0 ≡ Some home → (r : Result (List ℕ) ReadFault) → places_of home.resolver (references_of_recipe kept.2) ≡ r
      → with_reads ranks kept row r ≡ Ok a → ComesOf recipes reads a
  by_reads place kept row here home there (Ok found) is e =
      let same : resolved_recipe ranks kept row found ≡ a = cc e in
      record {
        place = place;
        kept = kept;
        here = here;
        home = home;
        there = there;
        given = is ∙ ap (λ (x : Resolved). Ok x.reads) same;
        module_is = ap (λ (x : Resolved). x.home) same;
        standing = ap (λ (x : Resolved). x.place) same;
      }
  by_reads place kept row here home there (Err fault) is e = absurd (cc e)

  by_home : (place : ℕ) (kept : Kept) (row : List ℕ) → slice_get recipes place ≡ Some kept → (home : Option ModuleReads) → slice_get reads kept.0 ≡ home
      → option_map (λ (h : ModuleReads). resolved h.resolver ranks kept row) home ≡ Some (Ok a) → ComesOf recipes reads a
  by_home place kept row here None is e = absurd (none-some (Ok a) e)
  by_home place kept row here (Some home) is e = by_reads place kept row here home is (places_of home.resolver (references_of_recipe kept.2)) refl (same_Some (resolved home.resolver ranks kept row) (Ok a) e)

  by_row : (place : ℕ) (kept : Option Kept) (row : Option (List ℕ)) → slice_get recipes place ≡ kept → resolved_with reads ranks kept row ≡ Some (Ok a) → ComesOf recipes reads a
  by_row place None row is e = absurd (none-some (Ok a) e)
  by_row place (Some kept) None is e = absurd (none-some (Ok a) e)
  by_row place (Some kept) (Some row) is e = by_home place kept row is (slice_get reads kept.0) refl e

  -- each that is resolved is such
  comes : (order : List ℕ) (all : List Resolved) → resolved_in recipes reads needs ranks order ≡ Ok all → Contains all a → ComesOf recipes reads a
  comes order all e c =
      let results = filter_map (resolved_at recipes reads needs ranks) order in
      let one = one_given results all e a c in
      let from = kept_comes (resolved_at recipes reads needs ranks) order (Ok a) one in
      by_row from.x (slice_get recipes from.x) (slice_get needs from.x) refl from.is

-- ---- the law

pub table_recipes_are_known : {A : Type 0} (overrides : BTreeMap ℕ (String A)) → TableRecipesAreKnown overrides
table_recipes_are_known overrides w compilation n variables are table t place recipe at =
    let sorted = t.is_for.sorted in
    let inside = sorted.is_in in
    let one = subst (λ all. Contains all (seen recipe)) inside.is_of.recipes_are (contains_at (map seen table.recipes.items) place (seen recipe) (mapped seen table.recipes.items place recipe at)) in
    let c = comes (map view t.nodes) variables.reads.items sorted.needs inside.ranks (seen recipe) sorted.order inside.all inside.resolved one in
    let home = at_home compilation c.place c.kept (ap (λ ks. slice_get ks c.place) (sym t.kept) ∙ c.here) in
    let there = recipe_there (item_at compilation c.kept.1) c.kept.2 home.is.there in
    let here : HasNode w compilation recipe.module home.node = ap (slice_get compilation.modules.items) (sym c.module_is) ∙ home.here in
    let keeps : KeepsItem compilation home.node (items.Recipe c.kept.2) = record { place = c.kept.1; kept = inr (inr (inl home.is.listed)); there = there } in
    let item = (kept_there w compilation n recipe.module home.node here (items.Recipe c.kept.2) keeps).0 in
    record {
      written = c.kept.2;
      there = ap (item_at compilation) (sym c.standing) ∙ there;
      known = λ context sees reads known is_read read.
          let same : c.home ≡ reads = same_Some c.home reads (sym c.there ∙ ap (slice_get variables.reads.items) c.module_is ∙ known) in
          recipes_are_known overrides w compilation n variables are recipe.module home.node here context sees reads known c.kept.2 item recipe.reads.items
          (subst (λ (r : ModuleReads). places_of r.resolver (references_of_recipe c.kept.2) ≡ Ok recipe.reads.items) same c.given) is_read read;
    }
