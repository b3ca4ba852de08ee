-- Recipes that run by their ranks are those that are reached by their names.
use Rattle.std.proofs.Common.{◌≡◌, refl, sym, ◌∙◌, ap, subst, Bool, true, false, if◌then◌else◌, List, [], ◌∷◌, ◌++◌, map, length, Some, ℕ, zero, suc, ◌≤◌, ◌<◌}
use Rattle.std.specs.Prelude.{Contains, get_or, slice_get}
use Rattle.std.proofs.lemmas.Option.{get_or_from_slice_get, same_Some}
use Rattle.tree_attributes.specs.Sets.Sets.{shapes_in}
use Rattle.tree_items.specs.Recipes.{recipe_shape}
use Rattle.modules_compilation.specs.declared.compilation.Compilation.{Compilation}
use Rattle.resolve_order.specs.Flooded.{followed, leads_of}
use Rattle.resolve_order.specs.Flooded as flooded
use Rattle.resolve_analysis.specs.Opening.{Runs, needs_of}
use Rattle.resolve_analysis.specs.declared.module_reads.ModuleReads.{ModuleReads}
use Rattle.resolve_analysis.specs.declared.recipes.RecipeTable.{RecipeTable}
use Rattle.resolve_analysis.specs.declared.recipes.ResolvedRecipe.{ResolvedRecipe}
use Rattle.just_resolve.specs.Table.{IsTable}
use Rattle.meaning_rules.specs.Worlds.Given.{Overrides, World}
use Rattle.meaning_rules.proofs.Worlds.Places.{contains_none}
use Rattle.laws_modules.proofs.Names.Found.{mapped, mapped_at, there_within}
use Rattle.laws_names.specs.Reading.Meant.{IsNumberedWorld}
use Rattle.laws_names.proofs.Reading.Lists.{contains_map, contains_mapped}
use Rattle.meaning_evaluation.specs.Named.{Definitions, DependencyRow, RecipeName, RecipeRow}
use Rattle.just_meaning.specs.Opening.{IsReached}
use Rattle.just_meaning.specs.Opening as opening
use Rattle.just_meaning.specs.Rows.{recipe_row}
use Rattle.laws_runs.specs.Resolved.Definitions.{recipe_named}
use Rattle.laws_runs.specs.Menus.Named.{name_at}
use Rattle.laws_runs.proofs.Running.Opening.Ranked.{called_so, depends_on, has_row, named_rank, own_name, r}

-- ---- rows of what places need

-- where a row has something, it stands at its place
pub row_of : (xs : List (List ℕ)) (place other : ℕ) → Contains (get_or xs place []) other → (row : List ℕ) × (slice_get xs place ≡ Some row) × Contains row other
row_of [] zero other c = absurd (contains_none [] other refl c)
row_of [] (suc place) other c = absurd (contains_none [] other refl c)
row_of (x ∷ xs) zero other c = (x, refl, c)
row_of (x ∷ xs) (suc place) other c = row_of xs place other c

no_stop : (place : ℕ) → get_or [] place false ≡ false
no_stop zero = refl
no_stop (suc place) = refl

needed : (b : Bool) (recipe : ResolvedRecipe) (other : ℕ) → Contains (needs_of b recipe) other → (b ≡ false) × Contains (recipe.priors.items ++ recipe.subsequents.items) other
needed true recipe other c = absurd (contains_none [] other refl c)
needed false recipe other c = (refl, c)

module _ (w : World) (compilation : Compilation) (n : IsNumberedWorld w compilation) (reads : List ModuleReads) (table : RecipeTable) (many : length compilation.modules.items ≤ length reads) (t : IsTable compilation reads table)
    (defined : Definitions) (recipe_is : (x : RecipeName) → defined.recipe x ≡ recipe_named compilation w.expansion x) (o : Overrides) where
  abbrev rows : List ResolvedRecipe
  rows = table.recipes.items

  -- the row of the recipe at a rank
  abbrev pub row_at : (place : ℕ) (recipe : ResolvedRecipe) (here : slice_get rows place ≡ Some recipe) → RecipeRow
  row_at place recipe here =
      let own = has_row w compilation n reads table many t place recipe here o in
      let x = r w compilation n reads table many t place recipe here in
      recipe_row w.expansion own.key own.passing (own_name w compilation n reads table many t place recipe here) (shapes_in x.kept.2.attributes) (recipe_shape x.kept.2)

  pub row_there : (place : ℕ) (recipe : ResolvedRecipe) (here : slice_get rows place ≡ Some recipe) → defined.recipe (name_at compilation table place) ≡ Some (row_at place recipe here)
  row_there place recipe here =
      recipe_is (name_at compilation table place) ∙ ap (recipe_named compilation w.expansion) (called_so w compilation n reads table many t place recipe here) ∙ (has_row w compilation n reads table many t place recipe here o).is

  module _ (no_dependencies : Bool) (calls : List ℕ) (there : (place : ℕ) → Contains calls place → place < length table.recipes.items) where
    abbrev names : List RecipeName
    names = map (name_at compilation table) calls

    -- what runs is reached
    pub to_reached : {place : ℕ} → Runs rows no_dependencies calls place → IsReached defined no_dependencies names (name_at compilation table place)
    to_reached (flooded.root {place} c) = opening.by_words (contains_map (name_at compilation table) calls place c)
    to_reached (flooded.further {place} {other} runs c) =
        let row = row_of (map (needs_of no_dependencies) rows) place other (subst (λ (b : Bool). Contains (if b then [] else leads_of (map (needs_of no_dependencies) rows) place) other) (no_stop place) c) in
        let m = mapped_at (needs_of no_dependencies) rows place row.0 row.1 in
        let d = needed no_dependencies m.0 other (subst (λ ns. Contains ns other) (sym m.2) row.2) in
        opening.by_recipe d.0 (to_reached runs) (row_there place m.0 m.1) (depends_on w compilation n reads table many t place m.0 m.1 other d.1)

    -- the recipe of the name runs
    pub record Ran (x : RecipeName) : Type 0 where
      pub place : ℕ
      pub recipe : ResolvedRecipe
      pub here : slice_get rows place ≡ Some recipe
      pub runs : Runs rows no_dependencies calls place
      pub named : name_at compilation table place ≡ x

    further_to : (place other : ℕ) (recipe : ResolvedRecipe) → slice_get rows place ≡ Some recipe → no_dependencies ≡ false → Contains (recipe.priors.items ++ recipe.subsequents.items) other
        → Contains (followed (map (needs_of no_dependencies) rows) [] place) other
    further_to place other recipe here none c =
        let graph = map (needs_of no_dependencies) rows in
        let leads : leads_of graph place ≡ needs_of no_dependencies recipe = get_or_from_slice_get graph place (needs_of no_dependencies recipe) [] (mapped (needs_of no_dependencies) rows place recipe here) in
        subst (λ (b : Bool). Contains (if b then [] else leads_of graph place) other) (sym (no_stop place))
        (subst (λ xs. Contains xs other) (sym leads) (subst (λ (b : Bool). Contains (needs_of b recipe) other) (sym none) c))

    -- what is reached runs
    pub from_reached : {x : RecipeName} → IsReached defined no_dependencies names x → Ran x
    from_reached (opening.by_words {r = x} c) =
        let m = contains_mapped (name_at compilation table) calls x c in
        let p = there_within rows m.0 (there m.0 m.1) in
        record { place = m.0; recipe = p.0; here = p.1; runs = flooded.root m.1; named = m.2 }
    from_reached (opening.by_recipe {r = x} {d} {row} none reached is listed) =
        let q = from_reached reached in
        let own : RecipeRow = row_at q.place q.recipe q.here in
        let same : row ≡ own = same_Some row own (sym is ∙ ap defined.recipe (sym q.named) ∙ row_there q.place q.recipe q.here) in
        let h = named_rank w compilation n reads table many t q.place q.recipe q.here d (subst (λ (y : RecipeRow). Contains (map (λ (dependency : DependencyRow). dependency.on) (y.priors ++ y.subsequents)) d) same listed) in
        record { place = h.other; recipe = h.found; here = h.there; runs = flooded.further q.runs (further_to q.place h.other q.recipe q.here none h.listed); named = h.named }
