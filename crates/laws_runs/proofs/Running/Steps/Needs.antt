-- What a recipe depends on by places is what its dependencies name, and stands earlier in the table.
use Rattle.std.proofs.Common.{◌≡◌, ◌<◌, ◌≤◌, ◌∙◌, sym, ap, ap₂, subst, refl, ℕ, zero, suc, Bool, true, false, List, [], ◌∷◌, ◌++◌, drop, length, map, take, Option, Some, None, Result, Ok, Err, arith, eqb, inl, inr}
use Rattle.std.specs.Prelude.{Contains, ◌||◌, cond, if◌then◌else◌, slice_get}
use Rattle.std.specs.List.{cons_option, list_any}
use Rattle.std.specs.Option.{option_map, unwrap_or}
use Rattle.std.proofs.lemmas.Bool.Decides.{eqb_tells, leb_tells}
use Rattle.std.proofs.lemmas.Map.Steps.{le-length_from_below}
use Rattle.std.proofs.lemmas.Option.{get_or_from_slice_get, none-some, same_Some, slice_get-map, slice_get_within}
use Rattle.just_text.specs.Tokens.{lexeme}
use Rattle.just_text.specs.declared.name.Name.{Name}
use Rattle.just_host.specs.declared.config.Config.{Config}
use Rattle.just_value.specs.declared.positional.Override.{Override}
use Rattle.tree_items.specs.Paths.{path_names}
use Rattle.tree_items.specs.Recipes.{RecipeShape}
use Rattle.tree_items.specs.declared.recipe.Recipe.{Recipe}
use Rattle.tree_items.specs.declared.recipe.UnresolvedDependency.{UnresolvedDependency}
use Rattle.modules_compilation.specs.declared.compilation.Compilation.{Compilation}
use Rattle.resolve_order.specs.Order.{IsOrder}
use Rattle.resolve_order.specs.Flooded.{further, leads_of}
use Rattle.resolve_recipes.specs.Nodes.{Kept, recipe_at, view}
use Rattle.resolve_recipes.specs.Ranks.{AreRanks, last_rank}
use Rattle.resolve_recipes.specs.Refusals.{Refusal}
use Rattle.resolve_recipes.specs.Resolving.{needs_of as places_of_needs, place_before, place_of, recipe_needs}
use Rattle.resolve_recipes.specs.declared.recipe_resolver.RecipeResolver.{RecipeResolver}
use Rattle.resolve_references.specs.ItemReferences.{references_of_recipe}
use Rattle.resolve_references.specs.Places.{places_of}
use Rattle.resolve_references.specs.declared.read_fault.ReadFault.{ReadFault}
use Rattle.resolve_analysis.specs.Opening.{Runs, needs_of}
use Rattle.resolve_analysis.specs.declared.analysis.Analysis.{Analysis}
use Rattle.resolve_analysis.specs.declared.module_reads.ModuleReads.{ModuleReads}
use Rattle.just_resolve.specs.Recipes.{Resolved, ranks_at, resolved, resolved_at, resolved_recipe, resolved_with, seen, with_reads}
use Rattle.just_resolve.specs.Table.{IsTable}
use Rattle.just_resolve.proofs.RefusedRecipes.{meant_of, resolver_of}
use Rattle.analyze_calls.specs.declared.plan.Runner.{Runner}
use Rattle.meaning_rules.specs.Worlds.Given.{Text, World}
use Rattle.meaning_rules.proofs.Worlds.Places.{contains_at}
use Rattle.meaning_rules.specs.Overrides.{overrides_of}
use Rattle.laws_names.proofs.Depending.Kept.{is_kept}
use Rattle.laws_names.proofs.Depending.Led.{dependencies_are_led}
use Rattle.laws_names.proofs.Depending.Needing.{row_back}
use Rattle.meaning_evaluation.specs.Named.{RecipeName}
use Rattle.just_meaning.specs.Defining.{named_from, names_before}
use Rattle.just_meaning.specs.Opening.{Opened}
use Rattle.laws_runs.proofs.Resolved.Own.{has_own_path, path_is}
use Rattle.laws_runs.specs.Settings.Settled.{AllSettle}
use Rattle.laws_runs.specs.Menus.Named.{name_at, name_of}
use Rattle.laws_runs.proofs.Menus.Lists.{before_behind, last_behind}
use Rattle.laws_runs.proofs.Menus.Table.{IsRow, ranked_row}
use Rattle.laws_modules.proofs.Names.Found.{mapped}
use Rattle.laws_runs.proofs.Tables.Before.{all_give, before}
use Rattle.laws_runs.proofs.Tables.Gathered.{comes_of}
use Rattle.laws_runs.proofs.Tables.Kept.{as_many}
use Rattle.laws_runs.specs.Running.Steps.{RestsOn}
use Rattle.laws_runs.proofs.Running.Steps.Modules.{at}
use Rattle.laws_runs.proofs.Running.Steps.Standing.{Stands, no_stop, path, reads_many}

-- ---- each thing of an order has a rank

any_here : (q x : ℕ) (b : Bool) → x ≡ q → (eqb q x || b) ≡ true
any_here q x b same = elim (eqb_tells q x) [
  | inl p ↦ ap (λ t. t || b) p.0
  | inr p ↦ absurd (p.1 (sym same))
]

any_later : (a b : Bool) → b ≡ true → (a || b) ≡ true
any_later true b e = refl
any_later false b e = e

any_at : (q : ℕ) (xs : List ℕ) (k : ℕ) → slice_get xs k ≡ Some q → list_any (eqb q) xs ≡ true
any_at q [] k e = absurd (none-some q e)
any_at q (x ∷ xs) zero e = any_here q x (list_any (eqb q) xs) (same_Some x q e)
any_at q (x ∷ xs) (suc k) e = any_later (eqb q x) (list_any (eqb q) xs) (any_at q xs k e)

ranked_thing : (needs : List (List ℕ)) (order ranks : List ℕ) (thing : ℕ) → IsOrder needs order → AreRanks order ranks → thing < length needs → (rank : ℕ) × (slice_get ranks thing ≡ Some rank)
ranked_thing needs order ranks thing is are within =
    let long = le-length_from_below order (length needs) (λ q lt. let there = is.complete q lt in any_at q order there.at there.found) in
    elim (leb_tells (suc thing) (length order)) [
      | inl p ↦ (unwrap_or (last_rank 0 order thing) 0, are thing ∙ ap (λ b. cond b (Some (unwrap_or (last_rank 0 order thing) 0)) None) p.0)
      | inr p ↦ let few = p.1 in absurd (omega (arith, long, few, within))
    ]

-- ---- the places of dependencies

module _ (compilation : Compilation) (resolver : RecipeResolver) (k : ℕ) where
  -- each dependency has the place beside it
  abbrev ArePlaced : List UnresolvedDependency → List ℕ → Type 0
  ArePlaced [] [] = Unit {0}
  ArePlaced (d ∷ ds) (p ∷ ps) = (place_of compilation resolver k d ≡ Ok p) × ArePlaced ds ps
  ArePlaced [] (p ∷ ps) = ⊥
  ArePlaced (d ∷ ds) [] = ⊥

  placed_by : (one : Result ℕ _) (recipe : Name) (written : List Name) (others : Result (List ℕ) Refusal) (row : List ℕ) → place_before one recipe written others ≡ Ok row
      → (p : ℕ) × (ps : List ℕ) × (one ≡ Ok p) × (others ≡ Ok ps) × ((p ∷ ps) ≡ row)
  placed_by (Ok p) recipe written (Ok ps) row e = (p, ps, refl, refl, cc e)
  placed_by (Ok p) recipe written (Err refusal) row e = absurd (cc e)
  placed_by (Err reason) recipe written others row e = absurd (cc e)

  are_placed : (recipe : Name) (ds : List UnresolvedDependency) (row : List ℕ) → places_of_needs compilation resolver k recipe ds ≡ Ok row → ArePlaced ds row
  are_placed recipe [] row e = let same : [] ≡ row = cc e in subst (ArePlaced []) same tt
  are_placed recipe (d ∷ ds) row e =
      let r = placed_by (place_of compilation resolver k d) recipe d.recipe (places_of_needs compilation resolver k recipe ds) row e in
      subst (ArePlaced (d ∷ ds)) r.4 (r.2, are_placed recipe ds r.1 r.3)

  first_placed : (xs ys : List UnresolvedDependency) (row : List ℕ) → ArePlaced (xs ++ ys) row → ArePlaced xs (take (length xs) row)
  first_placed [] ys row h = tt
  first_placed (x ∷ xs) ys [] h = h
  first_placed (x ∷ xs) ys (p ∷ row) h = (h.0, first_placed xs ys row h.1)

  last_placed : (xs ys : List UnresolvedDependency) (row : List ℕ) → ArePlaced (xs ++ ys) row → ArePlaced ys (drop (length xs) row)
  last_placed [] ys row h = h
  last_placed (x ∷ xs) ys [] h = absurd h
  last_placed (x ∷ xs) ys (p ∷ row) h = last_placed xs ys row h.1

module _ (w : World) (compilation : Compilation) (given : List Override) (base : Text) (analysis : Analysis) (settled : AllSettle w (overrides_of given) compilation analysis.values.value.settings.items) (config : Config) (root_key : List ℕ)
    (called : List ℕ) (is_read : ℕ → Bool) (runner : Runner) (opened : List Opened) (rests : RestsOn w compilation given base analysis settled config root_key called is_read runner opened) where
  abbrev table_is : IsTable compilation analysis.variables.reads.items analysis.table.value
  table_is = rests.known.recipes_are

  abbrev many : length compilation.modules.items ≤ length analysis.variables.reads.items
  many = reads_many w compilation given base analysis settled config root_key called is_read runner opened rests

  -- each dependency of a module is on the recipe of the rank beside it, by its name
  abbrev pub LeadTo : List Text → List UnresolvedDependency → List ℕ → Type 0
  LeadTo above [] [] = Unit {0}
  LeadTo above (d ∷ ds) (n ∷ ns) = (name_at compilation analysis.table.value n ≡ named_from above (path_names d.recipe)) × LeadTo above ds ns
  LeadTo above [] (n ∷ ns) = ⊥
  LeadTo above (d ∷ ds) [] = ⊥

  module _ (rank : ℕ) (s : Stands w compilation given base analysis settled config root_key called is_read runner opened rests rank) where
    abbrev k : ℕ
    k = s.resolved.module

    abbrev resolver : RecipeResolver
    resolver = table_is.is_for.resolver

    abbrev ranks : List ℕ
    ranks = table_is.is_for.sorted.is_in.ranks

    abbrev recipes : List Kept
    recipes = map view table_is.nodes

    abbrev by_parts : List Text → Text → RecipeName
    by_parts p n = record { path = p; recipe = n }

    row_called : (other : ℕ) (kept : Kept) → IsRow analysis.table.value other kept → name_at compilation analysis.table.value other ≡ by_parts
        (path w compilation given base analysis settled config root_key called is_read runner opened rests kept.0) (lexeme kept.2.name.token)
    row_called other kept row =
        ap (name_of compilation) row.here
        ∙ ap (λ m. by_parts (path w compilation given base analysis settled config root_key called is_read runner opened rests m) (lexeme row.resolved.name.token)) row.home
        ∙ ap (λ (n : Name). by_parts (path w compilation given base analysis settled config root_key called is_read runner opened rests kept.0) (lexeme n.token)) row.named

    called_by : (d : UnresolvedDependency) (p other : ℕ) → place_of compilation resolver k d ≡ Ok p → slice_get ranks p ≡ Some other
        → name_at compilation analysis.table.value other ≡ named_from (at w compilation given base analysis settled config root_key called is_read runner opened rests rank s) (path_names d.recipe)
    called_by d p other e ranked =
        let led = dependencies_are_led w compilation resolver (meant_of w compilation rests.numbered) (resolver_of compilation table_is.nodes resolver table_is.kept table_is.is_for.resolves) k s.node s.home d p e in
        let row = ranked_row compilation analysis.variables.reads.items analysis.table.value many table_is p other led.kept (ap (λ ks. slice_get ks p) table_is.kept ∙ led.here) ranked in
        let inner : path w compilation given base analysis settled config root_key called is_read runner opened rests led.kept.0 ≡ at w compilation given base analysis settled config root_key called is_read runner opened rests rank s ++
        led.leads.modules =
        path_is w compilation rests.numbered.of led.kept.0 (at w compilation given base analysis settled config root_key called is_read runner opened rests rank s ++ led.leads.modules)
        (led.leads.leads.below (at w compilation given base analysis settled config root_key called is_read runner opened rests rank s) (has_own_path w compilation rests.numbered.of k s.node s.home)) in
        let name : lexeme led.kept.2.name.token ≡ led.leads.name = ap (λ (r : RecipeShape). r.name) (sym led.shape) ∙ led.leads.keeps.is_named in
        row_called other led.kept row
        ∙ ap₂ by_parts inner name
        ∙ ap (λ ms. by_parts (at w compilation given base analysis settled config root_key called is_read runner opened rests rank s ++ ms) led.leads.name) (sym (before_behind led.leads.modules led.leads.name))
        ∙ ap (by_parts (at w compilation given base analysis settled config root_key called is_read runner opened rests rank s ++ names_before (led.leads.modules ++ led.leads.name ∷ []))) (sym (last_behind led.leads.modules led.leads.name))
        ∙ ap (named_from (at w compilation given base analysis settled config root_key called is_read runner opened rests rank s)) (sym led.leads.whole)

    as_many_rows : length table_is.is_for.sorted.needs ≡ length recipes
    as_many_rows = as_many compilation resolver recipes table_is.is_for.sorted.needs table_is.is_for.sorted.needed

    all_lead : (ds : List UnresolvedDependency) (ps : List ℕ) → ArePlaced compilation resolver k ds ps → LeadTo (at w compilation given base analysis settled config root_key called is_read runner opened rests rank s) ds (ranks_at ranks ps)
    all_lead [] [] h = tt
    all_lead [] (p ∷ ps) h = absurd h
    all_lead (d ∷ ds) [] h = absurd h
    all_lead (d ∷ ds) (p ∷ ps) h =
        let led = dependencies_are_led w compilation resolver (meant_of w compilation rests.numbered) (resolver_of compilation table_is.nodes resolver table_is.kept table_is.is_for.resolves) k s.node s.home d p h.0 in
        let lt = slice_get_within recipes p led.kept (ap (λ ks. slice_get ks p) table_is.kept ∙ led.here) in
        let rows = as_many_rows in
        let r = ranked_thing table_is.is_for.sorted.needs table_is.is_for.sorted.order ranks p table_is.is_for.sorted.ordered table_is.is_for.sorted.is_in.ranked (omega (arith, lt, rows)) in
        subst (λ o. LeadTo (at w compilation given base analysis settled config root_key called is_read runner opened rests rank s) (d ∷ ds) (cons_option o (ranks_at ranks ps))) (sym r.1) (called_by d p r.0 h.0 r.1, all_lead ds ps h.1)

    -- ---- the row of the recipe

    abbrev reads : List ModuleReads
    reads = analysis.variables.reads.items

    read_case : (kept : Kept) (row : List ℕ) (r : Result (List ℕ) ReadFault) (a : Resolved) → with_reads ranks kept row r ≡ Ok a → (found : List ℕ) × (resolved_recipe ranks kept row found ≡ a)
    read_case kept row (Ok found) a e = (found, cc e)
    read_case kept row (Err fault) a e = absurd (cc e)

    home_case : (kept : Kept) (row : List ℕ) (home : Option ModuleReads) (a : Resolved) → option_map (λ (h : ModuleReads). resolved h.resolver ranks kept row) home ≡ Some (Ok a) → (found : List ℕ) × (resolved_recipe ranks kept row found ≡ a)
    home_case kept row None a e = absurd (none-some (Ok a) e)
    home_case kept row (Some home) a e = read_case kept row (places_of home.resolver (references_of_recipe kept.2)) a (same_Some (resolved home.resolver ranks kept row) (Ok a) e)

    abbrev Gives : ℕ → Resolved → Type 0
    Gives x a = (kept : Kept) × (row : List ℕ) × (slice_get recipes x ≡ Some kept) × (slice_get table_is.is_for.sorted.needs x ≡ Some row) × (found : List ℕ) × (resolved_recipe ranks kept row found ≡ a)

    row_case : (x : ℕ) (kept : Option Kept) (row : Option (List ℕ)) (a : Resolved) → slice_get recipes x ≡ kept → slice_get table_is.is_for.sorted.needs x ≡ row → resolved_with reads ranks kept row ≡ Some (Ok a) → Gives x a
    row_case x None row a is has e = absurd (none-some (Ok a) e)
    row_case x (Some kept) None a is has e = absurd (none-some (Ok a) e)
    row_case x (Some kept) (Some row) a is has e = let r = home_case kept row (slice_get reads kept.0) a e in (kept, row, is, has, r.0, r.1)

    record IsOwnRow : Type 0 where
      pub row : List ℕ
      pub placed : ArePlaced compilation resolver k (s.planned.recipe.now.priors.items ++ s.planned.recipe.now.subsequents.items) row
      pub priors : s.resolved.priors.items ≡ ranks_at ranks (take (length s.planned.recipe.now.priors.items) row)
      pub subsequents : s.resolved.subsequents.items ≡ ranks_at ranks (drop (length s.planned.recipe.now.priors.items) row)

    row_from : (x : ℕ) (kept : Kept) (row found : List ℕ) → slice_get recipes x ≡ Some kept → slice_get table_is.is_for.sorted.needs x ≡ Some row → resolved_recipe ranks kept row found ≡ seen s.resolved → IsOwnRow
    row_from x kept row found at_kept at_row same =
        let b = row_back compilation resolver recipes table_is.is_for.sorted.needs table_is.is_for.sorted.needed x row at_row in
        by_kept b.0 (same_Some b.0 kept (sym b.1 ∙ at_kept)) b.2
      where
        home : kept.0 ≡ k
        home = ap (λ (r : Resolved). r.home) same

        place : kept.1 ≡ s.resolved.place
        place = ap (λ (r : Resolved). r.place) same

        there : recipe_at compilation kept.1 ≡ Some kept.2
        there = (is_kept compilation kept (subst (λ ks. Contains ks kept) table_is.kept (contains_at recipes x kept at_kept))).there

        its_recipe : kept.2 ≡ s.planned.recipe.now
        its_recipe = same_Some kept.2 s.planned.recipe.now (sym there ∙ ap (recipe_at compilation) place ∙ s.at)

        by_kept : (other : Kept) → other ≡ kept → recipe_needs compilation resolver other ≡ Ok row → IsOwnRow
        by_kept other one needs = record {
          row = row;
          placed =
              subst (λ (r : Recipe UnresolvedDependency). ArePlaced compilation resolver k (r.priors.items ++ r.subsequents.items) row) its_recipe
              (subst (λ m. ArePlaced compilation resolver m (kept.2.priors.items ++ kept.2.subsequents.items) row) home
              (are_placed compilation resolver kept.0 kept.2.name (kept.2.priors.items ++ kept.2.subsequents.items) row (ap (recipe_needs compilation resolver) (sym one) ∙ needs)));
          priors = sym (ap (λ (r : Resolved). r.priors) same) ∙ ap (λ (r : Recipe UnresolvedDependency). ranks_at ranks (take (length r.priors.items) row)) its_recipe;
          subsequents = sym (ap (λ (r : Resolved). r.subsequents) same) ∙ ap (λ (r : Recipe UnresolvedDependency). ranks_at ranks (drop (length r.priors.items) row)) its_recipe;
        }

    own_row : IsOwnRow
    own_row =
        let sorted = table_is.is_for.sorted in
        let inside = sorted.is_in in
        let a : slice_get inside.all rank ≡ Some (seen s.resolved) = ap (λ found. slice_get found rank) (sym inside.is_of.recipes_are) ∙ slice_get-map seen analysis.table.value.recipes.items rank ∙ ap (option_map seen) s.here in
        let comes = comes_of (resolved_at recipes reads sorted.needs ranks) sorted.order inside.all (all_give compilation reads recipes sorted.needs ranks sorted.order many as_many_rows table_is.kept sorted.ordered.within)
        inside.resolved rank (seen s.resolved) a in
        let g = row_case comes.x (slice_get recipes comes.x) (slice_get sorted.needs comes.x) (seen s.resolved) refl refl comes.gives in
        row_from comes.x g.0 g.1 g.4 g.2 g.3 g.5

    -- what its dependencies are on, before its body and after it
    pub priors_lead : LeadTo (at w compilation given base analysis settled config root_key called is_read runner opened rests rank s) s.planned.recipe.now.priors.items s.planned.priors.now
    priors_lead =
        subst (LeadTo (at w compilation given base analysis settled config root_key called is_read runner opened rests rank s) s.planned.recipe.now.priors.items) (sym (s.is_planned.priors ∙ own_row.priors))
        (all_lead s.planned.recipe.now.priors.items (take (length s.planned.recipe.now.priors.items) own_row.row) (first_placed compilation resolver k s.planned.recipe.now.priors.items s.planned.recipe.now.subsequents.items own_row.row
        own_row.placed))

    pub subsequents_lead : LeadTo (at w compilation given base analysis settled config root_key called is_read runner opened rests rank s) s.planned.recipe.now.subsequents.items s.planned.subsequents.now
    subsequents_lead =
        subst (LeadTo (at w compilation given base analysis settled config root_key called is_read runner opened rests rank s) s.planned.recipe.now.subsequents.items) (sym (s.is_planned.subsequents ∙ own_row.subsequents))
        (all_lead s.planned.recipe.now.subsequents.items (drop (length s.planned.recipe.now.priors.items) own_row.row) (last_placed compilation resolver k s.planned.recipe.now.priors.items s.planned.recipe.now.subsequents.items
        own_row.row own_row.placed))

    -- ---- they stand earlier, and run where it does

    -- a rank that it depends on is lower
    pub earlier : (other : ℕ) → Contains (s.planned.priors.now ++ s.planned.subsequents.now) other → other < rank
    earlier other c =
        before compilation reads analysis.table.value many table_is rank other s.resolved s.here
        (subst (λ ns. Contains ns other) (ap₂ ◌++◌ s.is_planned.priors s.is_planned.subsequents) c)

    -- and runs, where dependencies do
    pub runs_on : config.no_dependencies ≡ false → Runs analysis.table.value.recipes.items config.no_dependencies called rank → (other : ℕ) → Contains (s.planned.priors.now ++ s.planned.subsequents.now) other
        → Runs analysis.table.value.recipes.items config.no_dependencies called other
    runs_on off runs other c =
        further runs
        (subst (λ (b : Bool). Contains (if b then [] else leads_of graph rank) other) (sym (no_stop rank))
        (subst (λ ns. Contains ns other) (sym (get_or_from_slice_get graph rank (needs_of config.no_dependencies s.resolved) [] (mapped (needs_of config.no_dependencies) analysis.table.value.recipes.items rank s.resolved s.here)))
        (subst (λ ns. Contains ns other) (sym row_is) c)))
      where
        graph : List (List ℕ)
        graph = map (needs_of config.no_dependencies) analysis.table.value.recipes.items

        row_is : needs_of config.no_dependencies s.resolved ≡ s.planned.priors.now ++ s.planned.subsequents.now
        row_is = ap (λ (no : Bool). needs_of no s.resolved) off ∙ ap₂ ◌++◌ (sym s.is_planned.priors) (sym s.is_planned.subsequents)
