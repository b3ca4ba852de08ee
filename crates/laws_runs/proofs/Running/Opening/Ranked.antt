-- Recipes of the table: their names, their rows, and what they depend on and read.
use Rattle.std.proofs.Common.{◌≡◌, inl, inr, refl, sym, ◌∙◌, ap, ap₂, subst, Bool, true, false, cond, ◌||◌, drop, take, List, [], ◌∷◌, ◌++◌, map, length, Option, Some, None, Result, Ok, Err, ℕ, zero, suc, ◌≤◌, ◌<◌, arith, eqb}
use Rattle.std.specs.Prelude.{Contains, codes, slice_get}
use Rattle.std.specs.List.{list_any}
use Rattle.std.specs.Option.{option_map, unwrap_or}
use Rattle.std.proofs.lemmas.Bool.Decides.{eqb_tells, leb_tells}
use Rattle.std.proofs.lemmas.List.{map-append, take-append-drop}
use Rattle.std.proofs.lemmas.List.Elements.{Contains-append_cases, Contains-append_left, Contains-append_right}
use Rattle.std.proofs.lemmas.Map.Steps.{le-length_from_below}
use Rattle.std.proofs.lemmas.Option.{none-some, same_Some, slice_get-map, slice_get_within}
use Rattle.just_text.specs.Tokens.{lexeme}
use Rattle.just_text.specs.declared.name.Name.{Name}
use Rattle.tree_attributes.specs.Sets.Sets.{shapes_in}
use Rattle.tree_items.specs.Files.{recipe_item}
use Rattle.tree_items.specs.Recipes.{DependencyShape, RecipeShape, dependency_shape, recipe_shape}
use Rattle.tree_items.specs.declared.recipe.UnresolvedDependency.{UnresolvedDependency}
use Rattle.modules_compilation.specs.Modulepaths.{path_in}
use Rattle.modules_compilation.specs.declared.compilation.Compilation.{Compilation}
use Rattle.resolve_order.specs.Order.{IsOrder}
use Rattle.resolve_references.specs.ItemReferences.{references_of_recipe}
use Rattle.resolve_references.specs.Places.{places_of}
use Rattle.resolve_references.specs.declared.read_fault.ReadFault.{ReadFault}
use Rattle.resolve_recipes.specs.Nodes.{Kept, all_kept, view}
use Rattle.resolve_recipes.specs.Ranks.{AreRanks, last_rank}
use Rattle.resolve_recipes.specs.Resolving.{all_needs, recipe_needs}
use Rattle.resolve_recipes.specs.declared.recipe_resolver.RecipeResolver.{RecipeResolver}
use Rattle.resolve_analysis.specs.declared.module_reads.ModuleReads.{ModuleReads}
use Rattle.resolve_analysis.specs.declared.recipes.RecipeTable.{RecipeTable}
use Rattle.resolve_analysis.specs.declared.recipes.ResolvedRecipe.{ResolvedRecipe}
use Rattle.just_resolve.specs.Recipes.{Resolved, ranks_at, resolved, resolved_at, resolved_recipe, resolved_with, seen, with_reads}
use Rattle.just_resolve.specs.Table.{IsTable}
use Rattle.just_resolve.proofs.RefusedRecipes.{meant_of, resolver_of}
use Rattle.meaning_rules.specs.Worlds.Compiled.{HasPath}
use Rattle.meaning_rules.specs.Worlds.Given.{Overrides, Text, World}
use Rattle.meaning_rules.specs.Worlds.Keeping.{KeepsAt, a_recipe}
use Rattle.meaning_rules.proofs.Worlds.Places.{contains_at}
use Rattle.laws_modules.specs.Names.Meant.{IsMeant}
use Rattle.laws_modules.specs.Names.Names.{nodes, views}
use Rattle.laws_modules.proofs.Names.Modules.{module_at}
use Rattle.laws_names.specs.Reading.Meant.{IsNumberedWorld}
use Rattle.laws_names.proofs.Reading.Lists.{contains_map, contains_mapped}
use Rattle.laws_names.specs.Depending.Meant.{IsResolverFor}
use Rattle.laws_names.proofs.Depending.Led.{is_found}
use Rattle.laws_names.proofs.Depending.Lists.{given_there}
use Rattle.laws_names.proofs.Depending.Needing.{needs_back, needs_given, row_there}
use Rattle.laws_names.proofs.Depending.Outcomes.{IsFound}
use Rattle.laws_names.proofs.Depending.Standing.{StandsIn, stands_in}
use Rattle.laws_names.proofs.Depending.Told.{listed_back}
use Rattle.laws_runs.proofs.Tables.Before.{all_give, needed_rank}
use Rattle.laws_runs.proofs.Tables.Gathered.{comes_of}
use Rattle.laws_runs.proofs.Tables.Kept.{as_many}
use Rattle.meaning_evaluation.specs.Named.{DependencyRow, RecipeName, RecipeRow}
use Rattle.just_meaning.specs.Defining.{IsRecipeRow, named_from}
use Rattle.just_meaning.specs.Rows.{recipe_row}
use Rattle.laws_runs.specs.Resolved.Definitions.{passes, recipe_named}
use Rattle.laws_runs.proofs.Resolved.Own.{has_own_path, path_is}
use Rattle.laws_runs.proofs.Resolved.Recipes.{recipes_stand}
use Rattle.laws_runs.proofs.Resolved.Settings.{is_on}
use Rattle.laws_runs.specs.Menus.Named.{name_at, name_of}
use Rattle.laws_runs.proofs.Menus.Lists.{before_behind, last_behind}
use Rattle.laws_runs.proofs.Menus.Table.{ranked_row}

-- ---- ranks

any_here : (q x : ℕ) (b : Bool) → x ≡ q → (eqb q x || b) ≡ true
any_here q x b same = elim (eqb_tells q x) [
  | inl p ↦ ap (λ t. t || b) p.0
  | inr p ↦ absurd (p.1 (sym same))
]

any_later : (a b : Bool) → b ≡ true → (a || b) ≡ true
any_later true b e = refl
any_later false b e = e

any_at : (q : ℕ) (xs : List ℕ) (k : ℕ) → slice_get xs k ≡ Some q → list_any (eqb q) xs ≡ true
any_at q [] k e = absurd (none-some q e)
any_at q (x ∷ xs) zero e = any_here q x (list_any (eqb q) xs) (same_Some x q e)
any_at q (x ∷ xs) (suc k) e = any_later (eqb q x) (list_any (eqb q) xs) (any_at q xs k e)

-- an order has as many places as there are things
long_enough : (needs : List (List ℕ)) (order : List ℕ) → IsOrder needs order → length needs ≤ length order
long_enough needs order is = le-length_from_below order (length needs) (λ q lt. let before = is.complete q lt in any_at q order before.at before.found)

-- a thing of the order has a rank
has_rank : (order ranks : List ℕ) (thing : ℕ) → AreRanks order ranks → thing < length order → (rank : ℕ) × (slice_get ranks thing ≡ Some rank)
has_rank order ranks thing are lt = elim (leb_tells (suc thing) (length order)) [
  | inl p ↦ (unwrap_or (last_rank 0 order thing) 0, are thing ∙ ap (λ b. cond b (Some (unwrap_or (last_rank 0 order thing) 0)) None) p.0)
  | inr p ↦ let more = p.1 in absurd (omega (arith, lt, more))
]

-- ---- names of rows

-- the names in rows of dependencies
mapped_twice : (named : DependencyShape → RecipeName) (ds : List DependencyShape) → map (λ (row : DependencyRow). row.on) (map (λ d. let row : DependencyRow = record { on = named d; arguments = d.arguments } in row) ds) ≡ map named ds
mapped_twice named [] = refl
mapped_twice named (d ∷ ds) = ap (λ l. named d ∷ l) (mapped_twice named ds)

-- a recipe that is kept, by the path of its module and its name
abbrev pub kept_name : Compilation → Kept → RecipeName
kept_name compilation kept = record { path = path_in compilation.modules.items kept.0; recipe = lexeme kept.2.name.token }

module _ (w : World) (compilation : Compilation) (n : IsNumberedWorld w compilation) (reads : List ModuleReads) (table : RecipeTable) (many : length compilation.modules.items ≤ length reads) (t : IsTable compilation reads table) where
  abbrev pub meant : IsMeant w compilation
  meant = meant_of w compilation n

  abbrev pub resolver : RecipeResolver
  resolver = t.is_for.resolver

  abbrev fits : IsResolverFor compilation resolver
  fits = resolver_of compilation t.nodes resolver t.kept t.is_for.resolves

  abbrev recipes : List Kept
  recipes = map view t.nodes

  abbrev needs : List (List ℕ)
  needs = t.is_for.sorted.needs

  abbrev ranks : List ℕ
  ranks = t.is_for.sorted.is_in.ranks

  needed : all_needs compilation resolver (all_kept compilation) ≡ Ok needs
  needed = subst (λ ks. all_needs compilation resolver ks ≡ Ok needs) t.kept t.is_for.sorted.needed

  -- the recipe at a rank of the table is one that is kept, with the row of its needs and the places that it reads
  pub record IsRanked (recipe : ResolvedRecipe) : Type 0 where
    pub kept : Kept
    pub q : ℕ
    pub at : slice_get (all_kept compilation) q ≡ Some kept
    pub row : List ℕ
    pub needs_there : slice_get needs q ≡ Some row
    pub home : ModuleReads
    pub home_there : slice_get reads kept.0 ≡ Some home
    pub reads_are : places_of home.resolver (references_of_recipe kept.2) ≡ Ok recipe.reads.items
    pub seen_is : seen recipe ≡ resolved_recipe ranks kept row recipe.reads.items

  module _ (recipe : ResolvedRecipe) (q : ℕ) where
    by_reads : (kept : Kept) (row : List ℕ) (home : ModuleReads) → slice_get recipes q ≡ Some kept → slice_get needs q ≡ Some row → slice_get reads kept.0 ≡ Some home
        → (r : Result (List ℕ) ReadFault) → places_of home.resolver (references_of_recipe kept.2) ≡ r → with_reads ranks kept row r ≡ Ok (seen recipe) → IsRanked recipe
    by_reads kept row home at needs_at home_at (Ok places) is e =
        let whole : resolved_recipe ranks kept row places ≡ seen recipe = cc e in
        let same : places ≡ recipe.reads.items = ap (λ (r : Resolved). r.reads) whole in
        record {
          kept = kept;
          q = q;
          at = subst (λ ks. slice_get ks q ≡ Some kept) t.kept at;
          row = row;
          needs_there = needs_at;
          home = home;
          home_there = home_at;
          reads_are = is ∙ ap (λ ps. Ok ps) same;
          seen_is = sym whole ∙ ap (resolved_recipe ranks kept row) same;
        }
    by_reads kept row home at needs_at home_at (Err fault) is e = absurd (cc e)

    by_home : (kept : Kept) (row : List ℕ) (home : Option ModuleReads) → slice_get recipes q ≡ Some kept → slice_get needs q ≡ Some row → slice_get reads kept.0 ≡ home
        → option_map (λ (h : ModuleReads). resolved h.resolver ranks kept row) home ≡ Some (Ok (seen recipe)) → IsRanked recipe
    by_home kept row None at needs_at home_at e = absurd (none-some (Ok (seen recipe)) e)
    by_home kept row (Some home) at needs_at home_at e =
        by_reads kept row home at needs_at home_at (places_of home.resolver (references_of_recipe kept.2)) refl (same_Some (resolved home.resolver ranks kept row) (Ok (seen recipe)) e)

    by_row : (kept : Option Kept) (row : Option (List ℕ)) → slice_get recipes q ≡ kept → slice_get needs q ≡ row → resolved_with reads ranks kept row ≡ Some (Ok (seen recipe)) → IsRanked recipe
    by_row None row at needs_at e = absurd (none-some (Ok (seen recipe)) e)
    by_row (Some kept) None at needs_at e = absurd (none-some (Ok (seen recipe)) e)
    by_row (Some kept) (Some row) at needs_at e = by_home kept row (slice_get reads kept.0) at needs_at refl e

  -- each recipe of the table is
  pub at_rank : (rank : ℕ) (recipe : ResolvedRecipe) → slice_get table.recipes.items rank ≡ Some recipe → IsRanked recipe
  at_rank rank recipe here =
      let sorted = t.is_for.sorted in
      let inside = sorted.is_in in
      let rows : length sorted.needs ≡ length recipes = as_many compilation t.is_for.resolver recipes sorted.needs sorted.needed in
      let a : slice_get inside.all rank ≡ Some (seen recipe) = ap (λ found. slice_get found rank) (sym inside.is_of.recipes_are) ∙ slice_get-map seen table.recipes.items rank ∙ ap (option_map seen) here in
      let comes = comes_of (resolved_at recipes reads needs inside.ranks) sorted.order inside.all (all_give compilation reads recipes needs inside.ranks sorted.order many rows t.kept sorted.ordered.within) inside.resolved rank (seen recipe) a in
      by_row recipe comes.x (slice_get recipes comes.x) (slice_get needs comes.x) refl refl comes.gives

  -- ---- names

  module _ (rank : ℕ) (recipe : ResolvedRecipe) (here : slice_get table.recipes.items rank ≡ Some recipe) where
    abbrev pub r : IsRanked recipe
    r = at_rank rank recipe here

    pub home_is : recipe.module ≡ r.kept.0
    home_is = ap (λ (x : Resolved). x.home) r.seen_is

    -- its name by the path of its module
    pub called_so : name_at compilation table rank ≡ kept_name compilation r.kept
    called_so =
        ap (name_of compilation) here
        ∙ ap₂ (λ (m : ℕ) (name : Name). let x : RecipeName = record { path = path_in compilation.modules.items m; recipe = lexeme name.token } in x) home_is (ap (λ (x : Resolved). x.name) r.seen_is)

    pub stands : StandsIn w compilation meant r.kept
    stands = stands_in w compilation meant r.kept (contains_at (all_kept compilation) r.q r.kept r.at)

    abbrev pub path : List Text
    path = path_in compilation.modules.items r.kept.0

    pub has_path : HasPath w (views w compilation) (nodes w compilation) r.kept.0 path
    has_path = has_own_path w compilation n.of r.kept.0 stands.node stands.here

    abbrev pub own_name : DependencyShape → RecipeName
    own_name d = named_from path d.path

    -- its row
    pub record HasRow : Type 0 where
      pub key : Text
      pub passing : Bool
      pub is : recipe_named compilation w.expansion (kept_name compilation r.kept) ≡ Some (recipe_row w.expansion key passing own_name (shapes_in r.kept.2.attributes) (recipe_shape r.kept.2))

    pub has_row : (o : Overrides) → HasRow
    has_row o =
        let s = stands in
        let row : RecipeRow = recipe_row w.expansion s.keeps.key (passes compilation (Some s.node)) own_name (shapes_in r.kept.2.attributes) (recipe_shape r.kept.2) in
        let is : IsRecipeRow w o (kept_name compilation r.kept) row = record {
          own = s.node.source.now;
          is = module_at w compilation n.of r.kept.0 s.node path s.here has_path;
          key = s.keeps.key;
          place = s.keeps.at;
          attributes = shapes_in r.kept.2.attributes;
          shape = recipe_shape r.kept.2;
          kept = subst (KeepsAt w s.node.source.now a_recipe (lexeme r.kept.2.name.token) s.keeps.key s.keeps.at) (ap₂ recipe_item s.attributes s.shape) s.keeps.keeps;
          passes = passes compilation (Some s.node);
          passing = is_on w compilation n.of n.settings r.kept.0 s.node s.here (codes "positional-arguments");
          says = refl;
        } in
        record {
          key = s.keeps.key;
          passing = passes compilation (Some s.node);
          is = (recipes_stand w compilation (record { of = n.of; single = n.single; settings = n.settings }) o (kept_name compilation r.kept) row).1 is;
        }

    -- ---- what it depends on

    abbrev dependencies : List UnresolvedDependency
    dependencies = r.kept.2.priors.items ++ r.kept.2.subsequents.items

    row_is : recipe_needs compilation resolver r.kept ≡ Ok r.row
    row_is =
        let there = row_there compilation resolver (all_kept compilation) needs needed r.q r.kept r.at in
        there.2 ∙ ap (λ xs. Ok xs) (same_Some there.0 r.row (sym there.1 ∙ r.needs_there))

    abbrev Found : UnresolvedDependency → ℕ → Type 0
    Found d need = IsFound w compilation resolver meant fits r.kept.0 stands.node stands.here d need

    -- the recipe that is found has the name that the dependency's path means
    found_name : (d : UnresolvedDependency) (need : ℕ) (f : Found d need) → own_name (dependency_shape d) ≡ kept_name compilation f.led.kept
    found_name d need f =
        let l = f.led.leads in
        let below : path_in compilation.modules.items f.led.kept.0 ≡ path ++ l.modules = path_is w compilation n.of f.led.kept.0 (path ++ l.modules) (l.leads.below path has_path) in
        let named : l.name ≡ lexeme f.led.kept.2.name.token = sym l.keeps.is_named ∙ ap (λ (x : RecipeShape). x.name) f.led.shape in
        ap (named_from path) l.whole
        ∙ ap₂ (λ before last. let x : RecipeName = record { path = path ++ before; recipe = last } in x) (before_behind l.modules l.name) (last_behind l.modules l.name)
        ∙ ap₂ (λ at name. let x : RecipeName = record { path = at; recipe = name } in x) (sym below) named

    -- and the table has it at the rank of its place
    name_ranked : (need rank' : ℕ) (kept : Kept) → slice_get (all_kept compilation) need ≡ Some kept → slice_get ranks need ≡ Some rank'
        → (x : ResolvedRecipe) × (slice_get table.recipes.items rank' ≡ Some x) × (name_at compilation table rank' ≡ kept_name compilation kept)
    name_ranked need rank' kept at ranked =
        let row = ranked_row compilation reads table many t need rank' kept (subst (λ ks. slice_get ks need ≡ Some kept) (sym t.kept) at) ranked in (
          row.resolved,
          row.here,
          ap (name_of compilation) row.here
              ∙ ap₂ (λ (m : ℕ) (name : Name). let x : RecipeName = record { path = path_in compilation.modules.items m; recipe = lexeme name.token } in x) row.home row.named,
        )

    -- the names of what its row depends on
    abbrev pub depended : List RecipeName
    depended =
        map (λ (row : DependencyRow). row.on)
        (map (λ d. let row : DependencyRow = record { on = own_name d; arguments = d.arguments } in row) (recipe_shape r.kept.2).priors
        ++ map (λ d. let row : DependencyRow = record { on = own_name d; arguments = d.arguments } in row) (recipe_shape r.kept.2).subsequents)

    depended_are : depended ≡ map own_name ((recipe_shape r.kept.2).priors ++ (recipe_shape r.kept.2).subsequents)
    depended_are =
        let mk : DependencyShape → DependencyRow = λ d. record { on = own_name d; arguments = d.arguments } in
        map-append (λ (row : DependencyRow). row.on) (map mk (recipe_shape r.kept.2).priors) (map mk (recipe_shape r.kept.2).subsequents)
        ∙ ap₂ (λ a b. a ++ b) (mapped_twice own_name (recipe_shape r.kept.2).priors) (mapped_twice own_name (recipe_shape r.kept.2).subsequents)
        ∙ sym (map-append own_name (recipe_shape r.kept.2).priors (recipe_shape r.kept.2).subsequents)

    shape_listed : (d : UnresolvedDependency) → Contains dependencies d → Contains ((recipe_shape r.kept.2).priors ++ (recipe_shape r.kept.2).subsequents) (dependency_shape d)
    shape_listed d c = subst (λ ds. Contains ds (dependency_shape d)) (map-append dependency_shape r.kept.2.priors.items r.kept.2.subsequents.items) (contains_map dependency_shape dependencies d c)

    abbrev shapes : List DependencyShape
    shapes = (recipe_shape r.kept.2).priors ++ (recipe_shape r.kept.2).subsequents

    -- a dependency that is found at a place is named with the name of the place's rank
    name_listed : (other need : ℕ) (d : UnresolvedDependency) → Contains dependencies d → Found d need → slice_get ranks need ≡ Some other → Contains depended (name_at compilation table other)
    name_listed other need d listed f is =
        let name = name_ranked need other f.led.kept f.led.here is in
        subst (λ ns. Contains ns (name_at compilation table other)) (sym depended_are)
        (subst (Contains (map own_name shapes)) (found_name d need f ∙ sym name.2) (contains_map own_name shapes (dependency_shape d) (shape_listed d listed)))

    need_named : (other need : ℕ) → Contains r.row need → slice_get ranks need ≡ Some other → Contains depended (name_at compilation table other)
    need_named other need c is =
        let b = needs_back w compilation resolver meant fits r.kept.0 stands.node stands.here r.kept.2.name dependencies r.row row_is need c in
        name_listed other need b.0 b.1 (is_found w compilation resolver meant fits r.kept.0 stands.node stands.here b.0 need b.2) is

    -- a rank that it has is that of a recipe that its row names
    pub depends_on : (other : ℕ) → Contains (recipe.priors.items ++ recipe.subsequents.items) other → Contains depended (name_at compilation table other)
    depends_on other c =
        let ranked = needed_rank needs ranks r.q other (seen recipe)
        (record { row = r.row; here = r.needs_there; count = length r.kept.2.priors.items; priors = ap (λ (x : Resolved). x.priors) r.seen_is; subsequents = ap (λ (x : Resolved). x.subsequents) r.seen_is }) c in
        need_named other ranked.0 ranked.1 ranked.2

    -- the recipe of a name has its rank in the table, and this recipe has the rank
    pub record HasRank (x : RecipeName) : Type 0 where
      pub other : ℕ
      pub found : ResolvedRecipe
      pub there : slice_get table.recipes.items other ≡ Some found
      pub named : name_at compilation table other ≡ x
      pub listed : Contains (recipe.priors.items ++ recipe.subsequents.items) other

    -- a rank of what it needs is one that it has
    rank_listed : (need rank' : ℕ) → Contains r.row need → slice_get ranks need ≡ Some rank' → Contains (recipe.priors.items ++ recipe.subsequents.items) rank'
    rank_listed need rank' c e =
        let count = length r.kept.2.priors.items in
        let priors : recipe.priors.items ≡ ranks_at ranks (take count r.row) = ap (λ (x : Resolved). x.priors) r.seen_is in
        let subsequents : recipe.subsequents.items ≡ ranks_at ranks (drop count r.row) = ap (λ (x : Resolved). x.subsequents) r.seen_is in
        elim (Contains-append_cases (take count r.row) (drop count r.row) need (subst (λ xs. Contains xs need) (sym (take-append-drop count r.row)) c)) [
          | inl d ↦ Contains-append_left recipe.priors.items recipe.subsequents.items rank' (subst (λ xs. Contains xs rank') (sym priors) (given_there (slice_get ranks) (take count r.row) need rank' d e))
          | inr d ↦ Contains-append_right recipe.priors.items recipe.subsequents.items rank' (subst (λ xs. Contains xs rank') (sym subsequents) (given_there (slice_get ranks) (drop count r.row) need rank' d e))
        ]

    need_ranked : (x : RecipeName) (d : UnresolvedDependency) → own_name (dependency_shape d) ≡ x → (need : ℕ) → Contains r.row need → Found d need → HasRank x
    need_ranked x d same need c f =
        let lt = slice_get_within (all_kept compilation) need f.led.kept f.led.here in
        let rows : length needs ≡ length (all_kept compilation) = as_many compilation resolver (all_kept compilation) needs needed in
        let enough = long_enough needs t.is_for.sorted.order t.is_for.sorted.ordered in
        let h = has_rank t.is_for.sorted.order ranks need t.is_for.sorted.is_in.ranked (omega (arith, lt, rows, enough)) in
        let name = name_ranked need h.0 f.led.kept f.led.here h.1 in
        record { other = h.0; found = name.0; there = name.1; named = name.2 ∙ sym (found_name d need f) ∙ same; listed = rank_listed need h.0 c h.1 }

    -- what its row names has a rank that it has
    pub named_rank : (x : RecipeName) → Contains depended x → HasRank x
    named_rank x c =
        let m = contains_mapped own_name shapes x (subst (λ ns. Contains ns x) depended_are c) in
        let b = listed_back r.kept.2 m.0 m.1 in
        let g = needs_given w compilation resolver meant fits r.kept.0 stands.node stands.here r.kept.2.name dependencies r.row row_is b.0 b.1 in
        need_ranked x b.0 (ap own_name b.2 ∙ m.2) g.0 g.2 (is_found w compilation resolver meant fits r.kept.0 stands.node stands.here b.0 g.0 g.1)
