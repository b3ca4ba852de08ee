-- What stands at the rank of a call that runs: its recipe, by places and by names, and its module.
use Rattle.std.proofs.Common.{◌≡◌, ◌<◌, ◌≤◌, ◌∙◌, sym, ap, subst, refl, ℕ, zero, suc, Bool, true, false, List, [], ◌∷◌, ◌++◌, length, map, Option, Some, None, arith, true≢false}
use Rattle.std.specs.Prelude.{Contains, slice_get, get_or, if◌then◌else◌, bytes_eq}
use Rattle.std.specs.Option.{option_and_then, option_map}
use Rattle.std.proofs.lemmas.List.{length-map}
use Rattle.std.proofs.lemmas.List.Elements.{All-contains}
use Rattle.std.proofs.lemmas.Option.{none-some, same_Some, slice_get_within}
use Rattle.std.proofs.lemmas.Slice.Eq.{bytes_eq-Decides}
use Rattle.just_text.specs.Tokens.{lexeme}
use Rattle.just_text.specs.declared.name.Name.{Name}
use Rattle.just_host.specs.declared.config.Config.{Config}
use Rattle.just_value.specs.declared.positional.Override.{Override}
use Rattle.tree_attributes.specs.Sets.Sets.{shapes_in}
use Rattle.tree_items.specs.Recipes.{recipe_shape}
use Rattle.tree_items.specs.declared.ast.Item.{Item}
use Rattle.tree_items.specs.declared.ast.Item.TheVariants as items
use Rattle.tree_items.specs.declared.recipe.Recipe.{Recipe}
use Rattle.tree_items.specs.declared.recipe.UnresolvedDependency.{UnresolvedDependency}
use Rattle.modules_compilation.specs.Modulepaths.{path_in}
use Rattle.modules_compilation.specs.Places.{is_recipe, item_at}
use Rattle.modules_compilation.specs.declared.compilation.Compilation.{Compilation}
use Rattle.modules_compilation.specs.declared.module_node.ModuleNode.{ModuleNode}
use Rattle.modules_compilation.specs.declared.place.Place.{Place}
use Rattle.evaluate_context.specs.declared.context.ExecutionContext.{ExecutionContext}
use Rattle.resolve_order.specs.Flooded.{further, leads_of, root}
use Rattle.resolve_recipes.specs.Named.{recipe_of, text_at}
use Rattle.resolve_recipes.specs.Nodes.{recipe_at}
use Rattle.resolve_recipes.specs.Nodes as kept_nodes
use Rattle.resolve_analysis.specs.Lists.{kept_by, kept_in}
use Rattle.resolve_analysis.specs.Opening.{Runs, needs_of}
use Rattle.resolve_analysis.specs.declared.analysis.Analysis.{Analysis}
use Rattle.resolve_analysis.specs.declared.recipes.ResolvedRecipe.{ResolvedRecipe}
use Rattle.analyze_calls.specs.Placed.{placed_in, with_context}
use Rattle.analyze_calls.specs.declared.plan.Planned.{Planned}
use Rattle.analyze_calls.specs.declared.plan.Runner.{Runner}
use Rattle.run_tasks.specs.Prepared.Planned.{ArePlanned, IsPlanned, none_left, nowhere, one_more}
use Rattle.meaning_rules.specs.Worlds.Given.{Text, World}
use Rattle.meaning_rules.proofs.Worlds.Places.{contains_at, contains_none, place_of as place_among}
use Rattle.meaning_rules.specs.Worlds.Views.{node_view}
use Rattle.laws_modules.specs.Names.Names.{HasNode, KeepsRecipe}
use Rattle.laws_modules.proofs.Names.Found.{found_at, mapped_at, none_found, there_within}
use Rattle.laws_modules.proofs.Names.Named.{listed, recipes}
use Rattle.laws_modules.proofs.Names.Standing.{text_there}
use Rattle.meaning_rules.specs.Overrides.{overrides_of}
use Rattle.meaning_evaluation.specs.Named.{RecipeName, RecipeRow}
use Rattle.just_meaning.specs.Defining.{named_from}
use Rattle.just_meaning.specs.Opening.{Opened}
use Rattle.just_meaning.specs.Rows.{recipe_row}
use Rattle.laws_runs.specs.Resolved.Definitions.{key_at, node_of, passes, place_of, recipe_in, recipe_named, shape_at}
use Rattle.laws_runs.proofs.Resolved.Own.{places_have_paths}
use Rattle.laws_runs.specs.Settings.Settled.{AllSettle}
use Rattle.laws_runs.proofs.Tables.Before.{before}
use Rattle.laws_printing.specs.Distinct.Distinct.{IsOwned}
use Rattle.laws_runs.specs.Menus.Named.{name_at, name_of}
use Rattle.laws_runs.proofs.Menus.Homes.{home_of, kept_shape}
use Rattle.laws_runs.proofs.Menus.Lists.{one_place}
use Rattle.laws_runs.proofs.Menus.Table.{row_kept}
use Rattle.laws_agreement.specs.Grounds.Alike.{IsOpenAlike}
use Rattle.laws_runs.specs.Running.Steps.{RestsOn}

-- ---- rows of what places need

-- where a row has something, it stands at its place
row_there : (xs : List (List ℕ)) (place other : ℕ) → Contains (get_or xs place []) other → (row : List ℕ) × (slice_get xs place ≡ Some row) × Contains row other
row_there [] zero other c = absurd (contains_none [] other refl c)
row_there [] (suc place) other c = absurd (contains_none [] other refl c)
row_there (x ∷ xs) zero other c = (x, refl, c)
row_there (x ∷ xs) (suc place) other c = row_there xs place other c

pub no_stop : (place : ℕ) → get_or [] place false ≡ false
no_stop zero = refl
no_stop (suc place) = refl

needed : (b : Bool) (recipe : ResolvedRecipe) (other : ℕ) → Contains (needs_of b recipe) other → (b ≡ false) × Contains (recipe.priors.items ++ recipe.subsequents.items) other
needed true recipe other c = absurd (contains_none [] other refl c)
needed false recipe other c = (refl, c)

-- ---- recipes that are planned

-- where each place has a recipe, each is planned
pub planned_there : (compilation : Compilation) (rs : List ResolvedRecipe) (ps : List Planned) → ArePlanned compilation rs ps → ((k : ℕ) (r : ResolvedRecipe) → slice_get rs k ≡ Some r → is_recipe (item_at compilation r.place) ≡ true)
    → (k : ℕ) (r : ResolvedRecipe) → slice_get rs k ≡ Some r → (p : Planned) × (slice_get ps k ≡ Some p) × IsPlanned compilation r p
planned_there compilation _ _ none_left all k r e = absurd (none-some r e)
planned_there compilation (q ∷ rs) _ (nowhere none) all k r e = absurd (true≢false (sym (all 0 q refl) ∙ none))
planned_there compilation (q ∷ rs) (p ∷ ps) (one_more is more) all zero r e = (p, refl, subst (λ x. IsPlanned compilation x p) (same_Some q r e) is)
planned_there compilation (q ∷ rs) (p ∷ ps) (one_more is more) all (suc k) r e = planned_there compilation rs ps more (λ k r e. all (suc k) r e) k r e

-- the item of a recipe
recipe_back : (o : Option Item) (r : Recipe UnresolvedDependency) → kept_nodes.recipe_of o ≡ Some r → is_recipe o ≡ true
recipe_back None r e = absurd (none-some r e)
recipe_back (Some (items.Alias x)) r e = absurd (none-some r e)
recipe_back (Some (items.Assignment x)) r e = absurd (none-some r e)
recipe_back (Some (items.Comment x)) r e = absurd (none-some r e)
recipe_back (Some (items.Function x)) r e = absurd (none-some r e)
recipe_back (Some (items.Import x)) r e = absurd (none-some r e)
recipe_back (Some (items.Module x)) r e = absurd (none-some r e)
recipe_back (Some items.Newline) r e = absurd (none-some r e)
recipe_back (Some (items.Recipe x)) r e = refl
recipe_back (Some (items.Set x)) r e = absurd (none-some r e)
recipe_back (Some (items.Unexport x)) r e = absurd (none-some r e)

-- the recipe of an item
recipe_there : (o : Option Item) (q r : Recipe UnresolvedDependency) → o ≡ Some (items.Recipe q) → kept_nodes.recipe_of o ≡ Some r → q ≡ r
recipe_there o q r e f = same_Some q r (sym (ap kept_nodes.recipe_of e) ∙ f)

module _ (w : World) (compilation : Compilation) (given : List Override) (base : Text) (analysis : Analysis) (settled : AllSettle w (overrides_of given) compilation analysis.values.value.settings.items) (config : Config) (root_key : List ℕ)
    (called : List ℕ) (is_read : ℕ → Bool) (runner : Runner) (opened : List Opened) (rests : RestsOn w compilation given base analysis settled config root_key called is_read runner opened) where
  abbrev pub rows : List ResolvedRecipe
  rows = analysis.table.value.recipes.items

  abbrev pub path : ℕ → List Text
  path k = path_in compilation.modules.items k

  pub reads_many : length compilation.modules.items ≤ length analysis.variables.reads.items
  reads_many =
      let lists : length analysis.variables.lists.items ≡ length compilation.modules.items =
      sym (length-map analysis.variables.lists.items kept_in) ∙ (ap length rests.known.is_known.variables_are.lists ∙ length-map compilation.modules.items (kept_by compilation)) in
      let reads = rests.known.is_known.variables_are.of.reads.many in
      omega (arith, reads, lists)

  -- a call that runs is of a rank in the table
  pub ranked : (place : ℕ) → Runs rows config.no_dependencies called place → place < length rows
  ranked place (root c) = rests.there place c
  ranked other (further {place} r c) =
      let row = row_there (map (needs_of config.no_dependencies) rows) place other (subst (λ (b : Bool). Contains (if b then [] else leads_of (map (needs_of config.no_dependencies) rows) place) other) (no_stop place) c) in
      let m = mapped_at (needs_of config.no_dependencies) rows place row.0 row.1 in
      let n = needed config.no_dependencies m.0 other (subst (λ ns. Contains ns other) (sym m.2) row.2) in
      let lt = before compilation analysis.variables.reads.items analysis.table.value reads_many rests.known.recipes_are place other m.0 m.1 n.1 in
      let within = slice_get_within rows place m.0 m.1 in
      omega (arith, lt, within)

  -- ---- what stands at a rank

  -- the table's recipe of the rank, which is planned, and its module's node, its context, and what it is opened with
  pub record Stands (rank : ℕ) : Type 0 where
    pub resolved : ResolvedRecipe
    pub here : slice_get rows rank ≡ Some resolved
    pub planned : Planned
    pub planned_there : slice_get runner.recipes.now rank ≡ Some planned
    pub is_planned : IsPlanned compilation resolved planned
    pub node : ModuleNode
    pub home : HasNode w compilation resolved.module node
    pub listed : Contains node.recipes.items resolved.place
    pub at : recipe_at compilation resolved.place ≡ Some planned.recipe.now
    pub keeps : KeepsRecipe w compilation node (lexeme planned.recipe.now.name.token) resolved.place
    pub named : resolved.name ≡ planned.recipe.now.name
    pub context : ExecutionContext
    pub context_there : slice_get runner.contexts.now resolved.module ≡ Some context
    pub o : Opened
    pub among : Contains opened o
    pub alike : IsOpenAlike compilation analysis resolved.module context o

  record IsKept (resolved : ResolvedRecipe) : Type 0 where
    pub recipe : Recipe UnresolvedDependency
    pub node : ModuleNode
    pub home : HasNode w compilation resolved.module node
    pub listed : Contains node.recipes.items resolved.place
    pub at : recipe_at compilation resolved.place ≡ Some recipe
    pub keeps : KeepsRecipe w compilation node (lexeme recipe.name.token) resolved.place
    pub named : resolved.name ≡ recipe.name

  is_kept : (rank : ℕ) (resolved : ResolvedRecipe) → slice_get rows rank ≡ Some resolved → IsKept resolved
  is_kept rank resolved here =
      let k = row_kept compilation analysis.variables.reads.items analysis.table.value reads_many rests.known.recipes_are rank resolved here in
      let h = home_of w compilation rests.numbered.of k.0 k.1 in
      let same : k.2.resolved ≡ resolved = same_Some k.2.resolved resolved (sym k.2.here ∙ here) in
      let place : k.0.1 ≡ resolved.place = sym k.2.standing ∙ ap (λ (r : ResolvedRecipe). r.place) same in
      let module_is : k.0.0 ≡ resolved.module = sym k.2.home ∙ ap (λ (r : ResolvedRecipe). r.module) same in
      record {
        recipe = k.0.2;
        node = h.node;
        home = subst (λ m. HasNode w compilation m h.node) module_is h.here;
        listed = subst (Contains h.node.recipes.items) place h.listed;
        at = subst (λ p. recipe_at compilation p ≡ Some k.0.2) place h.there;
        keeps = subst (KeepsRecipe w compilation h.node (lexeme k.0.2.name.token)) place h.keeps;
        named = sym (ap (λ (r : ResolvedRecipe). r.name) same) ∙ k.2.named;
      }

  -- at each rank of the table all of it stands
  pub stands : (rank : ℕ) → rank < length rows → Stands rank
  stands rank lt =
      let r = there_within rows rank lt in
      let k = is_kept rank r.0 r.1 in
      let p = planned_there compilation rows runner.recipes.now rests.planned (λ q x e. let i = is_kept q x e in recipe_back (item_at compilation x.place) i.recipe i.at) rank r.0 r.1 in
      let same : p.0.recipe.now ≡ k.recipe = recipe_there (item_at compilation r.0.place) p.0.recipe.now k.recipe p.2.recipe k.at in
      let within = slice_get_within compilation.modules.items r.0.module k.node k.home in
      let many = rests.contexts.many in
      let c = there_within runner.contexts.now r.0.module (omega (arith, within, many)) in
      let o = rests.contexts.each r.0.module c.0 c.1 in
      record {
        resolved = r.0;
        here = r.1;
        planned = p.0;
        planned_there = p.1;
        is_planned = p.2;
        node = k.node;
        home = k.home;
        listed = k.listed;
        at = k.at ∙ ap (λ x. Some x) (sym same);
        keeps = subst (λ (x : Recipe UnresolvedDependency). KeepsRecipe w compilation k.node (lexeme x.name.token) r.0.place) (sym same) k.keeps;
        named = k.named ∙ ap (λ (x : Recipe UnresolvedDependency). x.name) (sym same);
        context = c.0;
        context_there = c.1;
        o = o.0;
        among = o.1;
        alike = o.2;
      }

  module _ (rank : ℕ) (s : Stands rank) where
    -- its place is in a file of its module
    pub owned : IsOwned compilation s.resolved.place
    owned = record { number = s.resolved.module; node = s.node; here = s.home; from = s.keeps.there.from; to = s.keeps.there.to }

    -- the recipe and its context by places
    pub placed : placed_in runner rank ≡ Some (s.planned, s.context)
    placed =
        ap (with_context runner) s.planned_there
        ∙ ap (λ k. option_map (λ context. (s.planned, context)) (slice_get runner.contexts.now k)) s.is_planned.module_is
        ∙ ap (option_map (λ context. (s.planned, context))) s.context_there

    -- the configuration of its context
    pub configured : (s.context.config.now ≡ config) × (s.context.root.now ≡ root_key)
    configured = All-contains (λ (context : ExecutionContext). (context.config.now ≡ config) × (context.root.now ≡ root_key)) runner.contexts.now s.context rests.configured
        (contains_at runner.contexts.now s.resolved.module s.context s.context_there)

    -- its name
    abbrev pub own_name : List Text → RecipeName
    own_name at = record { path = at; recipe = lexeme s.planned.recipe.now.name.token }

    pub called_so : name_at compilation analysis.table.value rank ≡ own_name (path s.resolved.module)
    called_so = ap (name_of compilation) s.here ∙ ap (λ (n : Name). let r : RecipeName = record { path = path s.resolved.module; recipe = lexeme n.token } in r) s.named

    -- names lead to its module
    pub found : place_of compilation (path s.resolved.module) ≡ Some s.resolved.module
    found = places_have_paths w compilation rests.numbered.of rests.numbered.single s.resolved.module s.node s.home

    pub node_found : node_of compilation (path s.resolved.module) ≡ Some s.node
    node_found = ap (option_and_then (slice_get compilation.modules.items)) found ∙ s.home

    -- the recipe is found by its name
    pub recipe_found : recipe_of compilation (Some s.node) (lexeme s.planned.recipe.now.name.token) ≡ Some s.resolved.place
    recipe_found = by_found (recipe_of compilation (Some s.node) name) refl
      where
        name : Text
        name = lexeme s.planned.recipe.now.name.token

        text : text_at compilation s.resolved.place ≡ name
        text = text_there w compilation (node_view s.node) s.resolved.place s.keeps.key s.keeps.at s.keeps.attributes s.keeps.recipe s.keeps.there ∙ s.keeps.is_named

        names : List Text
        names = (recipes w compilation rests.numbered.of s.resolved.module s.node s.home).names

        name_of_place : (i : ℕ) (p : Place) → slice_get s.node.recipes.items i ≡ Some p → text_at compilation p ≡ name → slice_get names i ≡ Some name
        name_of_place i p at is =
            let lt = slice_get_within s.node.recipes.items i p at in
            let many = (recipes w compilation rests.numbered.of s.resolved.module s.node s.home).are.many in
            let n = there_within names i (omega (arith, lt, many)) in
            let l = listed w compilation rests.numbered.of s.resolved.module s.node s.home i n.0 p n.1 at in
            n.1 ∙ ap (λ t. Some t) (sym l.1 ∙ is)

        by_found : (o : Option Place) → recipe_of compilation (Some s.node) name ≡ o → recipe_of compilation (Some s.node) name ≡ Some s.resolved.place
        by_found (Some p) e =
            let f = found_at (λ q. bytes_eq (text_at compilation q) name) s.node.recipes.items p e in
            let i = place_among s.node.recipes.items s.resolved.place s.listed in
            let at = name_of_place i.0 s.resolved.place i.1 text in
            let at' = name_of_place f.0 p f.1 ((bytes_eq-Decides (text_at compilation p) name).0 f.2) in
            let same : i.0 ≡ f.0 = one_place names i.0 f.0 name (recipes w compilation rests.numbered.of s.resolved.module s.node s.home).are.sorted at at' in
            e ∙ sym f.1 ∙ ap (slice_get s.node.recipes.items) (sym same) ∙ i.1
        by_found None e =
            let i = place_among s.node.recipes.items s.resolved.place s.listed in
            absurd (true≢false (sym ((bytes_eq-Decides (text_at compilation s.resolved.place) name).1 text) ∙ none_found (λ q. bytes_eq (text_at compilation q) name) s.node.recipes.items e i.0 s.resolved.place i.1))

    -- its row by its name
    abbrev pub own_row : RecipeRow
    own_row = recipe_row w.expansion (key_at compilation s.resolved.place) (passes compilation (Some s.node)) (λ dependency. named_from (path s.resolved.module) dependency.path) (shapes_in s.planned.recipe.now.attributes)
        (recipe_shape s.planned.recipe.now)

    pub row_is : recipe_named compilation w.expansion (own_name (path s.resolved.module)) ≡ Some own_row
    row_is =
        let from : Option ModuleNode → Place → Option RecipeRow = λ n p. recipe_in w.expansion (path s.resolved.module) (passes compilation n) (key_at compilation p) (shape_at compilation p) in
        ap (λ n. option_and_then (from n) (recipe_of compilation n (lexeme s.planned.recipe.now.name.token))) node_found
        ∙ ap (option_and_then (from (Some s.node))) recipe_found
        ∙ ap (recipe_in w.expansion (path s.resolved.module) (passes compilation (Some s.node)) (key_at compilation s.resolved.place))
        (kept_shape w compilation rests.numbered.of s.node (lexeme s.planned.recipe.now.name.token) s.resolved.place s.planned.recipe.now s.keeps s.at)
