-- What is steady by places is what is steady by names.
use Rattle.std.proofs.Common.{◌≡◌, refl, sym, ◌∙◌, ap, ap₂, subst, Bool, List, [], map, length, Option, Some, None, ℕ, ◌≤◌, arith}
use Rattle.std.specs.Prelude.{Contains, codes, slice_get}
use Rattle.std.specs.List.{filter_map}
use Rattle.std.specs.Option.{option_and_then, option_map}
use Rattle.std.proofs.lemmas.List.{length-map}
use Rattle.std.proofs.lemmas.Option.{none-some, same_Some, slice_get-map, slice_get_within}
use Rattle.just_text.specs.Tokens.{lexeme}
use Rattle.tree_expressions.specs.Shape.{Shape, shape_of}
use Rattle.tree_expressions.specs.declared.expression.Expression.{Expression}
use Rattle.tree_attributes.specs.Sets.Sets.{shapes_in}
use Rattle.tree_items.specs.Files.{ItemShape, item_shape, recipe_item}
use Rattle.tree_items.specs.Recipes.{DependencyShape, recipe_shape}
use Rattle.tree_items.specs.declared.ast.Item.{Item}
use Rattle.tree_items.specs.declared.ast.Item.TheVariants.{Alias, Assignment, Comment, Function, Import, Module, Newline, Recipe, Set, Unexport}
use Rattle.tree_items.specs.declared.recipe.Recipe.{Recipe as RecipeTree}
use Rattle.tree_items.specs.declared.recipe.UnresolvedDependency.{UnresolvedDependency}
use Rattle.parse_attributed_items.specs.Fitting.{repeated}
use Rattle.evaluate_context.specs.declared.settings.Settings.{Settings}
use Rattle.just_value.specs.declared.positional.Override.{Override}
use Rattle.modules_compilation.specs.Modulepaths.{path_in}
use Rattle.modules_compilation.specs.Places.{item_at}
use Rattle.modules_compilation.specs.declared.compilation.Compilation.{Compilation}
use Rattle.modules_compilation.specs.declared.module_node.ModuleNode.{ModuleNode}
use Rattle.modules_compilation.specs.declared.place.Place.{Place}
use Rattle.resolve_recipes.specs.Named.{recipe_of}
use Rattle.resolve_recipes.specs.Nodes.{Kept, all_kept, recipe_at}
use Rattle.resolve_recipes.specs.Nodes as nodes_of
use Rattle.resolve_analysis.specs.Lists.{functions_at as trees_at, functions_in, kept_by, kept_in}
use Rattle.resolve_analysis.specs.Lists as lists_of
use Rattle.resolve_analysis.specs.declared.analysis.Analysis.{Analysis}
use Rattle.resolve_analysis.specs.declared.module_lists.ModuleLists.{ModuleLists}
use Rattle.resolve_analysis.specs.declared.recipes.ResolvedRecipe.{ResolvedRecipe}
use Rattle.just_resolve.specs.Analysis.{IsAnalysis}
use Rattle.just_resolve.specs.Rules.{IsResolvable}
use Rattle.just_resolve.proofs.RefusedRecipes.{meant_of}
use Rattle.justfile_analyzer.specs.Steady.{HasValue, ModuleAsks, first_at, first_if_there, first_of_recipe}
use Rattle.meaning_rules.specs.Worlds.Compiled.{HasPath}
use Rattle.meaning_rules.specs.Worlds.Given.{Given, Text, World}
use Rattle.meaning_rules.specs.Worlds.Keeping.{KeepsAt, a_recipe}
use Rattle.meaning_rules.specs.Worlds.Standing.{StandsFor}
use Rattle.meaning_rules.proofs.Worlds.Places.{contains_at, contains_none, place_of as place_in_list}
use Rattle.meaning_rules.specs.Worlds.Views.{name_text}
use Rattle.laws_modules.specs.Names.Meant.{IsMeant}
use Rattle.laws_modules.specs.Names.Names.{HasNode, nodes, views}
use Rattle.laws_modules.proofs.Names.Found.{found_at, there_within}
use Rattle.laws_modules.proofs.Names.Modules.{module_at}
use Rattle.meaning_rules.specs.Overrides.{overrides_of}
use Rattle.laws_names.specs.Reading.Meant.{IsNumberedWorld}
use Rattle.laws_names.proofs.Reading.Lists.{contained_flat, contains_flat}
use Rattle.laws_names.proofs.Depending.Kept.{is_kept}
use Rattle.laws_names.proofs.Depending.Kept as nodes_kept
use Rattle.laws_names.proofs.Depending.Standing.{StandsIn, has_options, stands_in}
use Rattle.meaning_evaluation.specs.Named.{Definitions, ModuleRow, ParameterRow, RecipeName, RecipeRow}
use Rattle.just_meaning.specs.Defining.{IsRecipeRow, named_from}
use Rattle.just_meaning.specs.Reading.{AsksIn}
use Rattle.just_meaning.specs.Rows.{module_row, recipe_row}
use Rattle.just_meaning.specs.Steady.{AreSteady, EvaluatesFirst}
use Rattle.laws_runs.specs.Resolved.Definitions.{definitions_of, is_root, key_at, node_of, passes, place_of, recipe_in, row_of, rows_of, sets_of, shape_at}
use Rattle.laws_runs.proofs.Resolved.Leading.{leads_to, path_of}
use Rattle.laws_runs.proofs.Resolved.Own.{has_own_path}
use Rattle.laws_runs.proofs.Resolved.Recipes.{recipes_stand}
use Rattle.laws_runs.proofs.Resolved.Settings.{is_on}
use Rattle.laws_runs.specs.Settings.Settled.{AllSettle}
use Rattle.laws_runs.proofs.Menus.Table.{placed_row, row_kept}
use Rattle.laws_runs.proofs.Running.Opening.Written.{attributes_stand_once}
use Rattle.laws_runs.specs.Steady.Stands.{IsSteadyAt, StandsAlike}
use Rattle.laws_runs.proofs.Steady.Asked.{asks_named, asks_placed}
use Rattle.laws_runs.proofs.Steady.Asked as asked
use Rattle.laws_runs.proofs.Steady.Firsts.{first_named, first_placed, unvalued_row, unvalued_tree}

-- ---- recipes of items

module _ (w : World) (path : List Text) (passing : Bool) (key : Text) where
  abbrev named : DependencyShape → RecipeName
  named dependency = named_from path dependency.path

  abbrev row_in : Option ItemShape → Option RecipeRow
  row_in shape = recipe_in w.expansion path passing key shape

  abbrev row_with : RecipeTree UnresolvedDependency → RecipeRow
  row_with recipe = recipe_row w.expansion key passing named (shapes_in recipe.attributes) (recipe_shape recipe)

  -- an item with the row of a recipe is one
  row_back : (o : Option Item) (row : RecipeRow) → row_in (option_map item_shape o) ≡ Some row → (recipe : RecipeTree UnresolvedDependency) × (o ≡ Some (Recipe recipe)) × (row ≡ row_with recipe)
  row_back None row e = absurd (none-some row e)
  row_back (Some (Alias x)) row e = absurd (none-some row e)
  row_back (Some (Assignment x)) row e = absurd (none-some row e)
  row_back (Some (Comment x)) row e = absurd (none-some row e)
  row_back (Some (Function x)) row e = absurd (none-some row e)
  row_back (Some (Import x)) row e = absurd (none-some row e)
  row_back (Some (Module x)) row e = absurd (none-some row e)
  row_back (Some Newline) row e = absurd (none-some row e)
  row_back (Some (Recipe x)) row e = (x, refl, sym (same_Some (row_with x) row e))
  row_back (Some (Set x)) row e = absurd (none-some row e)
  row_back (Some (Unexport x)) row e = absurd (none-some row e)

-- an option that leads on is one
module _ {X Y : Type 0} (f : X → Option Y) where
  led : (o : Option X) (y : Y) → option_and_then f o ≡ Some y → (x : X) × (o ≡ Some x) × (f x ≡ Some y)
  led None y e = absurd (none-some y e)
  led (Some x) y e = (x, refl, e)

module _ (w : World) (compilation : Compilation) (resolvable : IsResolvable w compilation) (given : List Override) (base working : Text) (analysis : Analysis) (known : IsAnalysis compilation base given analysis)
    (settled : AllSettle w (overrides_of given) compilation analysis.values.value.settings.items) where
  abbrev n : IsNumberedWorld w compilation
  n = resolvable.numbered

  abbrev meant : IsMeant w compilation
  meant = meant_of w compilation n

  abbrev defined : Definitions
  defined = definitions_of compilation w.expansion (overrides_of given) settled.settle base working

  abbrev all_lists : List ModuleLists
  all_lists = analysis.variables.lists.items

  abbrev all_settings : List Settings
  all_settings = analysis.values.value.settings.items

  as_many : length all_lists ≡ length compilation.modules.items
  as_many = sym (length-map all_lists kept_in) ∙ (ap length known.is_known.variables_are.lists ∙ length-map compilation.modules.items (kept_by compilation))

  reads_many : length compilation.modules.items ≤ length analysis.variables.reads.items
  reads_many =
      let reads = known.is_known.variables_are.of.reads.many in
      let lists = as_many in omega (arith, reads, lists)

  settings_many : length all_settings ≡ length compilation.modules.items
  settings_many = known.is_known.values_are.settings.settled.many

  -- ---- modules

  -- what a module keeps, and its settings
  record IsHome (k : ℕ) (node : ModuleNode) : Type 0 where
    pub kept : ModuleLists
    pub keeps : slice_get all_lists k ≡ Some kept
    pub own : Settings
    pub set : slice_get all_settings k ≡ Some own

  home_of : (k : ℕ) (node : ModuleNode) → HasNode w compilation k node → IsHome k node
  home_of k node here =
      let lt = slice_get_within compilation.modules.items k node here in
      let many = as_many in
      let others = settings_many in
      let kept = there_within all_lists k (omega (arith, lt, many)) in
      let own = there_within all_settings k (omega (arith, lt, others)) in
      record { kept = kept.0; keeps = kept.1; own = own.0; set = own.1 }

  -- the functions that are kept stand at the places of the module
  kept_functions : (k : ℕ) (node : ModuleNode) → HasNode w compilation k node → (kept : ModuleLists) → slice_get all_lists k ≡ Some kept → functions_in kept.functions.items ≡ trees_at compilation node.functions.items
  kept_functions k node here kept keeps =
      let same : Some (kept_in kept) ≡ Some (kept_by compilation node) =
      sym (slice_get-map kept_in all_lists k ∙ ap (option_map kept_in) keeps) ∙ ap (λ ks. slice_get ks k) known.is_known.variables_are.lists
      ∙ slice_get-map (kept_by compilation) compilation.modules.items k ∙ ap (option_map (kept_by compilation)) here in
      ap (λ (x : lists_of.Kept). x.functions) (same_Some (kept_in kept) (kept_by compilation node) same)

  module _ (path : List Text) (k : ℕ) (node : ModuleNode) (here : HasNode w compilation k node) (found : place_of compilation path ≡ Some k) where
    node_found : node_of compilation path ≡ Some node
    node_found = ap (option_and_then (slice_get compilation.modules.items)) found ∙ here

    -- its functions by the path
    functions_are : defined.functions path ≡ filter_map (asked.row_there compilation) node.functions.items
    functions_are = ap (λ o. filter_map (asked.row_there compilation) (rows_of (λ (x : ModuleNode). x.functions.items) o)) node_found

    -- its row
    row_here : (inside : ModuleRow) × (defined.inside path ≡ Some inside) × ((own : Settings) → slice_get all_settings k ≡ Some own → inside.shares ≡ own.share_subsequents)
    row_here =
        let has = path_of w compilation n.of n.single path k found in
        let e = ap (option_and_then (λ j. row_of compilation settled.settle base working path j (slice_get compilation.modules.items j))) found ∙ ap (row_of compilation settled.settle base working path k) here in
        (module_row (settled.settle k) base working (is_root path) node.source.now (map name_text node.unexports.items) (sets_of compilation node), e, λ own set. (settled.each k node path own here has set).settled.share_subsequents)

    shares_are : (inside : ModuleRow) → defined.inside path ≡ Some inside → (own : Settings) → slice_get all_settings k ≡ Some own → inside.shares ≡ own.share_subsequents
    shares_are inside is own set = ap (λ (x : ModuleRow). x.shares) (same_Some inside row_here.0 (sym is ∙ row_here.1)) ∙ row_here.2 own set

  -- ---- recipes by their names

  record IsRecipe (r : RecipeName) (row : RecipeRow) : Type 0 where
    pub k : ℕ
    pub node : ModuleNode
    pub here : HasNode w compilation k node
    pub found : place_of compilation r.path ≡ Some k
    pub place : Place
    pub listed : Contains node.recipes.items place
    pub recipe : RecipeTree UnresolvedDependency
    pub there : recipe_at compilation place ≡ Some recipe
    pub is : row ≡ row_with w r.path (passes compilation (Some node)) (key_at compilation place) recipe

  recipe_by_name : (r : RecipeName) (row : RecipeRow) → defined.recipe r ≡ Some row → IsRecipe r row
  recipe_by_name r row e = by_node (node_of compilation r.path) refl e
    where
      by_node : (o : Option ModuleNode) → node_of compilation r.path ≡ o
          → option_and_then (λ place. recipe_in w.expansion r.path (passes compilation o) (key_at compilation place) (shape_at compilation place)) (recipe_of compilation o r.recipe) ≡ Some row → IsRecipe r row
      by_node None is says = absurd (none-some row says)
      by_node (Some node) is says =
          let l = led (λ place. recipe_in w.expansion r.path (passes compilation (Some node)) (key_at compilation place) (shape_at compilation place)) (recipe_of compilation (Some node) r.recipe) row says in
          let f = found_at _ node.recipes.items l.0 l.1 in
          let b = row_back w r.path (passes compilation (Some node)) (key_at compilation l.0) (item_at compilation l.0) row l.2 in
          let p = led (slice_get compilation.modules.items) (place_of compilation r.path) node is in
          record {
            k = p.0;
            node = node;
            here = p.2;
            found = p.1;
            place = l.0;
            listed = contains_at node.recipes.items f.0 l.0 f.1;
            recipe = b.0;
            there = ap nodes_of.recipe_of b.1;
            is = b.2;
          }

  -- ---- recipes at their places

  module _ (k : ℕ) (node : ModuleNode) (here : HasNode w compilation k node) (place : Place) (listed : Contains node.recipes.items place) (recipe : RecipeTree UnresolvedDependency) (there : recipe_at compilation place ≡ Some recipe) where
    abbrev kept : Kept
    kept = (k, place, recipe)

    in_all : Contains (all_kept compilation) kept
    in_all = nodes_kept.kept_there compilation k node place recipe here listed there

    abbrev path : List Text
    path = path_in compilation.modules.items k

    has_path : HasPath w (views w compilation) (nodes w compilation) k path
    has_path = has_own_path w compilation n.of k node here

    found_at_path : place_of compilation path ≡ Some k
    found_at_path = leads_to w compilation n.of n.single k path has_path

    abbrev name : RecipeName
    name = record { path = path; recipe = lexeme recipe.name.token }

    -- the row by the name
    record HasRow : Type 0 where
      pub key : Text
      pub passing : Bool
      pub is : defined.recipe name ≡ Some (row_with w path passing key recipe)

    has_row : HasRow
    has_row =
        let s : StandsIn w compilation meant kept = stands_in w compilation meant kept in_all in
        let passing = passes compilation (Some s.node) in
        let row : RecipeRow = row_with w path passing s.keeps.key recipe in
        let is : IsRecipeRow w (overrides_of given) name row = record {
          own = s.node.source.now;
          is = module_at w compilation n.of k s.node path s.here has_path;
          key = s.keeps.key;
          place = s.keeps.at;
          attributes = shapes_in recipe.attributes;
          shape = recipe_shape recipe;
          kept = subst (KeepsAt w s.node.source.now a_recipe (lexeme recipe.name.token) s.keeps.key s.keeps.at) (ap₂ recipe_item s.attributes s.shape) s.keeps.keeps;
          passes = passing;
          passing = is_on w compilation n.of n.settings k s.node s.here (codes "positional-arguments");
          says = refl;
        } in
        record {
          key = s.keeps.key;
          passing = passing;
          is = (recipes_stand w compilation (record { of = n.of; single = n.single; settings = n.settings }) (overrides_of given) name row).1 is;
        }

    -- it stands in the table
    in_table : (resolved : ResolvedRecipe) × Contains analysis.table.value.recipes.items resolved × (resolved.place ≡ place)
    in_table =
        let h = placed_row compilation analysis.variables.reads.items analysis.table.value reads_many known.recipes_are kept in_all in
        (h.row.resolved, contains_at analysis.table.value.recipes.items h.rank h.row.resolved h.row.here, h.row.standing ∙ h.same)

    -- no attribute of it is repeated that stands once
    single_attributes : (source : Given) → StandsFor source w → repeated (shapes_in recipe.attributes) ≡ None
    single_attributes source stands =
        let s : StandsIn w compilation meant kept = stands_in w compilation meant kept in_all in
        attributes_stand_once source w compilation stands n.of k s.node s.here place s.keeps.there.from s.keeps.there.to recipe there

  -- ---- from places to names

  -- the recipe of a place is that of the list
  first_there : (shares : Bool) (place : Place) (x : Expression) → Contains (first_at compilation shares place) x → (recipe : RecipeTree UnresolvedDependency) × (recipe_at compilation place ≡ Some recipe) × Contains (first_of_recipe shares recipe) x
  first_there shares place x c = by_recipe (recipe_at compilation place) refl c
    where
      by_recipe : (o : Option (RecipeTree UnresolvedDependency)) → recipe_at compilation place ≡ o → Contains (first_if_there shares o) x → (recipe : RecipeTree UnresolvedDependency) × (recipe_at compilation place ≡ Some recipe) × Contains (first_of_recipe shares recipe) x
      by_recipe (Some recipe) is d = (recipe, is, d)
      by_recipe None is d = absurd (contains_none [] x refl d)

  asked_by_name : (source : Given) → StandsFor source w → AreSteady defined → (home : ℕ) → ModuleAsks compilation all_lists all_settings home → ⊥
  asked_by_name source stands steady home m =
      let x = m.asks.0 in
      let f = contained_flat (first_at compilation m.own.share_subsequents) m.node.recipes.items x m.asks.1 in
      let r = first_there m.own.share_subsequents f.0 x f.2 in
      let row = has_row home m.node m.here f.0 f.1 r.0 r.1 in
      let path = path_in compilation.modules.items home in
      let found = found_at_path home m.node m.here f.0 f.1 r.0 r.1 in
      let inside = row_here path home m.node m.here found in
      let shares : inside.0.shares ≡ m.own.share_subsequents = inside.2 m.own m.set in
      let single = single_attributes home m.node m.here f.0 f.1 r.0 r.1 source stands in
      let first = first_named w.expansion row.key row.passing (named w path row.passing row.key) r.0 single inside.0 x (subst (λ b. Contains (first_of_recipe b r.0) x) (sym shares) r.2) in
      let kept = kept_functions home m.node m.here m.kept m.keeps in
      let asks = asks_named compilation m.node.functions.items m.kept.functions.items kept x m.asks.2 in
      steady.unasked (name home m.node m.here f.0 f.1 r.0 r.1) _ inside.0 (shape_of x) row.is inside.1 first (subst (λ fs. AsksIn fs (shape_of x)) (sym (functions_are path home m.node m.here found)) asks)

  valued_by_name : AreSteady defined → HasValue compilation analysis.table.value.recipes.items → ⊥
  valued_by_name steady h =
      let at = place_in_list analysis.table.value.recipes.items h.resolved h.among in
      let row = row_kept compilation analysis.variables.reads.items analysis.table.value reads_many known.recipes_are at.0 h.resolved at.1 in
      let same : row.2.resolved ≡ h.resolved = same_Some row.2.resolved h.resolved (sym row.2.here ∙ at.1) in
      let place : h.resolved.place ≡ row.0.1 = sym (ap (λ (r : ResolvedRecipe). r.place) same) ∙ row.2.standing in
      let k = is_kept compilation row.0 row.1 in
      let recipe : row.0.2 ≡ h.recipe = same_Some row.0.2 h.recipe (sym k.there ∙ sym (ap (recipe_at compilation) place) ∙ h.stands) in
      let r = has_row row.0.0 k.node k.here row.0.1 k.listed row.0.2 k.there in
      let path = path_in compilation.modules.items row.0.0 in
      unvalued_tree w.expansion r.key r.passing (named w path r.passing r.key) row.0.2 (has_options w compilation meant row.0.1 row.0.2 k.there)
      (λ p c. steady.unvalued (name row.0.0 k.node k.here row.0.1 k.listed row.0.2 k.there) _ p r.is c)
      h.parameter h.value (subst (λ (x : RecipeTree UnresolvedDependency). Contains x.parameters.items h.parameter) (sym recipe) h.has) h.is

  -- ---- from names to places

  module _ (steady : IsSteadyAt compilation analysis) where
    asked_by_place : (r : RecipeName) (row : RecipeRow) (inside : ModuleRow) (e : Shape) → defined.recipe r ≡ Some row → defined.inside r.path ≡ Some inside → EvaluatesFirst row inside e → AsksIn (defined.functions r.path) e → ⊥
    asked_by_place r row inside e at in' first asks =
        let h = recipe_by_name r row at in
        let home = home_of h.k h.node h.here in
        let shares : inside.shares ≡ home.own.share_subsequents = shares_are r.path h.k h.node h.here h.found inside in' home.own home.set in
        let passing = passes compilation (Some h.node) in
        let key = key_at compilation h.place in
        let one = first_placed w.expansion key passing (named w r.path passing key) h.recipe inside e (subst (λ x. EvaluatesFirst x inside e) h.is first) in
        let kept = kept_functions h.k h.node h.here home.kept home.keeps in
        let names : AsksIn (filter_map (asked.row_there compilation) h.node.functions.items) (shape_of one.0) =
        subst (λ fs. AsksIn fs (shape_of one.0)) (functions_are r.path h.k h.node h.here h.found) (subst (AsksIn (defined.functions r.path)) (sym one.2) asks) in
        let first_here : Contains (first_at compilation home.own.share_subsequents h.place) one.0 =
        subst (λ o. Contains (first_if_there home.own.share_subsequents o) one.0) (sym h.there) (subst (λ b. Contains (first_of_recipe b h.recipe) one.0) shares one.1) in
        steady.unasked h.k (record {
          node = h.node;
          here = h.here;
          kept = home.kept;
          keeps = home.keeps;
          own = home.own;
          set = home.set;
          asks = (
            one.0,
            contains_flat (first_at compilation home.own.share_subsequents) h.node.recipes.items h.place one.0 h.listed first_here,
            asks_placed compilation h.node.functions.items home.kept.functions.items kept one.0 names,
          );
        })

    valued_by_place : (r : RecipeName) (row : RecipeRow) (parameter : ParameterRow) → defined.recipe r ≡ Some row → Contains row.parameters parameter → parameter.value ≡ None
    valued_by_place r row parameter at c =
        let h = recipe_by_name r row at in
        let passing = passes compilation (Some h.node) in
        let key = key_at compilation h.place in
        let t = in_table h.k h.node h.here h.place h.listed h.recipe h.there in
        unvalued_row w.expansion key passing (named w r.path passing key) h.recipe (has_options w compilation meant h.place h.recipe h.there)
        (λ tree value d is. steady.unvalued (record { resolved = t.0; among = t.1; recipe = h.recipe; stands = ap (recipe_at compilation) t.2 ∙ h.there; parameter = tree; has = d; value = value; is = is }))
        parameter (subst (λ (x : RecipeRow). Contains x.parameters parameter) h.is c)

  pub stands_alike : StandsAlike w compilation analysis defined
  stands_alike = record {
    named = λ steady. record { unasked = asked_by_place steady; unvalued = valued_by_place steady };
    placed = λ source stands steady. record { unasked = asked_by_name source stands steady; unvalued = valued_by_name steady };
  }
