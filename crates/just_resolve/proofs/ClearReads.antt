-- No expression of what modules keep reads or calls what is not there.
use Rattle.std.proofs.Common.{◌≡◌, ◌∙◌, ℕ, zero, suc, List, [], ◌∷◌, Some, Ok, Err, Result, String, map, refl, sym, ap, arith}
use Rattle.std.specs.Prelude.{slice_get, Contains}
use Rattle.std.specs.BTreeMap.{BTreeMap}
use Rattle.std.specs.List.{filter_map}
use Rattle.std.specs.Option.{option_map}
use Rattle.std.proofs.lemmas.Option.{none-some, slice_get_within}
use Rattle.tree_items.specs.declared.ast.Item.TheVariants.{Recipe as recipe_item, Set as set_item}
use Rattle.tree_items.specs.declared.recipe.Recipe.{Recipe}
use Rattle.tree_items.specs.declared.recipe.UnresolvedDependency.{UnresolvedDependency}
use Rattle.tree_items.specs.declared.set.Set.{Set}
use Rattle.evaluate_context.specs.declared.settings.Settings.{Settings}
use Rattle.modules_compilation.specs.Places.{item_at}
use Rattle.modules_compilation.specs.declared.compilation.Compilation.{Compilation}
use Rattle.modules_compilation.specs.declared.module_node.ModuleNode.{ModuleNode}
use Rattle.modules_compilation.specs.declared.place.Place.{Place}
use Rattle.resolve_references.specs.ItemReferences.{references_of_recipe, references_of_set}
use Rattle.resolve_references.specs.Places.{places_of}
use Rattle.resolve_references.specs.declared.read_fault.ReadFault.{ReadFault}
use Rattle.resolve_recipes.specs.Nodes.{Kept, all_kept, recipe_of, view}
use Rattle.resolve_recipes.specs.Refusals.{Refusal}
use Rattle.resolve_recipes.specs.Resolving.{all_needs, recipe_needs, row_before}
use Rattle.resolve_recipes.specs.declared.recipe_resolver.RecipeResolver.{RecipeResolver}
use Rattle.resolve_analysis.specs.declared.module_reads.ModuleReads.{ModuleReads}
use Rattle.resolve_analysis.specs.declared.recipes.RecipeTable.{RecipeTable}
use Rattle.resolve_analysis.specs.declared.variables.ModuleVariables.{ModuleVariables}
use Rattle.resolve_order.specs.Needs.{rows}
use Rattle.meaning_rules.proofs.Worlds.Places.{contains_at, place_of}
use Rattle.laws_modules.proofs.Names.Found.{there_within}
use Rattle.laws_names.proofs.Depending.Kept.{kept_there}
use Rattle.laws_names.proofs.Depending.Lists.{given_there}
use Rattle.laws_names.specs.Reading.Clear.{IsClear}
use Rattle.just_resolve.specs.Recipes.{resolved, resolved_at, resolved_with, with_reads, Resolved}
use Rattle.just_resolve.specs.Settling.{AreConstantly, AreSettled, set_at, set_of, sets_at}
use Rattle.just_resolve.specs.Table.{IsTable}
use Rattle.just_resolve.proofs.Answered.{each_gathered, each_read}
use Rattle.just_resolve.proofs.Keeping.{IsModuleOf, resolver_is, rows_are}

-- ---- recipes

module _ (compilation : Compilation) (resolver : RecipeResolver) where
  others_need : (one : Result (List ℕ) Refusal) (rest : Result (List (List ℕ)) Refusal) (needs : List (List ℕ)) → row_before compilation resolver one rest ≡ Ok needs → (row : List ℕ) × (others : List (List ℕ)) × (rest ≡ Ok others) × (row ∷ others ≡ needs)
  others_need (Ok row) (Ok others) needs e =
      let same : row ∷ others ≡ needs = cc e in
      (row, others, refl, same)
  others_need (Ok row) (Err refusal) needs e = absurd (cc e)
  others_need (Err refusal) rest needs e = absurd (cc e)

  -- each recipe has its row of needs
  has_needs : (recipes : List Kept) (needs : List (List ℕ)) → all_needs compilation resolver recipes ≡ Ok needs → (i : ℕ) (kept : Kept) → slice_get recipes i ≡ Some kept → (row : List ℕ) × (slice_get needs i ≡ Some row)
  has_needs [] needs e i kept at = absurd (none-some kept at)
  has_needs (first ∷ recipes) needs e zero kept at =
      let n = others_need (recipe_needs compilation resolver first) (all_needs compilation resolver recipes) needs e in
      (n.0, ap (λ rows. slice_get rows 0) (sym n.3))
  has_needs (first ∷ recipes) needs e (suc i) kept at =
      let n = others_need (recipe_needs compilation resolver first) (all_needs compilation resolver recipes) needs e in
      let more = has_needs recipes n.1 n.2 i kept at in
      (more.0, ap (λ rows. slice_get rows (suc i)) (sym n.3) ∙ more.1)

-- a recipe that is resolved has places of what it reads
has_places : (ranks : List ℕ) (kept : Kept) (needs : List ℕ) (r : Result (List ℕ) ReadFault) (a : Resolved) → with_reads ranks kept needs r ≡ Ok a → (places : List ℕ) × (r ≡ Ok places)
has_places ranks kept needs (Ok places) a e = (places, refl)
has_places ranks kept needs (Err fault) a e = absurd (cc e)

module _ {A : Type 0} (overrides : BTreeMap ℕ (String A)) (compilation : Compilation) (variables : ModuleVariables) (k : ℕ) (node : ModuleNode) (here : slice_get compilation.modules.items k ≡ Some node) (m : IsModuleOf overrides compilation variables k node) where
  -- a kept recipe stands in the order, and is resolved there
  recipe_read : (table : RecipeTable) → IsTable compilation variables.reads.items table → (place : Place) (r : Recipe UnresolvedDependency) → Contains node.recipes.items place → item_at compilation place ≡ Some (recipe_item r)
      → (places : List ℕ) × (places_of m.reads.resolver (references_of_recipe r) ≡ Ok places)
  recipe_read table t place r listed there =
      let sorted = t.is_for.sorted in
      let inside = sorted.is_in in
      let recipes = map view t.nodes in
      let ranks = inside.ranks in
      let kept : Kept = (k, place, r) in
      let found = place_of (all_kept compilation) kept (kept_there compilation k node place r here listed (ap recipe_of there)) in
      let i = found.0 in
      let at : slice_get recipes i ≡ Some kept = ap (λ all. slice_get all i) t.kept ∙ found.1 in
      let row = has_needs compilation t.is_for.resolver recipes sorted.needs sorted.needed i kept at in
      let ordered = sorted.ordered.complete i (slice_get_within sorted.needs i row.0 row.1) in
      let gives : resolved_at recipes variables.reads.items sorted.needs ranks i ≡ Some (resolved m.reads.resolver ranks kept row.0) =
      ap (λ o. resolved_with variables.reads.items ranks o (slice_get sorted.needs i)) at
      ∙ ap (resolved_with variables.reads.items ranks (Some kept)) row.1
      ∙ ap (option_map (λ (home : ModuleReads). resolved home.resolver ranks kept row.0)) m.reads_there in
      let among = given_there (resolved_at recipes variables.reads.items sorted.needs ranks) sorted.order i (resolved m.reads.resolver ranks kept row.0) (contains_at sorted.order ordered.at i ordered.found) gives in
      let is = each_gathered (λ found. found) (filter_map (resolved_at recipes variables.reads.items sorted.needs ranks) sorted.order) inside.all inside.resolved (resolved m.reads.resolver ranks kept row.0) among in
      has_places ranks kept row.0 (places_of m.reads.resolver (references_of_recipe r)) is.0 is.1

  -- ---- settings

  -- the settings of the module are known by constants
  pub are_settled : (settings : List Settings) (are : AreConstantly compilation variables.lists.items variables.reads.items variables.orders.items overrides settings) → (own : Settings) × AreSettled are.constants overrides compilation node.sets.items m.lists m.reads m.order.items own
  are_settled settings are =
      let many = are.settled.many in
      let within = slice_get_within compilation.modules.items k node here in
      let own = there_within settings k (omega (arith, many, within)) in
      (own.0, are.settled.each k own.0 own.1 node m.lists m.reads m.order (record { node_there = here; lists_there = m.lists_there; reads_there = m.reads_there; order_there = m.order_there }))

  -- which needs all that they read
  set_read : (settings : List Settings) → AreConstantly compilation variables.lists.items variables.reads.items variables.orders.items overrides settings → (place : Place) (s : Set) → Contains node.sets.items place → item_at compilation place ≡ Some (set_item s)
      → (places : List ℕ) × (places_of m.reads.resolver (references_of_set s) ≡ Ok places)
  set_read settings are place s listed there =
      let settled = (are_settled settings are).1 in
      let among = given_there (set_at compilation) node.sets.items place s listed (ap set_of there) in
      each_read m.reads.resolver references_of_set (sets_at compilation node.sets.items) settled.read.places settled.read.read s among

  -- ---- all

  -- no expression of the module is refused
  pub clear_module : (table : RecipeTable) → IsTable compilation variables.reads.items table → (settings : List Settings) → AreConstantly compilation variables.lists.items variables.reads.items variables.orders.items overrides settings → IsClear compilation node
  clear_module table t settings are = record {
    resolver = m.reads.resolver;
    of = resolver_is overrides compilation variables k node m;
    graph = rows m.reads.graph.items;
    rows = rows_are overrides compilation variables k node m;
    recipes = λ place r listed there. recipe_read table t place r listed there;
    sets = λ place s listed there. set_read settings are place s listed there;
  }
