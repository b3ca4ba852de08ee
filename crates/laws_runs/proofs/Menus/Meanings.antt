-- What names mean in a module, by places and by names.
use Rattle.std.proofs.Common.{◌≡◌, sym, ◌∙◌, ap, subst, Bool, true, cond, List, [], ◌∷◌, ◌++◌, ◌+◌, ◌<◌, ℕ, Option, Some, None, Ok, refl, arith, map, length, reverse, nat_lt}
use Rattle.std.specs.Prelude.{Contains, slice_get, bytes_eq}
use Rattle.std.specs.List.{find, range_with_len}
use Rattle.std.specs.Option.{option_and_then, option_map, option_or}
use Rattle.std.specs.Global.{Vec}
use Rattle.std.proofs.lemmas.Option.{slice_get_within}
use Rattle.just_text.specs.Tokens.{lexeme}
use Rattle.just_text.specs.declared.name.Name.{Name}
use Rattle.tree_attributes.specs.Sets.Sets.{shapes_in}
use Rattle.tree_expressions.specs.Shape.{Shape}
use Rattle.tree_items.specs.Files.{module_item, recipe_item}
use Rattle.tree_items.specs.Paths.{path_names}
use Rattle.tree_items.specs.Recipes.{recipe_shape}
use Rattle.tree_items.specs.declared.item.Alias.{Alias as AliasOf}
use Rattle.tree_items.specs.declared.recipe.Recipe.{Recipe as RecipeOf}
use Rattle.tree_items.specs.declared.recipe.UnresolvedDependency.{UnresolvedDependency}
use Rattle.modules_compilation.specs.Modulepaths.{path_in}
use Rattle.modules_compilation.specs.declared.compilation.Compilation.{Compilation}
use Rattle.modules_compilation.specs.declared.module_node.ModuleNode.{ModuleNode}
use Rattle.modules_compilation.specs.declared.place.Place.{Place}
use Rattle.resolve_recipes.specs.Aliases as aliases
use Rattle.resolve_recipes.specs.Aliases.{rank_of}
use Rattle.resolve_recipes.specs.Named.{first_named, recipe_of, submodule_in, text_at}
use Rattle.resolve_recipes.specs.Nodes.{Kept, all_kept, recipe_at, view}
use Rattle.resolve_recipes.specs.Resolving.{named_in}
use Rattle.resolve_recipes.specs.Standing.{place_in}
use Rattle.resolve_recipes.specs.declared.aliases.ResolvedAlias.{ResolvedAlias}
use Rattle.resolve_recipes.specs.declared.recipe_node.RecipeNode.{RecipeNode}
use Rattle.resolve_analysis.specs.declared.module_reads.ModuleReads.{ModuleReads}
use Rattle.resolve_analysis.specs.declared.recipes.RecipeTable.{RecipeTable}
use Rattle.just_resolve.specs.Table.{aliases_of, lists_in, module_aliases}
use Rattle.meaning_dialogues.specs.Evaluation.{Value}
use Rattle.meaning_rules.specs.Worlds.Given.{Overrides, Text, World}
use Rattle.meaning_rules.specs.Worlds.Keeping.{a_recipe, a_submodule, an_alias}
use Rattle.meaning_rules.specs.Worlds.Views.{node_view}
use Rattle.laws_modules.specs.Names.Names.{HasNode, IsRecipeOf, IsSubmoduleOf, KeepsRecipe}
use Rattle.laws_modules.specs.Names.Targets.{IsTarget}
use Rattle.laws_modules.proofs.Names.Found.{found_at, mapped, mapped_at}
use Rattle.laws_modules.proofs.Names.Modules.{submodules_are_found}
use Rattle.laws_modules.proofs.Names.Named.{recipes_are_kept}
use Rattle.laws_modules.proofs.Names.Paths.{targets_are_meant}
use Rattle.laws_modules.proofs.Names.Standing.{text_there}
use Rattle.laws_names.proofs.Depending.Kept.{kept_there}
use Rattle.laws_names.proofs.Depending.Lists.{last_there}
use Rattle.laws_names.proofs.Depending.Standing.{recipe_there}
use Rattle.meaning_evaluation.specs.Named.{ModuleRow, RecipeName, RecipeRow}
use Rattle.just_meaning.specs.Defining.{named_from, names_before}
use Rattle.just_meaning.specs.Rows.{recipe_row}
use Rattle.laws_runs.specs.Resolved.Definitions.{alias_named, key_at, node_of, passes, place_of, recipe_in, recipe_named, row_at, row_of, rows_of as rows_named, shape_at, target_of}
use Rattle.laws_runs.specs.Resolved.Modules.{PathsAreOwn, PathsLead, PlacesHavePaths}
use Rattle.meaning_rules.proofs.Worlds.Places.{contains_at}
use Rattle.analyze_words.specs.declared.menu.Meaning.{Meaning}
use Rattle.analyze_words.specs.declared.menu.Meaning.TheVariants.{Recipe, Submodule}
use Rattle.justfile_analyzer.specs.MenusOf.{alias_meant, aliases_at, called_in, is_wanted, meaning_at, meant_in, rank_at, recipe_meant, rows_of, submodule_meant}
use Rattle.laws_runs.specs.Menus.Named.{IsTabled, name_at, name_of}
use Rattle.laws_runs.proofs.Menus.Aliased.{Alike, alias_shaped, alike, defined_alias, each_alias, leads_to_rank, once}
use Rattle.laws_runs.proofs.Menus.Homes.{home_of, kept_shape, one_keeper}
use Rattle.laws_runs.proofs.Menus.Apart.{defines_module, never_both}
use Rattle.laws_runs.proofs.Menus.Lists.{before_behind, find_reversed, gathered_at, last_behind, less_true, range_at}
use Rattle.laws_runs.proofs.Menus.Paths.{place_inside, submodule_found}
use Rattle.laws_runs.proofs.Menus.Table.{IsRow, placed_row, ranked_row}
use Rattle.laws_runs.proofs.Menus.Table as rows

-- a recipe by the path of its module and its name
abbrev pub recipe_by : List Text → Text → RecipeName
recipe_by path name = record { path = path; recipe = name }

module _ (paths_lead : PathsLead) (paths_are_own : PathsAreOwn) (places_have_paths : PlacesHavePaths) (w : World) (compilation : Compilation) (reads : List ModuleReads) (table : RecipeTable) (tabled : IsTabled w compilation reads table) where
  abbrev path : ℕ → List Text
  path k = path_in compilation.modules.items k

  -- ---- modules

  pub found : (k : ℕ) (node : ModuleNode) → HasNode w compilation k node → place_of compilation (path k) ≡ Some k
  found k node here = places_have_paths w compilation tabled.of tabled.single k node here

  pub node_found : (k : ℕ) (node : ModuleNode) → HasNode w compilation k node → node_of compilation (path k) ≡ Some node
  node_found k node here = ap (option_and_then (slice_get compilation.modules.items)) (found k node here) ∙ here

  -- ---- recipes in the table

  pub text_kept : (node : ModuleNode) (name : Text) (place : Place) → KeepsRecipe w compilation node name place → text_at compilation place ≡ name
  text_kept node name place keeps = text_there w compilation (node_view node) place keeps.key keeps.at keeps.attributes keeps.recipe keeps.there ∙ keeps.is_named

  pub row_called : (rank : ℕ) (kept : Kept) → IsRow table rank kept → name_at compilation table rank ≡ recipe_by (path kept.0) (lexeme kept.2.name.token)
  row_called rank kept row =
      ap (name_of compilation) row.here
      ∙ ap (λ m. recipe_by (path m) (lexeme row.resolved.name.token)) row.home
      ∙ ap (λ (n : Name). recipe_by (path kept.0) (lexeme n.token)) row.named

  -- the recipe that is kept at a place is that of its module
  kept_same : (k : ℕ) (node : ModuleNode) (name : Text) (place : Place) → HasNode w compilation k node → KeepsRecipe w compilation node name place → (kept : Kept)
      → Contains (all_kept compilation) kept → kept.1 ≡ place → (kept.0 ≡ k) × (lexeme kept.2.name.token ≡ name)
  kept_same k node name place here keeps kept c same =
      let h = home_of w compilation tabled.of kept c in
      let keeps' = subst (KeepsRecipe w compilation h.node (lexeme kept.2.name.token)) same h.keeps in
      (one_keeper w compilation tabled.of kept.0 k h.node node (lexeme kept.2.name.token) name place h.here here keeps' keeps, sym (text_kept h.node (lexeme kept.2.name.token) place keeps') ∙ text_kept node name place keeps)

  row_named : (k : ℕ) (name : Text) (rank : ℕ) (kept : Kept) → IsRow table rank kept → (kept.0 ≡ k) × (lexeme kept.2.name.token ≡ name) → name_at compilation table rank ≡ recipe_by (path k) name
  row_named k name rank kept row same = row_called rank kept row ∙ ap (λ m. recipe_by (path m) (lexeme kept.2.name.token)) same.0 ∙ ap (recipe_by (path k)) same.1

  -- the rank of a recipe that a module keeps
  pub record HasRank (k : ℕ) (name : Text) (place : Place) : Type 0 where
    pub rank : ℕ
    pub placed : place_in table.places place ≡ Some rank
    pub within : rank < length table.recipes.items
    pub called : name_at compilation table rank ≡ recipe_by (path k) name

  pub has_rank : (k : ℕ) (node : ModuleNode) → HasNode w compilation k node → (name : Text) (place : Place) → Contains node.recipes.items place → KeepsRecipe w compilation node name place → HasRank k name place
  has_rank k node here name place c keeps =
      let r = recipe_there w compilation (node_view node) place keeps.key keeps.at keeps.attributes keeps.recipe keeps.there in
      let row = placed_row compilation reads table tabled.many tabled.is_table (k, place, r.0) (kept_there compilation k node place r.0 here c r.1) in
      record {
        rank = row.rank;
        placed = row.placed;
        within = slice_get_within table.recipes.items row.rank row.row.resolved row.row.here;
        called = row_named k name row.rank row.kept row.row (kept_same k node name place here keeps row.kept row.listed row.same);
      }

  -- ---- the recipe of a name

  pub recipe_found : (k : ℕ) (node : ModuleNode) → HasNode w compilation k node → (name : Text) (place : Place) → recipe_of compilation (Some node) name ≡ Some place → Contains node.recipes.items place × KeepsRecipe w compilation node name place
  recipe_found k node here name place e =
      let f = found_at (λ p. bytes_eq (text_at compilation p) name) node.recipes.items place e in
      (contains_at node.recipes.items f.0 place f.1, subst (IsRecipeOf w compilation node name) e (recipes_are_kept w compilation tabled.of k node here name))

  -- the row of a recipe of the module at a place
  abbrev pub row_in : ℕ → Place → RecipeOf UnresolvedDependency → RecipeRow
  row_in k place recipe =
      recipe_row w.expansion (key_at compilation place) (passes compilation (node_of compilation (path k))) (λ dependency. named_from (path k) dependency.path) (shapes_in recipe.attributes) (recipe_shape recipe)

  pub recipe_named_is : (k : ℕ) (node : ModuleNode) → HasNode w compilation k node → (name : Text) (place : Place) (recipe : RecipeOf UnresolvedDependency)
      → recipe_of compilation (Some node) name ≡ Some place → recipe_at compilation place ≡ Some recipe
      → KeepsRecipe w compilation node name place → recipe_named compilation w.expansion (recipe_by (path k) name) ≡ Some (row_in k place recipe)
  recipe_named_is k node here name place recipe e there keeps =
      let from : Place → Option RecipeRow = λ p. recipe_in w.expansion (path k) (passes compilation (node_of compilation (path k))) (key_at compilation p) (shape_at compilation p) in
      ap (λ o. option_and_then from (recipe_of compilation o name)) (node_found k node here)
      ∙ ap (option_and_then from) e
      ∙ ap (recipe_in w.expansion (path k) (passes compilation (node_of compilation (path k))) (key_at compilation place)) (kept_shape w compilation tabled.of node name place recipe keeps there)

  no_recipe_named : (k : ℕ) (node : ModuleNode) → HasNode w compilation k node → (name : Text) → recipe_of compilation (Some node) name ≡ None → recipe_named compilation w.expansion (recipe_by (path k) name) ≡ None
  no_recipe_named k node here name e =
      let from : Place → Option RecipeRow = λ p. recipe_in w.expansion (path k) (passes compilation (node_of compilation (path k))) (key_at compilation p) (shape_at compilation p) in
      ap (λ o. option_and_then from (recipe_of compilation o name)) (node_found k node here) ∙ ap (option_and_then from) e

  recipe_ranked : (node : ModuleNode) (name : Text) (place : Place) (rank : ℕ) → recipe_of compilation (Some node) name ≡ Some place → place_in table.places place ≡ Some rank
      → rank < length table.recipes.items → recipe_meant compilation table node name ≡ Some (Recipe rank)
  recipe_ranked node name place rank e placed lt =
      ap (λ o. option_map Recipe (option_and_then (rank_at table) o)) e
      ∙ ap (λ o. option_map Recipe (option_and_then (λ r. cond (nat_lt r (length table.recipes.items)) (Some r) None) o)) placed
      ∙ ap (λ b. option_map Recipe (cond b (Some rank) None)) (less_true rank (length table.recipes.items) lt)

  no_recipe_ranked : (node : ModuleNode) (name : Text) → recipe_of compilation (Some node) name ≡ None → recipe_meant compilation table node name ≡ None
  no_recipe_ranked node name e = ap (λ o. option_map Recipe (option_and_then (rank_at table) o)) e

  -- ---- the alias of a name

  resolved_rows : (k : ℕ) (node : ModuleNode) → HasNode w compilation k node → aliases.resolved_at compilation tabled.is_table.is_for.resolver.places.now tabled.is_table.is_for.sorted.is_in.ranks k node.aliases.items ≡ Ok (aliases_at table k)
  resolved_rows k node here =
      let places = tabled.is_table.is_for.resolver.places.now in
      let inside = tabled.is_table.is_for.sorted.is_in in
      let lt = slice_get_within compilation.modules.items k node here in
      let same : 0 + k ≡ k = omega arith in
      let g = gathered_at (module_aliases compilation places inside.ranks) (range_with_len 0 (length compilation.modules.items)) (lists_in table.aliases.items) inside.is_of.aliases_are k k
      (range_at 0 (length compilation.modules.items) k lt ∙ ap (λ n. Some n) same) in
      let m = mapped_at (λ (row : Vec ResolvedAlias). row.items) table.aliases.items k g.0 g.1 in
      ap (λ o. aliases.resolved_at compilation places inside.ranks k (aliases_of o)) (sym here) ∙ g.2 ∙ ap (λ rs. Ok rs) (sym (ap rows_of m.1 ∙ m.2))

  -- the rank that an alias has is that of the recipe which its target names
  alias_called : (k : ℕ) (node : ModuleNode) → HasNode w compilation k node → (alias : AliasOf (List Name)) (rank : ℕ)
      → rank_of tabled.is_table.is_for.sorted.is_in.ranks (named_in compilation tabled.is_table.is_for.resolver.places.now k alias.target) alias ≡ Ok rank
      → (rank < length table.recipes.items) × (name_at compilation table rank ≡ named_from (path k) (path_names alias.target))
  alias_called k node here alias rank e =
      let t = tabled.is_table in
      let places = t.is_for.resolver.places.now in
      let l = leads_to_rank compilation places t.is_for.sorted.is_in.ranks k alias rank e in
      let standing = map (λ (n : RecipeNode). n.place) t.nodes in
      let last = last_there 0 standing l.item l.q (sym (t.is_for.resolves.places l.item) ∙ l.placed) in
      let n = last.1 in
      let same : last.0 ≡ l.q = omega (arith, n) in
      let one = mapped_at (λ (x : RecipeNode). x.place) t.nodes last.0 l.item last.2 in
      let at : slice_get (map view t.nodes) l.q ≡ Some (view one.0) = ap (slice_get (map view t.nodes)) (sym same) ∙ mapped view t.nodes last.0 one.0 one.1 in
      let row = ranked_row compilation reads table tabled.many t l.q rank (view one.0) at l.ranked in
      let listed = rows.kept_there compilation reads table tabled.many t l.q (view one.0) at in
      let leads = (subst (IsTarget w compilation k node (path_names alias.target)) l.to (targets_are_meant w compilation tabled.of tabled.single k node here alias.target)).0 in
      let kept = kept_same l.keeper leads.submodule leads.name l.item leads.leads.there leads.keeps (view one.0) listed one.2 in
      let below = leads.leads.below (path k) ((paths_lead w compilation tabled.of tabled.single (path k) k).0 (found k node here)) in
      let inner : path l.keeper ≡ path k ++ leads.modules = paths_are_own w compilation tabled.of tabled.single (path k ++ leads.modules) l.keeper ((paths_lead w compilation tabled.of tabled.single (path k ++ leads.modules) l.keeper).1 below) in (
        slice_get_within table.recipes.items rank row.resolved row.here,
        row_named l.keeper leads.name rank (view one.0) row kept
            ∙ ap (λ p. recipe_by p leads.name) inner
            ∙ ap (λ ms. recipe_by (path k ++ ms) leads.name) (sym (before_behind leads.modules leads.name))
            ∙ ap (recipe_by (path k ++ names_before (leads.modules ++ leads.name ∷ []))) (sym (last_behind leads.modules leads.name))
            ∙ ap (named_from (path k)) (sym leads.whole),
      )

  -- what the alias of a name is by its place, and what by its name
  pub record IsAliased (k : ℕ) (name : Text) : Type 0 where
    pub rank : ℕ
    pub target : RecipeName
    pub by_name : alias_named compilation (recipe_by (path k) name) ≡ Some target
    pub by_place : alias_meant (aliases_at table k) name ≡ Some (Recipe rank)
    pub within : rank < length table.recipes.items
    pub called : name_at compilation table rank ≡ target

  record IsUnaliased (k : ℕ) (name : Text) : Type 0 where
    pub by_name : alias_named compilation (recipe_by (path k) name) ≡ None
    pub by_place : alias_meant (aliases_at table k) name ≡ None

  module _ (k : ℕ) (node : ModuleNode) (here : HasNode w compilation k node) (name : Text) where
    abbrev test : Place → Bool
    test p = bytes_eq (text_at compilation p) name

    abbrev row_test : ResolvedAlias → Bool
    row_test row = bytes_eq (lexeme row.name.token) name

    alias_by_name : (found : Option Place) → first_named (text_at compilation) node.aliases.items name ≡ found → alias_named compilation (recipe_by (path k) name) ≡ option_and_then (λ p. target_of (path k) (shape_at compilation p)) found
    alias_by_name found e =
        ap (λ o. option_and_then (λ p. target_of (path k) (shape_at compilation p)) (first_named (text_at compilation) (rows_named (λ (n : ModuleNode). n.aliases.items) o) name)) (node_found k node here)
        ∙ ap (option_and_then (λ p. target_of (path k) (shape_at compilation p))) e

    both_found : (found : Option Place) → first_named (text_at compilation) node.aliases.items name ≡ found
        → Alike compilation tabled.is_table.is_for.resolver.places.now tabled.is_table.is_for.sorted.is_in.ranks k found (find row_test (reverse (aliases_at table k)))
    both_found found e =
        let places = tabled.is_table.is_for.resolver.places.now in
        let ranks = tabled.is_table.is_for.sorted.is_in.ranks in
        subst (λ o. Alike compilation places ranks k o (find row_test (reverse (aliases_at table k))))
        (find_reversed test node.aliases.items (once w compilation tabled.of k node here name) ∙ e)
        (alike compilation places ranks k name node.aliases.items (aliases_at table k) (each_alias w compilation tabled.of k node here) (resolved_rows k node here))

    is_aliased : (place : Place) → first_named (text_at compilation) node.aliases.items name ≡ Some place → IsAliased k name
    is_aliased place e = by_row (find row_test (reverse (aliases_at table k))) refl (both_found (Some place) e)
      where
        by_row : (o : Option ResolvedAlias) → find row_test (reverse (aliases_at table k)) ≡ o → Alike compilation tabled.is_table.is_for.resolver.places.now tabled.is_table.is_for.sorted.is_in.ranks k (Some place) o → IsAliased k name
        by_row None is both = absurd both
        by_row (Some row) is both =
            let c = alias_called k node here both.alias row.recipe both.gives in
            record {
              rank = row.recipe;
              target = named_from (path k) (path_names both.alias.target);
              by_name = alias_by_name (Some place) e ∙ ap (target_of (path k)) (alias_shaped compilation place both.alias both.there);
              by_place = ap (option_map (λ (r : ResolvedAlias). Recipe r.recipe)) is;
              within = c.0;
              called = c.1;
            }

    is_unaliased : first_named (text_at compilation) node.aliases.items name ≡ None → IsUnaliased k name
    is_unaliased e = by_row (find row_test (reverse (aliases_at table k))) refl (both_found None e)
      where
        by_row : (o : Option ResolvedAlias) → find row_test (reverse (aliases_at table k)) ≡ o → Alike compilation tabled.is_table.is_for.resolver.places.now tabled.is_table.is_for.sorted.is_in.ranks k None o → IsUnaliased k name
        by_row (Some row) is both = absurd both
        by_row None is both = record { by_name = alias_by_name None e; by_place = ap (option_map (λ (r : ResolvedAlias). Recipe r.recipe)) is }

  -- ---- all that a name may mean

  module _ (o : Overrides) (settle : ℕ → Shape → Value) (base working : Text) (words : List Text) where
    abbrev inside_row : ℕ → Text → Option ModuleRow
    inside_row k name = row_at compilation settle base working (path k ++ name ∷ [])

    -- a recipe, else an alias, else a submodule, else nothing: by places and by names
    pub data Found (k : ℕ) (name : Text) : Type 0 where
      a_recipe_there : (rank : ℕ) (row : RecipeRow) → recipe_named compilation w.expansion (recipe_by (path k) name) ≡ Some row → meaning_at compilation table words k name ≡ Some (Recipe rank) → rank < length table.recipes.items
          → name_at compilation table rank ≡ recipe_by (path k) name → Found k name
      an_alias_there : (rank : ℕ) (target : RecipeName) → recipe_named compilation w.expansion (recipe_by (path k) name) ≡ None
          → alias_named compilation (recipe_by (path k) name) ≡ Some target → meaning_at compilation table words k name ≡ Some (Recipe rank)
          → rank < length table.recipes.items → name_at compilation table rank ≡ target → Found k name
      a_module_there : (inner : ℕ) (submodule : ModuleNode) (row : ModuleRow) → recipe_named compilation w.expansion (recipe_by (path k) name) ≡ None → alias_named compilation (recipe_by (path k) name) ≡ None → inside_row k name ≡ Some row
          → meaning_at compilation table words k name ≡ Some (Submodule inner) → HasNode w compilation inner submodule → path inner ≡ path k ++ name ∷ [] → Found k name
      nothing_there : recipe_named compilation w.expansion (recipe_by (path k) name) ≡ None → alias_named compilation (recipe_by (path k) name) ≡ None → inside_row k name ≡ None → meaning_at compilation table words k name ≡ None → Found k name

    module _ (k : ℕ) (node : ModuleNode) (here : HasNode w compilation k node) (name : Text) (wanted : is_wanted words name ≡ true) where
      meaning_is : (submodule alias recipe : Option Meaning) → submodule_meant compilation.modules.items node.submodules.items name ≡ submodule → alias_meant (aliases_at table k) name ≡ alias → recipe_meant compilation table node name ≡ recipe
          → meaning_at compilation table words k name ≡ option_or submodule (option_or alias recipe)
      meaning_is submodule alias recipe e f g =
          ap (option_and_then (λ n. meant_in compilation table (is_wanted words) k n name)) here
          ∙ ap (λ b. option_or (submodule_meant compilation.modules.items node.submodules.items name) (cond b (called_in compilation table k node name) None)) wanted
          ∙ ap (λ s. option_or s (called_in compilation table k node name)) e
          ∙ ap (λ a. option_or submodule (option_or a (recipe_meant compilation table node name))) f
          ∙ ap (λ r. option_or submodule (option_or alias r)) g

      submodule_is : (s : Option ℕ) → submodule_in compilation.modules.items k name ≡ s → submodule_meant compilation.modules.items node.submodules.items name ≡ option_map Submodule s
      submodule_is s e = submodule_found w compilation tabled.of k node here name ∙ ap (option_map Submodule) e

      inside_of : (s : Option ℕ) → submodule_in compilation.modules.items k name ≡ s → inside_row k name ≡ option_and_then (λ j. row_of compilation settle base working (path k ++ name ∷ []) j (slice_get compilation.modules.items j)) s
      inside_of s e = ap (option_and_then (λ j. row_of compilation settle base working (path k ++ name ∷ []) j (slice_get compilation.modules.items j))) (place_inside compilation k (path k) name (found k node here) ∙ e)

      inner_is : (inner : ℕ) → submodule_in compilation.modules.items k name ≡ Some inner → IsSubmoduleOf w compilation k node name (Some inner)
      inner_is inner e = subst (IsSubmoduleOf w compilation k node name) e (submodules_are_found w compilation tabled.of tabled.single k node here name)

      -- no name is two of them
      no_alias : (kind_place : Place) → recipe_of compilation (Some node) name ≡ Some kind_place → (place : Place) → first_named (text_at compilation) node.aliases.items name ≡ Some place → ⊥
      no_alias p e place f =
          let keeps = (recipe_found k node here name p e).1 in
          let a = defined_alias w compilation tabled.of k node here name place f in
          never_both w node.source.now name a_recipe an_alias refl (λ same. cc same) (tabled.single k node here a_recipe name refl) keeps.key a.0 keeps.at a.1 (recipe_item keeps.attributes keeps.recipe) a.2 keeps.keeps.defines a.3

      no_submodule : (p : Place) → recipe_of compilation (Some node) name ≡ Some p → (inner : ℕ) → submodule_in compilation.modules.items k name ≡ Some inner → ⊥
      no_submodule p e inner f =
          let keeps = (recipe_found k node here name p e).1 in
          let i = (inner_is inner f).1 in
          let d = defines_module w node.source.now name i.file (inner_is inner f).0.source.now i.of i.is in
          never_both w node.source.now name a_recipe a_submodule refl (λ same. cc same) (tabled.single k node here a_recipe name refl)
          keeps.key i.file keeps.at i.is.place (recipe_item keeps.attributes keeps.recipe) (module_item i.is.has.attributes i.is.line) keeps.keeps.defines d

      neither : (place : Place) → first_named (text_at compilation) node.aliases.items name ≡ Some place → (inner : ℕ) → submodule_in compilation.modules.items k name ≡ Some inner → ⊥
      neither place e inner f =
          let a = defined_alias w compilation tabled.of k node here name place e in
          let i = (inner_is inner f).1 in
          let d = defines_module w node.source.now name i.file (inner_is inner f).0.source.now i.of i.is in
          never_both w node.source.now name an_alias a_submodule refl (λ same. cc same) (tabled.single k node here an_alias name refl) a.0 i.file a.1 i.is.place a.2 (module_item i.is.has.attributes i.is.line) a.3 d

      by_cases : (r : Option Place) → recipe_of compilation (Some node) name ≡ r → (a : Option Place) → first_named (text_at compilation) node.aliases.items name ≡ a → (s : Option ℕ) → submodule_in compilation.modules.items k name ≡ s → Found k name
      by_cases (Some p) e (Some q) f s g = absurd (no_alias p e q f)
      by_cases (Some p) e None f (Some inner) g = absurd (no_submodule p e inner g)
      by_cases (Some p) e None f None g =
          let c = recipe_found k node here name p e in
          let rank = has_rank k node here name p c.0 c.1 in
          let r = recipe_there w compilation (node_view node) p c.1.key c.1.at c.1.attributes c.1.recipe c.1.there in
          let un = is_unaliased k node here name f in
          a_recipe_there rank.rank (row_in k p r.0) (recipe_named_is k node here name p r.0 e r.1 c.1)
          (meaning_is None None (Some (Recipe rank.rank)) (submodule_is None g) un.by_place (recipe_ranked node name p rank.rank e rank.placed rank.within)) rank.within rank.called
      by_cases None e (Some q) f (Some inner) g = absurd (neither q f inner g)
      by_cases None e (Some q) f None g =
          let al = is_aliased k node here name q f in
          an_alias_there al.rank al.target (no_recipe_named k node here name e) al.by_name (meaning_is None (Some (Recipe al.rank)) None (submodule_is None g) al.by_place (no_recipe_ranked node name e)) al.within al.called
      by_cases None e None f (Some inner) g =
          let un = is_unaliased k node here name f in
          let i = inner_is inner g in
          let own = path_of_inner inner g in
          a_module_there inner i.0 _ (no_recipe_named k node here name e) un.by_name
          (inside_of (Some inner) g ∙ ap (row_of compilation settle base working (path k ++ name ∷ []) inner) i.1.there)
          (meaning_is (Some (Submodule inner)) None None (submodule_is (Some inner) g) un.by_place (no_recipe_ranked node name e)) i.1.there own
        where
          path_of_inner : (inner : ℕ) → submodule_in compilation.modules.items k name ≡ Some inner → path inner ≡ path k ++ name ∷ []
          path_of_inner inner g = paths_are_own w compilation tabled.of tabled.single (path k ++ name ∷ []) inner (place_inside compilation k (path k) name (found k node here) ∙ g)
      by_cases None e None f None g =
          let un = is_unaliased k node here name f in
          nothing_there (no_recipe_named k node here name e) un.by_name (inside_of None g) (meaning_is None None None (submodule_is None g) un.by_place (no_recipe_ranked node name e))

      pub found_there : Found k name
      found_there = by_cases (recipe_of compilation (Some node) name) refl (first_named (text_at compilation) node.aliases.items name) refl (submodule_in compilation.modules.items k name) refl
