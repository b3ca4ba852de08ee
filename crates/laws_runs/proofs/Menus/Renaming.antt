-- Menus by places are those by paths and names.
use Rattle.std.proofs.Common.{IfSome, subst, ◌≡◌, inl, inr, sym, ◌∙◌, ap, true, false, cond, List, [], ◌∷◌, ◌++◌, ◌<◌, ℕ, Option, Some, None, refl, arith, length, nat_lt, true≢false}
use Rattle.std.specs.Prelude.{Contains, slice_get, bytes_eq}
use Rattle.std.specs.List.{All}
use Rattle.std.specs.Option.{option_and_then, option_map}
use Rattle.std.proofs.lemmas.List.Elements.{All-contains}
use Rattle.std.proofs.lemmas.Option.{cond_some, none-some, same_Some, slice_get_within}
use Rattle.std.proofs.lemmas.Slice.Eq.{bytes_eq-Decides}
use Rattle.just_text.specs.Tokens.{lexeme}
use Rattle.tree_expressions.specs.Shape.{Shape}
use Rattle.tree_items.specs.declared.ast.Item.{Item}
use Rattle.tree_items.specs.declared.ast.Item.TheVariants.{Alias, Assignment, Comment, Function, Import, Module, Newline, Recipe as RecipeItem, Set, Unexport}
use Rattle.tree_items.specs.declared.recipe.Recipe.{Recipe as RecipeOf}
use Rattle.tree_items.specs.declared.recipe.UnresolvedDependency.{UnresolvedDependency}
use Rattle.parse_attributed_items.specs.Held.{IsAscii, IsOwnItem}
use Rattle.evaluate_context.specs.declared.settings.Settings.{Settings}
use Rattle.modules_compilation.specs.Modulepaths.{path_in}
use Rattle.modules_compilation.specs.Places.{item_at, items_of}
use Rattle.modules_compilation.specs.declared.compilation.Compilation.{Compilation}
use Rattle.modules_compilation.specs.declared.module_node.File.{File}
use Rattle.modules_compilation.specs.declared.module_node.ModuleNode.{ModuleNode}
use Rattle.modules_compilation.specs.declared.place.Place.{Place}
use Rattle.resolve_recipes.specs.Defaults.{default_of}
use Rattle.resolve_recipes.specs.Named.{recipe_of, text_at}
use Rattle.resolve_recipes.specs.Nodes.{recipe_at}
use Rattle.resolve_recipes.specs.Nodes as kept_nodes
use Rattle.resolve_recipes.specs.Standing.{place_in}
use Rattle.resolve_analysis.specs.declared.module_reads.ModuleReads.{ModuleReads}
use Rattle.resolve_analysis.specs.declared.recipes.RecipeTable.{RecipeTable}
use Rattle.meaning_dialogues.specs.Evaluation.{Value}
use Rattle.meaning_rules.specs.Worlds.Given.{Overrides, Text, World}
use Rattle.meaning_rules.specs.Worlds.Modules.{root}
use Rattle.meaning_rules.proofs.Worlds.Places.{contains_at, place_of as place_among}
use Rattle.laws_modules.specs.Names.Names.{HasNode, KeepsRecipe}
use Rattle.laws_modules.proofs.Names.Found.{found_at, none_found, there_within}
use Rattle.laws_modules.proofs.Names.Modules.{modules_are_nodes}
use Rattle.laws_modules.proofs.Names.Named.{listed, recipes}
use Rattle.meaning_evaluation.specs.Named.{ModuleRow, RecipeName}
use Rattle.laws_runs.specs.Resolved.Definitions.{alias_named, definitions_of, place_of, recipe_named, row_at}
use Rattle.laws_runs.specs.Resolved.Modules.{PathsAreOwn, PathsLead, PlacesHavePaths}
use Rattle.meaning_runs.specs.Words.{WordMeaning, Words, recipe, submodule}
use Rattle.laws_runs.specs.Words.Met.{IsMet, IsNamed, IsReached, at_root, by_default, by_name, inside}
use Rattle.laws_runs.specs.Words.Renamed.{IsRenamed, renamed}
use Rattle.just_meaning.specs.Menus.{meant_by, menu_of, slots_in}
use Rattle.analyze_words.specs.Menus.{default_in, meaning_in}
use Rattle.analyze_words.specs.Worded.{meant, name_of as callable_name, slots_of, there, words_of}
use Rattle.analyze_words.specs.declared.menu.Meaning.{Meaning}
use Rattle.analyze_words.specs.declared.menu.Meaning.TheVariants.{Recipe, Submodule}
use Rattle.analyze_words.specs.declared.menu.Menus.{Menus}
use Rattle.justfile_analyzer.specs.MenusOf.{AreMenusOf, IsMeant, lists_by, meaning_at, slot_rows}
use Rattle.laws_runs.specs.Menus.Named.{IsTabled, name_at, name_of as recipe_name}
use Rattle.laws_runs.proofs.Menus.Defaults.{default_listed}
use Rattle.laws_runs.proofs.Menus.Homes.{home_of, keeps_listed}
use Rattle.laws_runs.proofs.Menus.Lists.{less_told, less_true, one_place, wanted_if_named}
use Rattle.laws_runs.proofs.Menus.Meanings.{Found, a_module_there, a_recipe_there, an_alias_there, found_there, has_rank, node_found, nothing_there, recipe_by, recipe_named_is, row_called, text_kept}
use Rattle.laws_runs.proofs.Menus.Slots.{slots_alike}
use Rattle.laws_runs.proofs.Menus.Table.{row_kept}

-- ---- options of recipes

-- the item of a recipe
recipe_back : (item : Item) (r : RecipeOf UnresolvedDependency) → kept_nodes.recipe_of (Some item) ≡ Some r → item ≡ RecipeItem r
recipe_back (Alias a) r e = absurd (none-some r e)
recipe_back (Assignment a) r e = absurd (none-some r e)
recipe_back (Comment text) r e = absurd (none-some r e)
recipe_back (Function f) r e = absurd (none-some r e)
recipe_back (Import i) r e = absurd (none-some r e)
recipe_back (Module m) r e = absurd (none-some r e)
recipe_back Newline r e = absurd (none-some r e)
recipe_back (RecipeItem q) r e = ap (λ x. RecipeItem x) (same_Some q r e)
recipe_back (Set s) r e = absurd (none-some r e)
recipe_back (Unexport u) r e = absurd (none-some r e)

item_back : (o : Option Item) (r : RecipeOf UnresolvedDependency) → kept_nodes.recipe_of o ≡ Some r → o ≡ Some (RecipeItem r)
item_back None r e = absurd (none-some r e)
item_back (Some item) r e = ap (λ x. Some x) (recipe_back item r e)

-- ---- the names of a module's recipes

module _ (w : World) (compilation : Compilation) (reads : List ModuleReads) (table : RecipeTable) (tabled : IsTabled w compilation reads table) where
  -- a recipe of the compilation is what its attributes make of it
  own_recipe : (place : Place) (r : RecipeOf UnresolvedDependency) → recipe_at compilation place ≡ Some r → IsOwnItem w.expansion (RecipeItem r)
  own_recipe place r e = by_file (slice_get compilation.files.items place.file) refl (item_back (item_at compilation place) r e)
    where
      by_file : (o : Option File) → slice_get compilation.files.items place.file ≡ o → slice_get (items_of o) place.item ≡ Some (RecipeItem r) → IsOwnItem w.expansion (RecipeItem r)
      by_file None is at = absurd (none-some (RecipeItem r) at)
      by_file (Some file) is at = All-contains (IsOwnItem w.expansion) file.ast.items.items (RecipeItem r) (tabled.options place.file file is) (contains_at file.ast.items.items place.item (RecipeItem r) at)

  -- a recipe of the module's list is found by its name
  found_by_name : (k : ℕ) (node : ModuleNode) → HasNode w compilation k node → (name : Text) (place : Place) → Contains node.recipes.items place
      → KeepsRecipe w compilation node name place → text_at compilation place ≡ name → recipe_of compilation (Some node) name ≡ Some place
  found_by_name k node here name place c keeps text = by_found (recipe_of compilation (Some node) name) refl
    where
      names : List Text
      names = (recipes w compilation tabled.of k node here).names

      -- the name at a place of the list
      name_of : (i : ℕ) (p : Place) → slice_get node.recipes.items i ≡ Some p → text_at compilation p ≡ name → slice_get names i ≡ Some name
      name_of i p at is =
          let lt = slice_get_within node.recipes.items i p at in
          let many = (recipes w compilation tabled.of k node here).are.many in
          let n = there_within names i (omega (arith, lt, many)) in
          let l = listed w compilation tabled.of k node here i n.0 p n.1 at in
          n.1 ∙ ap (λ t. Some t) (sym l.1 ∙ is)

      by_found : (o : Option Place) → recipe_of compilation (Some node) name ≡ o → recipe_of compilation (Some node) name ≡ Some place
      by_found (Some p) e =
          let f = found_at (λ q. bytes_eq (text_at compilation q) name) node.recipes.items p e in
          let i = place_among node.recipes.items place c in
          let at = name_of i.0 place i.1 text in
          let at' = name_of f.0 p f.1 ((bytes_eq-Decides (text_at compilation p) name).0 f.2) in
          let same : i.0 ≡ f.0 = one_place names i.0 f.0 name (recipes w compilation tabled.of k node here).are.sorted at at' in
          e ∙ sym f.1 ∙ ap (slice_get node.recipes.items) (sym same) ∙ i.1
      by_found None e =
          let i = place_among node.recipes.items place c in
          absurd (true≢false (sym ((bytes_eq-Decides (text_at compilation place) name).1 text) ∙ none_found (λ q. bytes_eq (text_at compilation q) name) node.recipes.items e i.0 place i.1))

module _ (paths_lead : PathsLead) (paths_are_own : PathsAreOwn) (places_have_paths : PlacesHavePaths) (w : World) (compilation : Compilation) (reads : List ModuleReads) (table : RecipeTable) (tabled : IsTabled w compilation reads table) where
  module _ (o : Overrides) (settle : ℕ → Shape → Value) (base working : Text) (settings : List Settings) (words : List Text) (menus : Menus) (are : AreMenusOf compilation table settings words menus) where
    abbrev path : ℕ → List Text
    path k = path_in compilation.modules.items k

    abbrev called : ℕ → RecipeName
    called rank = name_at compilation table rank

    abbrev by_place : Words ℕ ℕ
    by_place = words_of menus

    abbrev by_path : Words (List Text) RecipeName
    by_path = menu_of (definitions_of compilation w.expansion o settle base working)

    abbrev inside_row : ℕ → Text → Option ModuleRow
    inside_row k name = row_at compilation settle base working (path k ++ name ∷ [])

    -- ---- names

    there_if : (rank : ℕ) → rank < length table.recipes.items → there menus rank ≡ Some rank
    there_if rank lt = let count = are.count in ap (λ b. cond b (Some rank) None) (less_true rank (length menus.recipes.items) (omega (arith, lt, count)))

    means : (k : ℕ) (name : Text) (m : Option Meaning) → meaning_at compilation table words k name ≡ m → by_place.meaning k name ≡ option_and_then (meant menus) m
    means k name m e = ap (option_and_then (meant menus)) (are.meanings k name ∙ e)

    means_recipe : (k : ℕ) (name : Text) (rank : ℕ) → meaning_at compilation table words k name ≡ Some (Recipe rank) → rank < length table.recipes.items → by_place.meaning k name ≡ Some (recipe rank)
    means_recipe k name rank e lt = means k name (Some (Recipe rank)) e ∙ ap (option_map recipe) (there_if rank lt)

    abbrev names_alike : ℕ → Text → Type 0
    names_alike k name = by_path.meaning (path k) name ≡ option_map (renamed path called) (by_place.meaning k name)

    name_alike : (k : ℕ) (name : Text) → Found paths_lead paths_are_own places_have_paths w compilation reads table tabled o settle base working words k name → names_alike k name
    name_alike k name (a_recipe_there rank row e m lt is) =
        ap (λ r. meant_by (recipe_by (path k) name) r (alias_named compilation (recipe_by (path k) name)) (inside_row k name) (path k ++ name ∷ [])) e
        ∙ ap (λ r. Some (recipe r)) (sym is)
        ∙ sym (ap (option_map (renamed path called)) (means_recipe k name rank m lt))
    name_alike k name (an_alias_there rank target e f m lt is) =
        ap (λ r. meant_by (recipe_by (path k) name) r (alias_named compilation (recipe_by (path k) name)) (inside_row k name) (path k ++ name ∷ [])) e
        ∙ ap (λ a. meant_by (recipe_by (path k) name) None a (inside_row k name) (path k ++ name ∷ [])) f
        ∙ ap (λ r. Some (recipe r)) (sym is)
        ∙ sym (ap (option_map (renamed path called)) (means_recipe k name rank m lt))
    name_alike k name (a_module_there inner node row e f g m at is) =
        ap (λ r. meant_by (recipe_by (path k) name) r (alias_named compilation (recipe_by (path k) name)) (inside_row k name) (path k ++ name ∷ [])) e
        ∙ ap (λ a. meant_by (recipe_by (path k) name) None a (inside_row k name) (path k ++ name ∷ [])) f
        ∙ ap (λ r. meant_by (recipe_by (path k) name) None None r (path k ++ name ∷ [])) g
        ∙ ap (λ p. Some (submodule p)) (sym is)
        ∙ sym (ap (option_map (renamed path called)) (means k name (Some (Submodule inner)) m))
    name_alike k name (nothing_there e f g m) =
        ap (λ r. meant_by (recipe_by (path k) name) r (alias_named compilation (recipe_by (path k) name)) (inside_row k name) (path k ++ name ∷ [])) e
        ∙ ap (λ a. meant_by (recipe_by (path k) name) None a (inside_row k name) (path k ++ name ∷ [])) f
        ∙ ap (λ r. meant_by (recipe_by (path k) name) None None r (path k ++ name ∷ [])) g
        ∙ sym (ap (option_map (renamed path called)) (means k name None m))

    -- ---- modules that are reached

    found_named : (k : ℕ) (node : ModuleNode) → HasNode w compilation k node → (name : Text) → IsNamed words name → Found paths_lead paths_are_own places_have_paths w compilation reads table tabled o settle base working words k name
    found_named k node here name named = found_there paths_lead paths_are_own places_have_paths w compilation reads table tabled o settle base working words k node here name (wanted_if_named words name named)

    inner_node : (k : ℕ) (name : Text) (inner : ℕ) → by_place.meaning k name ≡ Some (submodule inner) → Found paths_lead paths_are_own places_have_paths w compilation reads table tabled o settle base working words k name
        → (node : ModuleNode) × HasNode w compilation inner node
    inner_node k name inner e (a_recipe_there rank row f m lt is) = absurd (let no : recipe rank ≡ submodule inner = same_Some (recipe rank) (submodule inner) (sym (means_recipe k name rank m lt) ∙ e) in cc no)
    inner_node k name inner e (an_alias_there rank target f g m lt is) = absurd (let no : recipe rank ≡ submodule inner = same_Some (recipe rank) (submodule inner) (sym (means_recipe k name rank m lt) ∙ e) in cc no)
    inner_node k name inner e (a_module_there other node row f g h m at is) =
        let both : submodule other ≡ submodule inner = same_Some (submodule other) (submodule inner) (sym (means k name (Some (Submodule other)) m) ∙ e) in
        let same : other ≡ inner = cc both in
        (node, ap (slice_get compilation.modules.items) (sym same) ∙ at)
    inner_node k name inner e (nothing_there f g h m) = absurd (none-some (submodule inner) (sym (means k name None m) ∙ e))

    root_place : place_of compilation [] ≡ Some 0
    root_place = refl

    root_node : (node : ModuleNode) × HasNode w compilation 0 node
    root_node =
        let m = modules_are_nodes w compilation tabled.of tabled.single [] w.root root in
        let at : place_of compilation [] ≡ Some m.0 = (paths_lead w compilation tabled.of tabled.single [] m.0).1 m.3 in
        let same : 0 ≡ m.0 = same_Some 0 m.0 at in
        (m.1, ap (slice_get compilation.modules.items) same ∙ m.2)

    reached_node : (k : ℕ) → IsReached by_place words k → (node : ModuleNode) × HasNode w compilation k node
    reached_node _ at_root = root_node
    reached_node k (inside {here} {inner} {name} reached named e) =
        let n = reached_node here reached in
        inner_node here name k e (found_named here n.0 n.1 name named)

    -- ---- defaults

    default_alike : (k : ℕ) (node : ModuleNode) → HasNode w compilation k node → by_path.default (path k) ≡ option_map called (by_place.default k)
    default_alike k node here = by_place_of (default_of compilation node) refl
      where
        default_placed : (found : Option Place) → default_of compilation node ≡ found → by_place.default k ≡ option_and_then (there menus) (option_and_then (place_in table.places) found)
        default_placed found e =
            ap (option_and_then (there menus)) (are.defaults k ∙ ap (option_and_then (λ (n : ModuleNode). option_and_then (place_in table.places) (default_of compilation n))) here ∙ ap (option_and_then (place_in table.places)) e)

        default_named : (found : Option Place) → default_of compilation node ≡ found → by_path.default (path k) ≡ option_map (λ p. recipe_by (path k) (text_at compilation p)) found
        default_named found e =
            ap (λ n. option_map (λ p. recipe_by (path k) (text_at compilation p)) (option_and_then (default_of compilation) n)) (node_found paths_lead paths_are_own places_have_paths w compilation reads table tabled k node here)
            ∙ ap (option_map (λ p. recipe_by (path k) (text_at compilation p))) e

        by_place_of : (found : Option Place) → default_of compilation node ≡ found → by_path.default (path k) ≡ option_map called (by_place.default k)
        by_place_of None e = default_named None e ∙ sym (ap (option_map called) (default_placed None e))
        by_place_of (Some p) e =
            let c = default_listed compilation node p e in
            let keeps = keeps_listed w compilation tabled.of k node here p c in
            let r = has_rank paths_lead paths_are_own places_have_paths w compilation reads table tabled k node here keeps.0 p c keeps.1 in
            default_named (Some p) e
            ∙ ap (λ t. Some (recipe_by (path k) t)) (text_kept paths_lead paths_are_own places_have_paths w compilation reads table tabled node keeps.0 p keeps.1)
            ∙ ap (λ n. Some n) (sym r.called)
            ∙ sym (ap (option_map called) (default_placed (Some p) e ∙ ap (option_and_then (there menus)) r.placed ∙ there_if r.rank r.within))

    -- ---- parameters

    abbrev as_recipe : Option ℕ → Option (WordMeaning ℕ ℕ)
    as_recipe place = option_map recipe place

    meant_case : (m : Option Meaning) (rank : ℕ) → option_and_then (meant menus) m ≡ Some (recipe rank) → (m ≡ Some (Recipe rank)) × (rank < length menus.recipes.items)
    meant_case None rank e = absurd (none-some (recipe rank) e)
    meant_case (Some (Submodule inner)) rank e = absurd (let no : submodule inner ≡ recipe rank = same_Some (submodule inner) (recipe rank) e in cc no)
    meant_case (Some (Recipe place)) rank e = by_there (there menus place) refl e
      where
        by_there : (q : Option ℕ) → there menus place ≡ q → as_recipe q ≡ Some (recipe rank) → (Some (Recipe place) ≡ Some (Recipe rank)) × (rank < length menus.recipes.items)
        by_there None is e = absurd (none-some (recipe rank) e)
        by_there (Some q) is e =
            let both : recipe q ≡ recipe rank = same_Some (recipe q) (recipe rank) e in
            let one : q ≡ rank = cc both in
            let c = cond_some (nat_lt place (length menus.recipes.items)) place q is in
            let same : place ≡ rank = c.1 ∙ one in
            let lt = less_told place (length menus.recipes.items) c.0 in
            (ap (λ n. Some (Recipe n)) same, omega (arith, lt, same))

    default_case : (d : Option ℕ) (rank : ℕ) → option_and_then (there menus) d ≡ Some rank → (d ≡ Some rank) × (rank < length menus.recipes.items)
    default_case None rank e = absurd (none-some rank e)
    default_case (Some place) rank e =
        let c = cond_some (nat_lt place (length menus.recipes.items)) place rank e in
        let same = c.1 in
        let lt = less_told place (length menus.recipes.items) c.0 in
        (ap (λ n. Some n) same, omega (arith, lt, same))

    -- what is met is meant, and stands in the table
    met_meant : (rank : ℕ) → IsMet by_place words rank → IsMeant compilation table words rank × (rank < length menus.recipes.items)
    met_meant rank (by_name {here} {r} {name} reached named e) =
        let m = meant_case (meaning_in menus here name) rank e in
        ((here, inr (name, sym (are.meanings here name) ∙ m.0)), m.1)
    met_meant rank (by_default {here} {r} reached e) =
        let d = default_case (default_in menus here) rank e in
        ((here, inl (sym (are.defaults here) ∙ d.0)), d.1)

    slots_meant : (rank : ℕ) → IsMeant compilation table words rank → rank < length menus.recipes.items → by_path.slots (called rank) ≡ by_place.slots rank
    slots_meant rank meant_so lt =
        let count = are.count in
        let callable = there_within menus.recipes.items rank lt in
        let resolved = there_within table.recipes.items rank (omega (arith, lt, count)) in
        let row = row_kept compilation reads table tabled.many tabled.is_table rank resolved.0 resolved.1 in
        let kept = row.0 in
        let name = lexeme kept.2.name.token in
        let h = home_of w compilation tabled.of kept row.1 in
        let found = found_by_name w compilation reads table tabled kept.0 h.node h.here name kept.1 h.listed h.keeps (text_kept paths_lead paths_are_own places_have_paths w compilation reads table tabled h.node name kept.1 h.keeps) in
        let own = own_recipe w compilation reads table tabled kept.1 kept.2 h.there in
        let shown = (are.recipes rank row.2.resolved callable.0 row.2.here callable.1).shown meant_so in
        ap (λ n. slots_in (recipe_named compilation w.expansion n)) (row_called paths_lead paths_are_own places_have_paths w compilation reads table tabled rank kept row.2)
        ∙ ap slots_in (recipe_named_is paths_lead paths_are_own places_have_paths w compilation reads table tabled kept.0 h.node h.here name kept.1 kept.2 found h.there h.keeps)
        ∙ slots_alike w.expansion kept.2.attributes kept.2.parameters.items own.0
        (λ p letter c e. subst (λ (short : Option ℕ). IfSome short (λ letter. letter < 128)) e (All-contains IsAscii kept.2.parameters.items p own.1 c))
        ∙ sym (ap slots_of callable.1 ∙ shown ∙ ap (λ place. slot_rows (recipe_at compilation place)) row.2.standing ∙ ap slot_rows h.there)

    -- ---- names of recipes

    own_name : (rank : ℕ) → rank < length menus.recipes.items → by_path.name (called rank) ≡ by_place.name rank
    own_name rank lt =
        let count = are.count in
        let callable = there_within menus.recipes.items rank lt in
        let resolved = there_within table.recipes.items rank (omega (arith, lt, count)) in
        let name = (are.recipes rank resolved.0 callable.0 resolved.1 callable.1).name in
        ap (λ found. (recipe_name compilation found).recipe) resolved.1 ∙ sym name ∙ sym (ap callable_name callable.1)

    -- ---- all of it

    pub is_renamed : by_path.lists ≡ lists_by (slice_get settings 0) → IsRenamed by_place by_path path called words
    is_renamed lists = record {
      root = sym (paths_are_own w compilation tabled.of tabled.single [] 0 refl);
      lists = lists ∙ sym are.lists;
      names = λ k name reached named.
          let n = reached_node k reached in
          name_alike k name (found_named k n.0 n.1 name named);
      defaults = λ k reached. let n = reached_node k reached in default_alike k n.0 n.1;
      own = λ rank met. let m = met_meant rank met in own_name rank m.1;
      slots = λ rank met. let m = met_meant rank met in slots_meant rank m.0 m.1;
    }
