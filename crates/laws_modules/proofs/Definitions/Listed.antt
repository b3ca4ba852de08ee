-- The lists of a module are what it keeps in the world.
use Rattle.std.proofs.Common.{◌≡◌, ◌≢◌, sym, ◌∙◌, ap, subst, Bool, List, [], ◌++◌, ℕ, ◌<◌, ◌≤◌, Some, refl, map}
use Rattle.std.specs.Prelude.{Contains}
use Rattle.std.specs.List.{filter}
use Rattle.std.specs.List.Sorted.{IsStrictlySortedBy}
use Rattle.std.specs.declared.cmp.Ordering.TheVariants.{Less}
use Rattle.std.proofs.lemmas.Option.{same_Some}
use Rattle.just_text.specs.Tokens.{lexeme}
use Rattle.just_text.specs.declared.os.Os.{Os}
use Rattle.tree_items.specs.Files.{ItemShape, recipe_item}
use Rattle.modules_compilation.specs.Fronts.{front_of}
use Rattle.modules_compilation.specs.Tables.{text_cmp}
use Rattle.modules_compilation.specs.declared.module_node.File.{File}
use Rattle.modules_compilation.specs.declared.module_node.ModuleNode.{ModuleNode}
use Rattle.modules_compilation.specs.declared.place.Place.{Place}
use Rattle.modules_compilation.specs.declared.recipe_name.RecipeName.{RecipeName}
use Rattle.modules_definitions.specs.Defining.{space_of as found_space}
use Rattle.modules_definitions.specs.Keeping.{IsKept, ShareName}
use Rattle.modules_definitions.specs.Lists.{is_same_kind, places_of, recipe_names_of, unexports_of}
use Rattle.modules_definitions.specs.declared.definition.Definition.{Definition}
use Rattle.modules_definitions.specs.declared.definition.Kind.{Kind as FoundKind}
use Rattle.modules_definitions.specs.declared.definition.Kind.TheVariants.{Alias, Disabled, Function, Recipe, Set, Unexport, Variable}
use Rattle.modules_definitions.specs.declared.definition.Space.TheVariants.{Disabled as DisabledSpace}
use Rattle.modules_definitions.proofs.Elements.{AnyTwo, contains_at, place_of}
use Rattle.modules_definitions.proofs.Orders.{IsBehind, any_behind}
use Rattle.meaning_rules.specs.Worlds.Given.{Text, World}
use Rattle.meaning_rules.specs.Worlds.Keeping.{IsDefined, IsDisabled, Keeps, KeepsAt, Kind, an_alias, a_function, a_recipe, a_setting, a_variable, an_unexport}
use Rattle.meaning_rules.specs.Worlds.Compiled.{AreDisabled, AreRecipes, AreUnexports, FileView, HasDisabled, HasList, IsAt, IsBefore, IsList, NodeView}
use Rattle.meaning_rules.specs.Worlds.Views.{file_view, name_text, node_view}
use Rattle.laws_modules.specs.Definitions.Kinds.{kind_of}
use Rattle.laws_modules.specs.Definitions.Nodes.{IsHere}
use Rattle.laws_modules.specs.Definitions.Laws.{AreMeant, AreOfOneKind, AreSettled, ListsAreMeant}
use Rattle.laws_modules.proofs.Definitions.Defined.{definitions_are_meant}
use Rattle.laws_modules.proofs.Definitions.KeptDefinitions.{kept_are_meant, meant_are_kept}
use Rattle.laws_modules.proofs.Definitions.Lists.{contains_back, filter_back, filter_contains, filter_part, map_alike, map_back, map_contains, map_length, map_map, map_two, part_contains, part_two, sorted_of_two}
use Rattle.laws_modules.proofs.Definitions.Single.{alone_kept, of_one_kind}
use Rattle.laws_modules.proofs.Definitions.Sorting.{is_before, text_less}
use Rattle.laws_modules.proofs.Definitions.Spaces.{spaces_agree, told_apart}
use Rattle.laws_modules.proofs.Definitions.Standing.{as_placed, one_file, one_rank}
use Rattle.laws_modules.proofs.Definitions.Tests.{Tells, alias_told, disabled_told, function_told, recipe_told, set_told, unexport_alone, unexport_told, variable_told}

-- a view of a module with these files
pub record IsViewOf (node : ModuleNode) (view : NodeView) : Type 0 where
  pub first : view.first_file ≡ node.first_file
  pub end : view.end_file ≡ node.end_file
  pub source : view.source ≡ node.source.now

module _ (w : World) (os : Os) (files : List File) (modules : List ModuleNode) (nodes : List NodeView) (k : ℕ) (node : ModuleNode) (ds kept : List Definition) (settled : AreSettled w os files modules k node ds kept) where
  abbrev views : List FileView
  views = map file_view files

  meant : AreMeant w files node nodes ds
  meant = definitions_are_meant w os files modules nodes k node ds settled.found

  pub in_all : (d : Definition) → Contains kept d → Contains ds d
  in_all d c = part_contains kept ds settled.keeps.part d c

  space_here : (d : Definition) → Contains ds d → d.space ≡ found_space d.kind
  space_here d c = (settled.found.are.sound d c).1.space_is

  one_kind : AreOfOneKind ds
  one_kind = of_one_kind settled.allowed ds settled.single space_here

  kept_behind : AnyTwo IsBehind kept
  kept_behind = part_two IsBehind kept ds settled.keeps.part (any_behind ds settled.order)

  -- ---- the definitions of a kind that are kept

  module _ (test : FoundKind → Bool) (kind : Kind) (tells : Tells test kind) where
    abbrev pub chosen : List Definition
    chosen = filter (λ (d : Definition). test d.kind) kept

    abbrev pub names : List Text
    names = map (λ (d : Definition). d.text.now) chosen

    pub chosen_there : (d : Definition) → Contains chosen d → Contains kept d × (kind_of d.kind ≡ Some kind)
    chosen_there d c = let p = filter_back (λ (x : Definition). test x.kind) kept d c in (p.0, (tells d.kind).0 p.1)

    pub there_chosen : (d : Definition) → Contains kept d → kind_of d.kind ≡ Some kind → Contains chosen d
    there_chosen d c is = filter_contains (λ (x : Definition). test x.kind) kept d c ((tells d.kind).1 is)

    names_less : AnyTwo (λ (a b : Definition). text_cmp a.text.now b.text.now ≡ Less) chosen
    names_less i j a b lt e f =
        let part = filter_part (λ (x : Definition). test x.kind) kept in
        let p = chosen_there a (contains_at chosen i a e) in
        let q = chosen_there b (contains_at chosen j b f) in
        let ca = in_all a p.0 in
        let cb = in_all b q.0 in
        text_less a b (part_two IsBehind chosen kept part kept_behind i j a b lt e f)
        (space_here a ca ∙ spaces_agree a.kind b.kind kind kind p.1 q.1 refl ∙ sym (space_here b cb))
        (λ off. told_apart a.kind kind p.1 (sym (space_here a ca) ∙ off))
        (part_two (λ (x y : Definition). ShareName x y → ⊥) chosen kept part settled.keeps.once i j a b lt e f)

    pub names_sorted : IsStrictlySortedBy text_cmp names
    names_sorted = sorted_of_two text_cmp names (map_two (λ (s t : Text). text_cmp s t ≡ Less) (λ (d : Definition). d.text.now) chosen names_less)

  -- ---- as a view of the module has it

  module _ (view : NodeView) (is : IsViewOf node view) where
    to_view : (place : Place) (key : Text) (at : ℕ) (item : ItemShape) → IsHere w files node nodes place key at item → IsAt w views nodes view place key at item
    to_view place key at item h =
        record { from = subst (λ n. n ≤ place.file) (sym is.first) h.from; to = subst (λ n. place.file < n) (sym is.end) h.to; file = h.file; found = h.found; is = h.is; there = h.there; no_blank = h.no_blank; rank = h.rank }

    from_view : (place : Place) (key : Text) (at : ℕ) (item : ItemShape) → IsAt w views nodes view place key at item → IsHere w files node nodes place key at item
    from_view place key at item h =
        record { from = subst (λ n. n ≤ place.file) is.first h.from; to = subst (λ n. place.file < n) is.end h.to; file = h.file; found = h.found; is = h.is; there = h.there; no_blank = h.no_blank; rank = h.rank }

    -- the definitions of a kind that are kept are those that the module keeps
    module _ (test : FoundKind → Bool) (kind : Kind) (tells : Tells test kind) where
      abbrev chosen_here : List Definition
      chosen_here = chosen test kind tells

      abbrev Keeping : Text → Place → Type 0
      Keeping name place = (key : Text) × (at : ℕ) × (item : ItemShape) × IsAt w views nodes view place key at item × KeepsAt w view.source kind name key at item

      keeping : (d : Definition) → Contains chosen_here d → Keeping d.text.now d.place
      keeping d c =
          let p = chosen_there test kind tells d c in
          let h = kept_are_meant w os files modules nodes k node ds kept settled.found settled.order settled.keeps d kind p.0 p.1 in
          (h.key, h.at, h.item, to_view d.place h.key h.at h.item h.there, subst (λ own. KeepsAt w own kind d.text.now h.key h.at h.item) (sym is.source) h.keeps)

      all_kept : (name : Text) (item : ItemShape) → Keeps w view.source kind name item → Contains (names test kind tells) name
      all_kept name item h =
          let a = meant_are_kept w os files modules nodes k node ds kept settled.found settled.order settled.keeps one_kind kind name h.key h.place item (subst (λ own. KeepsAt w own kind name h.key h.place item) is.source h.kept) in
          subst (Contains (names test kind tells)) a.text_is (map_contains (λ (d : Definition). d.text.now) chosen_here a.d (there_chosen test kind tells a.d a.listed a.kind_is))

      pub is_list : IsList w views nodes view kind (names test kind tells) (map (λ (d : Definition). d.place) chosen_here)
      is_list = record {
        many = map_length (λ (d : Definition). d.text.now) chosen_here ∙ sym (map_length (λ (d : Definition). d.place) chosen_here);
        sorted = names_sorted test kind tells;
        sound = λ i name place e f.
            let p = map_back (λ (d : Definition). d.text.now) chosen_here i name e in
            let q = map_back (λ (d : Definition). d.place) chosen_here i place f in
            let one : p.0 ≡ q.0 = same_Some p.0 q.0 (sym p.1 ∙ q.1) in
            subst (λ t. Keeping t place) p.2 (subst (Keeping p.0.text.now) (ap (λ (d : Definition). d.place) one ∙ q.2) (keeping p.0 (contains_at chosen_here i p.0 p.1)));
        complete = all_kept;
      }

      pub has_list : (places : List Place) → places ≡ map (λ (d : Definition). d.place) chosen_here → HasList w views nodes view kind places
      has_list places e = (names test kind tells, subst (IsList w views nodes view kind (names test kind tells)) (sym e) is_list)

    -- ---- names that are not exported

    abbrev unexports : List Definition
    unexports = chosen (is_same_kind Unexport) an_unexport unexport_told

    unexported : (d : Definition) → Contains unexports d → IsDefined w view.source an_unexport d.text.now
    unexported d c =
        let p = chosen_there (is_same_kind Unexport) an_unexport unexport_told d c in
        let h = meant.sound d an_unexport (in_all d p.0) p.1 in
        subst (λ own. IsDefined w own an_unexport d.text.now) (sym is.source) (record { key = h.key; place = h.at; item = h.item; defines = h.defines })

    is_unexported : (name : Text) → IsDefined w view.source an_unexport name → Contains (names (is_same_kind Unexport) an_unexport unexport_told) name
    is_unexported name given =
        let h = subst (λ own. IsDefined w own an_unexport name) is.source given in
        let a = meant.complete an_unexport name h.key h.place h.item h.defines in
        let c = (settled.keeps.each a.d).1 (alone_kept settled.allowed ds settled.single a.d a.listed (unexport_alone settled.allowed a.d.kind a.kind_is)) in
        subst (Contains (names (is_same_kind Unexport) an_unexport unexport_told)) a.text_is
        (map_contains (λ (d : Definition). d.text.now) unexports a.d (there_chosen (is_same_kind Unexport) an_unexport unexport_told a.d c a.kind_is))

    pub are_unexports : view.unexports ≡ names (is_same_kind Unexport) an_unexport unexport_told → AreUnexports w views nodes view
    are_unexports e = record {
      sorted = subst (IsStrictlySortedBy text_cmp) (sym e) (names_sorted (is_same_kind Unexport) an_unexport unexport_told);
      each = λ name. (
        λ c.
            let p = contains_back (λ (d : Definition). d.text.now) unexports name (subst (λ ns. Contains ns name) e c) in
            subst (IsDefined w view.source an_unexport) p.2 (unexported p.0 p.1),
        λ h. subst (λ ns. Contains ns name) (sym e) (is_unexported name h),
      );
    }

    -- ---- recipes that another system disables

    abbrev off : List Definition
    off = filter (λ (d : Definition). is_same_kind Disabled d.kind) kept

    abbrev row : Definition → Text × Place
    row d = (d.text.now, d.place)

    off_there : (d : Definition) → Contains off d → Contains kept d × (d.kind ≡ Disabled)
    off_there d c = let p = filter_back (λ (x : Definition). is_same_kind Disabled x.kind) kept d c in (p.0, (disabled_told d.kind).0 p.1)

    off_space : (d : Definition) → Contains ds d → d.kind ≡ Disabled → d.space ≡ DisabledSpace
    off_space d c e = space_here d c ∙ ap found_space e

    -- each is kept
    off_kept : (d : Definition) → Contains ds d → d.kind ≡ Disabled → IsKept ds d
    off_kept d c e =
        let p = place_of ds d c in
        let space = off_space d c e in
        record {
          at = p.0;
          found = p.1;
          first = λ x cx s. absurd (s.told_apart (s.space ∙ space));
          last = λ j x f s same. absurd (s.told_apart (s.space ∙ space));
        }

    abbrev Apart : Definition → Definition → Type 0
    Apart a b = a.kind ≡ Disabled → b.kind ≡ Disabled → a.place ≢ b.place

    kept_apart : AnyTwo Apart kept
    kept_apart = part_two Apart kept ds settled.keeps.part settled.apart

    off_before : AnyTwo (λ (a b : Definition). IsBefore (row a) (row b)) off
    off_before i j a b lt e f =
        let part = filter_part (λ (x : Definition). is_same_kind Disabled x.kind) kept in
        let p = off_there a (contains_at off i a e) in
        let q = off_there b (contains_at off j b f) in
        is_before a b (part_two IsBehind off kept part kept_behind i j a b lt e f)
        (off_space a (in_all a p.0) p.1 ∙ sym (off_space b (in_all b q.0) q.1))
        (part_two Apart off kept part kept_apart i j a b lt e f p.1 q.1)

    -- of a recipe at a place it is no matter whether the module or its view is asked
    off_view : (name : Text) (place : Place) → HasDisabled w views nodes (node_view node) name place → HasDisabled w views nodes view name place
    off_view name place h = (h.0, h.1, h.2, h.3, to_view place h.0 h.1 (recipe_item h.2 h.3) h.4, subst (λ own. IsDisabled w own h.0 h.1 h.2 h.3) (sym is.source) h.5, h.6)

    is_off : (name : Text) (place : Place) → HasDisabled w views nodes view name place → Contains (map row off) (name, place)
    is_off name place h =
        let item = recipe_item h.2 h.3 in
        let here = from_view place h.0 h.1 item h.4 in
        let a = meant.all_disabled h.0 h.1 h.2 h.3 (subst (λ own. IsDisabled w own h.0 h.1 h.2 h.3) is.source h.5) in
        let d = a.0 in
        let p = as_placed w files nodes node d.place h.0 h.1 item a.4 in
        let q = as_placed w files nodes node place h.0 h.1 item here in
        let file = one_file w files node k settled.found.agrees.own_files d.place place h.0 h.1 h.1 item item p q in
        let same : d.place ≡ place = one_rank files node d.place place h.0 h.0 h.1 h.1 item item p q file refl in
        let c = (settled.keeps.each d).1 (off_kept d a.1 a.2) in
        let listed = map_contains row off d (filter_contains (λ (x : Definition). is_same_kind Disabled x.kind) kept d c ((disabled_told d.kind).1 a.2)) in
        subst (λ q. Contains (map row off) (name, q)) same (subst (λ t. Contains (map row off) (t, d.place)) (a.3 ∙ h.6) listed)

    has_off : (name : Text) (place : Place) → Contains (map row off) (name, place) → HasDisabled w views nodes view name place
    has_off name place c =
        let p = contains_back row off (name, place) c in
        let q = off_there p.0 p.1 in
        let h = off_view p.0.text.now p.0.place (meant.disabled p.0 (in_all p.0 q.0) q.1) in
        subst (HasDisabled w views nodes view name) (ap (λ r. r.1) p.2) (subst (λ t. HasDisabled w views nodes view t p.0.place) (ap (λ r. r.0) p.2) h)

    pub are_disabled : view.disabled ≡ map (λ (d : Definition). d.place) off → AreDisabled w views nodes view
    are_disabled e = record {
      rows = map row off;
      are = map_map (λ (r : Text × Place). r.1) row off ∙ sym e;
      sorted = λ i j a b lt f g. map_two IsBefore row off off_before i j a b lt f g;
      each = λ name place. (has_off name place, is_off name place);
    }

    -- ---- recipes with the fronts of their names

    abbrev recipes : List Definition
    recipes = chosen (is_same_kind Recipe) a_recipe recipe_told

    front_here : (d : Definition) → Contains recipes d → d.front ≡ front_of d.text.now
    front_here d c = let p = chosen_there (is_same_kind Recipe) a_recipe recipe_told d c in (settled.found.are.sound d (in_all d p.0)).1.front_is

    pub are_recipes : view.recipes ≡ map (λ (d : Definition). d.place) recipes → view.recipe_names ≡ map (λ (d : Definition). (d.front, d.place)) recipes → AreRecipes w views nodes view
    are_recipes e f = record {
      names = names (is_same_kind Recipe) a_recipe recipe_told;
      are = subst (IsList w views nodes view a_recipe (names (is_same_kind Recipe) a_recipe recipe_told)) (sym e) (is_list (is_same_kind Recipe) a_recipe recipe_told);
      fronts =
          ap (map (λ (r : ℕ × Place). r.0)) f ∙ map_map (λ (r : ℕ × Place). r.0) (λ (d : Definition). (d.front, d.place)) recipes
          ∙ map_alike (λ (d : Definition). d.front) (λ (d : Definition). front_of d.text.now) recipes front_here ∙ sym (map_map front_of (λ (d : Definition). d.text.now) recipes);
      places = ap (map (λ (r : ℕ × Place). r.1)) f ∙ map_map (λ (r : ℕ × Place). r.1) (λ (d : Definition). (d.front, d.place)) recipes ∙ sym e;
    }

    text_here : (d : Definition) → Contains unexports d → lexeme d.name.now.token ≡ d.text.now
    text_here d c = let p = chosen_there (is_same_kind Unexport) an_unexport unexport_told d c in sym (settled.found.are.sound d (in_all d p.0)).1.text_is

    pub unexport_texts : map name_text (unexports_of kept) ≡ names (is_same_kind Unexport) an_unexport unexport_told
    unexport_texts = map_map name_text (λ (d : Definition). d.name.now) unexports ∙ map_alike (λ (d : Definition). name_text d.name.now) (λ (d : Definition). d.text.now) unexports text_here

-- what is put behind nothing
behind_none : {X : Type 0} (after before gained : List X) → after ≡ before ++ gained → before ≡ [] → after ≡ gained
behind_none after before gained e none = e ∙ ap (λ xs. xs ++ gained) none

pub lists_are_meant : ListsAreMeant
lists_are_meant w os files modules nodes k before after ds kept settled empty g =
    let view = node_view after in
    let is : IsViewOf before view = record { first = g.same.first_file; end = g.same.end_file; source = ap (λ s. s.now) g.same.source } in
    let aliases = behind_none after.aliases.items before.aliases.items (places_of Alias kept) g.aliases empty.aliases in
    let assignments = behind_none after.assignments.items before.assignments.items (places_of Variable kept) g.assignments empty.assignments in
    let disabled = behind_none after.disabled.items before.disabled.items (places_of Disabled kept) g.disabled empty.disabled in
    let functions = behind_none after.functions.items before.functions.items (places_of Function kept) g.functions empty.functions in
    let recipes = behind_none after.recipes.items before.recipes.items (places_of Recipe kept) g.recipes empty.recipes in
    let recipe_names = behind_none after.recipe_names.items before.recipe_names.items (recipe_names_of kept) g.recipe_names empty.recipe_names in
    let sets = behind_none after.sets.items before.sets.items (places_of Set kept) g.sets empty.sets in
    let unexports = behind_none after.unexports.items before.unexports.items (unexports_of kept) g.unexports empty.unexports in
    record {
      aliases = has_list w os files modules nodes k before ds kept settled view is (is_same_kind Alias) an_alias alias_told after.aliases.items aliases;
      assignments = has_list w os files modules nodes k before ds kept settled view is (is_same_kind Variable) a_variable variable_told after.assignments.items assignments;
      functions = has_list w os files modules nodes k before ds kept settled view is (is_same_kind Function) a_function function_told after.functions.items functions;
      recipes = are_recipes w os files modules nodes k before ds kept settled view is recipes
          (ap (map (λ (r : RecipeName). (r.front, r.place))) recipe_names
          ∙ map_map (λ (r : RecipeName). (r.front, r.place)) (λ (d : Definition). record { front = d.front; place = d.place }) (filter (λ (d : Definition). is_same_kind Recipe d.kind) kept));
      sets = has_list w os files modules nodes k before ds kept settled view is (is_same_kind Set) a_setting set_told after.sets.items sets;
      unexports = are_unexports w os files modules nodes k before ds kept settled view is (ap (map name_text) unexports ∙ unexport_texts w os files modules nodes k before ds kept settled view is);
      disabled = are_disabled w os files modules nodes k before ds kept settled view is disabled;
    }
