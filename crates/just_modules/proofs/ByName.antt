-- What modules keep stands in the order in which names are looked up.
use Rattle.std.proofs.Common.{◌≡◌, ◌∙◌, ◌++◌, ℕ, Bool, true, false, List, [], ◌∷◌, Option, Some, None, map, filter_map, sym, ap, ap₂, subst, refl, arith, inl, inr, if◌then◌else◌}
use Rattle.std.specs.Prelude.{slice_get}
use Rattle.std.specs.BTreeMap.{BTreeMap}
use Rattle.std.specs.Cmp.Lexicographic.{slice_cmp}
use Rattle.std.specs.declared.string.String.{String}
use Rattle.std.specs.Option.{option_and_then, option_map}
use Rattle.std.specs.Ordering.{is_lt, nat_cmp, ordering_then}
use Rattle.std.specs.Cmp.{tied_itself}
use Rattle.std.specs.declared.cmp.Ordering.{Ordering}
use Rattle.std.specs.declared.cmp.Ordering.TheVariants.{Equal}
use Rattle.std.proofs.lemmas.Bool.{false≢true}
use Rattle.std.proofs.lemmas.Cmp.{nat_cmp_total}
use Rattle.std.proofs.lemmas.Option.{none-some, same_Some, slice_get_cases, slice_get_within}
use Rattle.just_text.specs.Numbers.{Numbers}
use Rattle.just_text.specs.declared.name.Name.{Name}
use Rattle.just_text.specs.declared.os.Os.{Os}
use Rattle.parse_expressions.specs.Literals.{Expansion}
use Rattle.semver.specs.declared.Version.{Version}
use Rattle.tree_attributes.specs.Sets.Sets.{is_enabled, items_of as attributes_of}
use Rattle.tree_items.specs.declared.ast.Item.{Item}
use Rattle.tree_items.specs.declared.ast.Item.TheVariants.{Alias as alias_item, Assignment, Comment, Function as function_item, Import, Module as module_item, Newline, Recipe as recipe_item, Set as set_item, Unexport as unexport_item}
use Rattle.modules_compilation.specs.Fronts.{front_of}
use Rattle.modules_compilation.specs.Places.{items_in, name_of, text_of}
use Rattle.modules_compilation.specs.Tables.{text_cmp}
use Rattle.modules_compilation.specs.declared.compilation.Compilation.{Compilation}
use Rattle.modules_compilation.specs.declared.module_node.File.{File}
use Rattle.modules_compilation.specs.declared.module_node.ModuleNode.{ModuleNode}
use Rattle.modules_compilation.specs.declared.place.Place.{Place}
use Rattle.modules_compilation.specs.declared.recipe_name.RecipeName.{RecipeName}
use Rattle.modules_definitions.specs.Defining.{IsNew, Stands, defined_by, enabled_in, if_enabled, module_name, named_at, recipe_kind, space_of, submodule_at}
use Rattle.modules_definitions.specs.Keeping.{rank}
use Rattle.modules_definitions.specs.Lists.{is_same_kind, of_kind, submodule_of}
use Rattle.modules_definitions.specs.declared.definition.Definition.{Definition}
use Rattle.modules_definitions.specs.declared.definition.Kind.{Kind}
use Rattle.modules_definitions.specs.declared.definition.Kind.TheVariants.{Alias, Disabled, Function, Module, Recipe, Set, Unexport, Variable}
use Rattle.modules_definitions.proofs.Elements.{contains_at}
use Rattle.modules_definitions.proofs.Fronts.{fronts_agree}
use Rattle.modules_definitions.proofs.Orders.{IsNameBehind, any_behind, names_behind}
use Rattle.modules_sources.specs.Items.{ModuleParts, module_of, module_parts}
use Rattle.modules_sources.specs.Loaded.{AreLoaded, IsNameOf}
use Rattle.modules_sources.specs.Nodes.{KeepsNothing}
use Rattle.resolve_recipes.specs.Named.{AllByName, AreByFront, AreByName, HasFront, IsByName, key_cmp, module_text, row_key, text_at}
use Rattle.just_modules.specs.Keeping.{AreFilled, IsFilled, range_of}
use Rattle.just_modules.proofs.Pairs.{Has, Pairwise, all_made, filter_has, filter_pairs, map_pairs, pairs_give, pairs_of, pairs_sorted, part_has, part_pairs, some_pairs}

-- ---- items and what they define

-- an item has the name that it defines
named_by_test : (b : Bool) (kind k : Kind) (name n : Name) → if_enabled b kind name ≡ Some (k, n) → Some name ≡ Some n
named_by_test true kind k name n e = ap (λ (p : Kind × Name). Some p.1) (same_Some (kind, name) (k, n) e)
named_by_test false kind k name n e = absurd (none-some (k, n) e)

defined_name : (os : Os) (item : Item) (k : Kind) (n : Name) → defined_by os item ≡ Some (k, n) → name_of item ≡ Some n
defined_name os (alias_item a) k n e = ap (λ (p : Kind × Name). Some p.1) (same_Some (Alias, a.name) (k, n) e)
defined_name os (Assignment a) k n e = named_by_test (enabled_in os a.attributes) Variable k a.name n e
defined_name os (Comment c) k n e = absurd (none-some (k, n) e)
defined_name os (function_item f) k n e = ap (λ (p : Kind × Name). Some p.1) (same_Some (Function, f.name) (k, n) e)
defined_name os (Import i) k n e = absurd (none-some (k, n) e)
defined_name os (module_item m) k n e = absurd (none-some (k, n) e)
defined_name os Newline k n e = absurd (none-some (k, n) e)
defined_name os (recipe_item r) k n e = ap (λ (p : Kind × Name). Some p.1) (same_Some (recipe_kind (enabled_in os r.attributes), r.name) (k, n) e)
defined_name os (set_item s) k n e = named_by_test (enabled_in os s.attributes) Set k s.name n e
defined_name os (unexport_item u) k n e = ap (λ (p : Kind × Name). Some p.1) (same_Some (Unexport, u.name) (k, n) e)

-- no item defines a submodule by itself
other_kind : (kind : Kind) (inner : ℕ) (k : Kind) (name n : Name) → (kind ≡ Module inner → ⊥) → ◌≡◌ {A = Option (Kind × Name)} (Some (kind, name)) (Some (k, n)) → k ≡ Module inner → ⊥
other_kind kind inner k name n apart e is = apart (ap (λ (p : Kind × Name). p.0) (same_Some (kind, name) (k, n) e) ∙ is)

other_by_test : (b : Bool) (kind : Kind) (inner : ℕ) (k : Kind) (name n : Name) → (kind ≡ Module inner → ⊥) → if_enabled b kind name ≡ Some (k, n) → k ≡ Module inner → ⊥
other_by_test true kind inner k name n apart e is = other_kind kind inner k name n apart e is
other_by_test false kind inner k name n apart e is = none-some (k, n) e

no_recipe_kind : (b : Bool) (inner : ℕ) → recipe_kind b ≡ Module inner → ⊥
no_recipe_kind true inner e = absurd (cc e)
no_recipe_kind false inner e = absurd (cc e)

no_module : (os : Os) (item : Item) (k : Kind) (n : Name) (inner : ℕ) → defined_by os item ≡ Some (k, n) → k ≡ Module inner → ⊥
no_module os (alias_item a) k n inner e is = other_kind Alias inner k a.name n (λ f. absurd (cc f)) e is
no_module os (Assignment a) k n inner e is = other_by_test (enabled_in os a.attributes) Variable inner k a.name n (λ f. absurd (cc f)) e is
no_module os (Comment c) k n inner e is = none-some (k, n) e
no_module os (function_item f) k n inner e is = other_kind Function inner k f.name n (λ g. absurd (cc g)) e is
no_module os (Import i) k n inner e is = none-some (k, n) e
no_module os (module_item m) k n inner e is = none-some (k, n) e
no_module os Newline k n inner e is = none-some (k, n) e
no_module os (recipe_item r) k n inner e is = other_kind (recipe_kind (enabled_in os r.attributes)) inner k r.name n (no_recipe_kind (enabled_in os r.attributes) inner) e is
no_module os (set_item s) k n inner e is = other_by_test (enabled_in os s.attributes) Set inner k s.name n (λ f. absurd (cc f)) e is
no_module os (unexport_item u) k n inner e is = other_kind Unexport inner k u.name n (λ f. absurd (cc f)) e is

-- ---- kinds

is_disabled : (k : Kind) → is_same_kind Disabled k ≡ true → k ≡ Disabled
is_disabled Alias e = absurd (false≢true e)
is_disabled Disabled e = refl
is_disabled Function e = absurd (false≢true e)
is_disabled (Module inner) e = absurd (false≢true e)
is_disabled Recipe e = absurd (false≢true e)
is_disabled Set e = absurd (false≢true e)
is_disabled Unexport e = absurd (false≢true e)
is_disabled Variable e = absurd (false≢true e)

is_recipe : (k : Kind) → is_same_kind Recipe k ≡ true → k ≡ Recipe
is_recipe Alias e = absurd (false≢true e)
is_recipe Disabled e = absurd (false≢true e)
is_recipe Function e = absurd (false≢true e)
is_recipe (Module inner) e = absurd (false≢true e)
is_recipe Recipe e = refl
is_recipe Set e = absurd (false≢true e)
is_recipe Unexport e = absurd (false≢true e)
is_recipe Variable e = absurd (false≢true e)

is_variable : (k : Kind) → is_same_kind Variable k ≡ true → k ≡ Variable
is_variable Alias e = absurd (false≢true e)
is_variable Disabled e = absurd (false≢true e)
is_variable Function e = absurd (false≢true e)
is_variable (Module inner) e = absurd (false≢true e)
is_variable Recipe e = absurd (false≢true e)
is_variable Set e = absurd (false≢true e)
is_variable Unexport e = absurd (false≢true e)
is_variable Variable e = refl

is_submodule : (k : Kind) (inner : ℕ) → submodule_of k ≡ Some inner → k ≡ Module inner
is_submodule Alias inner e = absurd (none-some inner e)
is_submodule Disabled inner e = absurd (none-some inner e)
is_submodule Function inner e = absurd (none-some inner e)
is_submodule (Module other) inner e = ap Module (same_Some other inner e)
is_submodule Recipe inner e = absurd (none-some inner e)
is_submodule Set inner e = absurd (none-some inner e)
is_submodule Unexport inner e = absurd (none-some inner e)
is_submodule Variable inner e = absurd (none-some inner e)

-- ---- texts of one space

second_not_less : (o p : Ordering) → is_lt (ordering_then o p) ≡ false → o ≡ Equal → is_lt p ≡ false
second_not_less o p e is = subst (λ o. is_lt (ordering_then o p) ≡ false) is e

texts_behind : (a b : Definition) → a.space ≡ b.space → IsNameBehind a b → is_lt (text_cmp b.text.now a.text.now) ≡ false
texts_behind a b same e = second_not_less (nat_cmp (rank b.space) (rank a.space)) (slice_cmp nat_cmp b.text.now a.text.now) e (ap (λ s. nat_cmp (rank b.space) (rank s)) same ∙ tied_itself nat_cmp_total (rank b.space))

-- ---- the name of a module

-- a submodule that is enabled at a place is named by its item
named_item : (os : Os) (o : Option Item) (line : ModuleParts) → option_and_then (module_of os) o ≡ Some line → module_name o ≡ Some line.0
named_item os None line e = absurd (none-some line e)
named_item os (Some item) line e = by_item item e
  where
    by_test : (b : Bool) (parts : ModuleParts) → (if b then Some parts else None) ≡ Some line → Some parts.0 ≡ Some line.0
    by_test true parts e = ap (λ p. Some p.0) (same_Some parts line e)
    by_test false parts e = absurd (none-some line e)

    by_item : (item : Item) → module_of os item ≡ Some line → module_name (Some item) ≡ Some line.0
    by_item (alias_item a) e = absurd (none-some line e)
    by_item (Assignment a) e = absurd (none-some line e)
    by_item (Comment c) e = absurd (none-some line e)
    by_item (function_item f) e = absurd (none-some line e)
    by_item (Import i) e = absurd (none-some line e)
    by_item (module_item m) e = by_test (is_enabled os (attributes_of m.attributes)) (module_parts m) e
    by_item Newline e = absurd (none-some line e)
    by_item (recipe_item r) e = absurd (none-some line e)
    by_item (set_item s) e = absurd (none-some line e)
    by_item (unexport_item u) e = absurd (none-some line e)

-- the parts of what stands for a submodule
module _ (files : List File) (name : Name) (place : Place) where
  parts_named : (o : Option Name) (at : Place) → ◌≡◌ {A = Option (Name × Place)} (option_map (λ n. (n, at)) o) (Some (name, place)) → (o ≡ Some name) × (at ≡ place)
  parts_named None at e = absurd (none-some (name, place) e)
  parts_named (Some n) at e = let same = same_Some (n, at) (name, place) e in (ap (λ (p : Name × Place). Some p.0) same, ap (λ (p : Name × Place). p.1) same)

  parts_placed : (item : Option Place) → ◌≡◌ {A = Option (Name × Place)} (option_and_then (λ at. option_map (λ n. (n, at)) (named_at files at)) item) (Some (name, place)) → (item ≡ Some place) × (named_at files place ≡ Some name)
  parts_placed None e = absurd (none-some (name, place) e)
  parts_placed (Some at) e = let p = parts_named (named_at files at) at e in (ap Some p.1, ap (named_at files) (sym p.1) ∙ p.0)

  parts_found : (node : Option ModuleNode) → ◌≡◌ {A = Option (Name × Place)} (option_and_then (λ n. option_and_then (λ at. option_map (λ m. (m, at)) (named_at files at)) n.item) node) (Some (name, place))
      → (n : ModuleNode) × (node ≡ Some n) × (n.item ≡ Some place) × (named_at files place ≡ Some name)
  parts_found None e = absurd (none-some (name, place) e)
  parts_found (Some n) e = let p = parts_placed n.item e in (n, refl, p.0, p.1)

-- what is known of modules as they are loaded: they keep nothing, and are named by their items
abbrev pub AreFresh : Os → List File → List ModuleNode → Type 0
AreFresh os files modules = (place : ℕ) (node : ModuleNode) → slice_get modules place ≡ Some node → KeepsNothing node × IsNameOf os files node.item node.name

pub fresh_of : {Y Z : Type 0} (sources : BTreeMap (String Y) (String Z)) (expansion : Expansion) (version : Version) (os : Os) (start : Numbers) (is_read : Bool) (root : List ℕ) (compilation : Compilation) → AreLoaded sources expansion version os start is_read root compilation
    → AreFresh os compilation.files.items compilation.modules.items
fresh_of sources expansion version os start is_read root compilation loaded place node e = let l = loaded.modules place node e in (l.empty, l.named)

module _ (os : Os) (unstable : Bool) (before after : Compilation) (h : AreFilled os unstable before after) (fresh : AreFresh os before.files.items before.modules.items) where
  -- a submodule has the name of its definition
  module_named : (d : Definition) (inner : ℕ) → IsNew d.kind d.name.now d.place d → submodule_at before.files.items before.modules.items inner ≡ Some (d.name.now, d.place) → module_text after.modules.items inner ≡ d.text.now
  module_named d inner is e =
      let p = parts_found before.files.items d.name.now d.place (slice_get before.modules.items inner) e in
      let t = h.each inner p.0 p.1 in
      let w = (fresh inner p.0 p.1).1 d.place p.2 in
      let named = named_item os (slice_get (items_in before.files.items d.place.file) d.place.item) w.0 w.1 in
      let name : p.0.name ≡ Some d.name.now = w.2 ∙ sym named ∙ p.3 in
      ap (λ o. text_of (option_and_then (λ n. n.name) o)) t.1 ∙ ap text_of (t.2.gains.same.name ∙ name) ∙ sym is.text_is

  module _ (node : ModuleNode) (empty : KeepsNothing node) (filled : ModuleNode) (f : IsFilled os unstable before.files.items before.modules.items node filled) where
    abbrev kept : List Definition
    kept = f.kept

    abbrev IsDefinition : Definition → Type 0
    IsDefinition d = Stands os before.files.items (range_of node) before.modules.items node.submodules.items d.kind d.name.now d.place × IsNew d.kind d.name.now d.place d

    each_kept : (d : Definition) → Has kept d → IsDefinition d
    each_kept d at =
        let p = part_has f.keeps.keeps.are.part d at in
        f.keeps.are.each.sound d (contains_at f.keeps.definitions p.0 d p.1)

    behind : Pairwise IsNameBehind kept
    behind = part_pairs IsNameBehind f.keeps.keeps.are.part (pairs_of IsNameBehind f.keeps.definitions (λ i j a b lt e g. names_behind a b (any_behind f.keeps.definitions f.keeps.are.order i j a b lt e g)))

    -- the item at the place of a definition has its text
    text_is : (d : Definition) → Has kept d → ((inner : ℕ) → d.kind ≡ Module inner → ⊥) → text_at after d.place ≡ d.text.now
    text_is d at apart = by_place (each_kept d at).0 (each_kept d at).1
      where
        by_place : Stands os before.files.items (range_of node) before.modules.items node.submodules.items d.kind d.name.now d.place → IsNew d.kind d.name.now d.place d → text_at after d.place ≡ d.text.now
        by_place (inl s) is =
            ap (λ fs. text_of (option_and_then name_of (slice_get (items_in fs d.place.file) d.place.item))) h.files
            ∙ ap (λ o. text_of (option_and_then name_of o)) s.there ∙ ap text_of (defined_name os s.item d.kind d.name.now s.defines) ∙ sym is.text_is
        by_place (inr s) is = absurd (apart s.inner s.is.kind_is)

    -- those of one kind stand in byte order of their names
    kind_by_name : (kind : Kind) → ((d : Definition) → is_same_kind kind d.kind ≡ true → d.kind ≡ kind) → ((inner : ℕ) → kind ≡ Module inner → ⊥) → AreByName (text_at after) (map (λ d. d.place) (of_kind kind kept))
    kind_by_name kind same apart =
        pairs_sorted (λ x y. is_lt (text_cmp (text_at after x) (text_at after y))) (map (λ d. d.place) (of_kind kind kept))
        (map_pairs (λ a b. is_lt (text_cmp (text_at after b) (text_at after a)) ≡ false) (λ d. d.place) (of_kind kind kept)
        (pairs_give IsNameBehind (λ a b. is_lt (text_cmp (text_at after b.place) (text_at after a.place)) ≡ false) (of_kind kind kept) turned (filter_pairs IsNameBehind (λ d. is_same_kind kind d.kind) kept behind)))
      where
        turned : (a b : Definition) → Has (of_kind kind kept) a → Has (of_kind kind kept) b → IsNameBehind a b → is_lt (text_cmp (text_at after b.place) (text_at after a.place)) ≡ false
        turned a b in_a in_b e =
            let p = filter_has (λ d. is_same_kind kind d.kind) kept a in_a in
            let q = filter_has (λ d. is_same_kind kind d.kind) kept b in_b in
            let ka = same a p.1 in
            let kb = same b q.1 in
            let one : a.space ≡ b.space = (each_kept a p.0).1.space_is ∙ ap space_of (ka ∙ sym kb) ∙ sym (each_kept b q.0).1.space_is in
            ap₂ (λ s t. is_lt (text_cmp s t)) (text_is b q.0 (λ inner is. apart inner (sym kb ∙ is))) (text_is a p.0 (λ inner is. apart inner (sym ka ∙ is))) ∙ texts_behind a b one e

    -- recipes by their fronts
    rows_by_front : AreByFront after (map (λ d. record { front = d.front; place = d.place }) (of_kind Recipe kept))
    rows_by_front = (
      all_made (HasFront after) (λ d. record { front = d.front; place = d.place }) (of_kind Recipe kept) (λ d at.
          let p = recipe d at in
          (each_kept d p.0).1.front_is ∙ ap front_of (sym (text_is d p.0 (no_submodule d p.1)))),
      pairs_sorted (λ x y. is_lt (key_cmp (row_key after x) (row_key after y))) (map (λ d. record { front = d.front; place = d.place }) (of_kind Recipe kept))
          (map_pairs (λ a b. is_lt (key_cmp (row_key after b) (row_key after a)) ≡ false) (λ d. record { front = d.front; place = d.place }) (of_kind Recipe kept)
          (pairs_give IsNameBehind (λ a b. is_lt (ordering_then (nat_cmp b.front a.front) (text_cmp (text_at after b.place) (text_at after a.place))) ≡ false) (of_kind Recipe kept) turned (filter_pairs IsNameBehind (λ d. is_same_kind Recipe d.kind) kept behind))),
    )
      where
        recipe : (d : Definition) → Has (of_kind Recipe kept) d → Has kept d × (d.kind ≡ Recipe)
        recipe d at = let p = filter_has (λ d. is_same_kind Recipe d.kind) kept d at in (p.0, is_recipe d.kind p.1)

        no_submodule : (d : Definition) → d.kind ≡ Recipe → (inner : ℕ) → d.kind ≡ Module inner → ⊥
        no_submodule d is inner e = let f : Recipe ≡ Module inner = sym is ∙ e in absurd (cc f)

        turned : (a b : Definition) → Has (of_kind Recipe kept) a → Has (of_kind Recipe kept) b → IsNameBehind a b
            → is_lt (ordering_then (nat_cmp b.front a.front) (text_cmp (text_at after b.place) (text_at after a.place))) ≡ false
        turned a b in_a in_b e =
            let p = recipe a in_a in
            let q = recipe b in_b in
            let da = (each_kept a p.0).1 in
            let db = (each_kept b q.0).1 in
            let one : a.space ≡ b.space = da.space_is ∙ ap space_of (p.1 ∙ sym q.1) ∙ sym db.space_is in
            ap₂ (λ s t. is_lt (ordering_then (nat_cmp b.front a.front) (text_cmp s t))) (text_is b q.0 (no_submodule b q.1)) (text_is a p.0 (no_submodule a p.1))
            ∙ ap₂ (λ m n. is_lt (ordering_then (nat_cmp m n) (text_cmp b.text.now a.text.now))) db.front_is da.front_is
            ∙ ap is_lt (fronts_agree b.text.now a.text.now db.bytes da.bytes) ∙ texts_behind a b one e

    -- submodules by their names
    submodules_by_name : AreByName (module_text after.modules.items) (filter_map (λ d. submodule_of d.kind) kept)
    submodules_by_name =
        pairs_sorted (λ x y. is_lt (text_cmp (module_text after.modules.items x) (module_text after.modules.items y))) (filter_map (λ d. submodule_of d.kind) kept)
        (some_pairs (λ a b. is_lt (text_cmp (module_text after.modules.items b) (module_text after.modules.items a)) ≡ false) (λ d. submodule_of d.kind) kept
        (pairs_give IsNameBehind (λ a b. (y z : ℕ) → submodule_of a.kind ≡ Some y → submodule_of b.kind ≡ Some z → is_lt (text_cmp (module_text after.modules.items z) (module_text after.modules.items y)) ≡ false) kept turned behind))
      where
        named : (d : Definition) (inner : ℕ) → Has kept d → submodule_of d.kind ≡ Some inner → (module_text after.modules.items inner ≡ d.text.now) × (d.kind ≡ Module inner)
        named d inner at e = by_place (each_kept d at).0 (each_kept d at).1 (is_submodule d.kind inner e)
          where
            by_place : Stands os before.files.items (range_of node) before.modules.items node.submodules.items d.kind d.name.now d.place → IsNew d.kind d.name.now d.place d → d.kind ≡ Module inner → (module_text after.modules.items inner ≡ d.text.now) × (d.kind ≡ Module inner)
            by_place (inl s) is k = absurd (no_module os s.item d.kind d.name.now inner s.defines k)
            by_place (inr s) is k =
                let both : Module s.inner ≡ Module inner = sym s.is.kind_is ∙ k in
                let same : s.inner ≡ inner = cc both in
                (module_named d inner is (ap (submodule_at before.files.items before.modules.items) (sym same) ∙ s.is.is), k)

        turned : (a b : Definition) → Has kept a → Has kept b → IsNameBehind a b → (y z : ℕ) → submodule_of a.kind ≡ Some y → submodule_of b.kind ≡ Some z → is_lt (text_cmp (module_text after.modules.items z) (module_text after.modules.items y)) ≡ false
        turned a b in_a in_b e y z at_y at_z =
            let p = named a y in_a at_y in
            let q = named b z in_b at_z in
            let one : a.space ≡ b.space = (each_kept a in_a).1.space_is ∙ ap space_of p.1 ∙ sym (ap space_of q.1) ∙ sym (each_kept b in_b).1.space_is in
            ap₂ (λ s t. is_lt (text_cmp s t)) q.0 p.0 ∙ texts_behind a b one e

    gained : {X : Type 0} (old now more : List X) → old ≡ [] → now ≡ old ++ more → more ≡ now
    gained old now more none e = sym (e ∙ ap (λ xs. xs ++ more) none)

    by_name : IsByName after filled
    by_name =
        let g = f.gains in
        let rows = gained node.recipe_names.items filled.recipe_names.items (map (λ d. record { front = d.front; place = d.place }) (of_kind Recipe kept)) empty.recipe_names g.recipe_names in
        let recipes = gained node.recipes.items filled.recipes.items (map (λ d. d.place) (of_kind Recipe kept)) empty.recipes g.recipes in
        record {
          recipes = subst (AreByFront after) rows rows_by_front;
          places = ap (map (λ (row : RecipeName). row.place)) (sym rows) ∙ made (of_kind Recipe kept) ∙ recipes;
          variables = subst (AreByName (text_at after)) (gained node.assignments.items filled.assignments.items (map (λ d. d.place) (of_kind Variable kept)) empty.assignments g.assignments)
              (kind_by_name Variable (λ d. is_variable d.kind) (λ inner e. absurd (cc e)));
          disabled = subst (AreByName (text_at after)) (gained node.disabled.items filled.disabled.items (map (λ d. d.place) (of_kind Disabled kept)) empty.disabled g.disabled)
              (kind_by_name Disabled (λ d. is_disabled d.kind) (λ inner e. absurd (cc e)));
          submodules = subst (AreByName (module_text after.modules.items)) (sym g.inner) submodules_by_name;
        }
      where
        made : (ds : List Definition) → map (λ (row : RecipeName). row.place) (map (λ d. record { front = d.front; place = d.place }) ds) ≡ map (λ d. d.place) ds
        made [] = refl
        made (d ∷ ds) = ap (λ ps. d.place ∷ ps) (made ds)

  -- what modules gained stands in the order in which names are looked up
  pub all_by_name : AllByName after
  all_by_name place node e = elim (slice_get_cases before.modules.items place).1 [
    | inl p ↦
        let t = h.each place p.0 p.2 in
        subst (IsByName after) (same_Some t.0 node (sym t.1 ∙ e)) (by_name p.0 (fresh place p.0 p.2).0 t.0 t.2)
    | inr p ↦ let le = p.0 in let lt = slice_get_within after.modules.items place node e in let count = h.count in absurd (omega (arith, le, lt, count))
  ]
