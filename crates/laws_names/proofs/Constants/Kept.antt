-- Variables and settings that a module keeps: their numbers, their overrides and what stands at their places.
use Rattle.std.proofs.Common.{◌≡◌, ◌≢◌, ◌⊎◌, nat_eq, arith, true≢false, inl, inr, refl, sym, ◌∙◌, ap, subst, Bool, true, false, if◌then◌else◌, List, [], ◌∷◌, map, Option, Some, None, ℕ, is_some}
use Rattle.std.specs.Prelude.{slice_get, Contains, String}
use Rattle.std.specs.BTreeMap.{BTreeMap, get}
use Rattle.std.specs.Option.{option_map, option_or}
use Rattle.std.specs.Ordering.{nat_cmp}
use Rattle.std.specs.String.{string_bytes}
use Rattle.std.proofs.lemmas.List.Elements.{All-contains}
use Rattle.std.specs.Str.{bytes_eq}
use Rattle.std.proofs.lemmas.Bool.Decides.{Decides-eqb}
use Rattle.std.proofs.lemmas.Slice.Eq.{bytes_eq-Decides}
use Rattle.std.proofs.lemmas.Option.{none-some, same_Some, get_or_from_slice_get, slice_get_within}
use Rattle.just_text.specs.Tokens.{lexeme}
use Rattle.just_text.specs.declared.os.Os.{Os}
use Rattle.parse_expressions.specs.Literals.{IsCooked, from_file}
use Rattle.tree_attributes.specs.Attributes.{AttributeShape}
use Rattle.tree_expressions.specs.declared.expression.Expression.{Expression}
use Rattle.tree_items.specs.Contexts.{last_named}
use Rattle.tree_items.specs.Files.{ItemShape, item_shape, set_item as set_item_shape}
use Rattle.tree_attributes.specs.Settings.{SetShape}
use Rattle.tree_items.specs.Items.{set_shape}
use Rattle.tree_items.specs.declared.ast.Item.{Item}
use Rattle.tree_items.specs.declared.ast.Item.TheVariants.{Assignment, Set as set_item}
use Rattle.tree_items.specs.declared.item.Binding.{Binding}
use Rattle.tree_items.specs.declared.set.Set.{Set}
use Rattle.tree_attributes.specs.Sets.Sets.{shapes_in}
use Rattle.just_value.specs.declared.positional.Override.{Override}
use Rattle.evaluate_context.specs.declared.context.AssignmentRef.{AssignmentRef}
use Rattle.evaluate_variables.specs.Opened.{overridden}
use Rattle.modules_compilation.specs.Places.{item_at, items_of}
use Rattle.modules_compilation.specs.declared.compilation.Compilation.{Compilation}
use Rattle.modules_compilation.specs.declared.module_node.File.{File}
use Rattle.modules_compilation.specs.declared.module_node.ModuleNode.{ModuleNode}
use Rattle.modules_compilation.specs.declared.place.Place.{Place}
use Rattle.resolve_order.specs.Flooded.{is_stop}
use Rattle.resolve_references.specs.Seen.{Seen, seen_in}
use Rattle.resolve_analysis.specs.Bound.{binding_number, bindings_of, constant_number}
use Rattle.resolve_analysis.specs.Lists.{variable_of}
use Rattle.resolve_analysis.specs.Reads.{overridden_by}
use Rattle.meaning_rules.specs.Worlds.Given.{Overrides, Text, World}
use Rattle.meaning_rules.specs.Worlds.Keeping.{Defines, IsTwice, Kind, MayBoth, a_setting, both_recipes, both_variables, defined_by}
use Rattle.meaning_rules.specs.Worlds.Compiled.{HasList}
use Rattle.meaning_rules.specs.Worlds.Sources.{Has, enabled}
use Rattle.meaning_rules.proofs.Worlds.Places.{contains_at, contains_cases, contains_first, contains_later, contains_none, place_of}
use Rattle.meaning_rules.specs.Constants.{HasSetting}
use Rattle.meaning_rules.specs.Worlds.Views.{node_view}
use Rattle.laws_modules.specs.Names.Names.{nodes, views}
use Rattle.laws_modules.proofs.Names.Defined.{none_defined}
use Rattle.laws_modules.proofs.Names.Found.{mapped, mapped_at, there_within}
use Rattle.laws_names.specs.Reading.Meant.{AreSeenCooked, IsNumberedWorld}
use Rattle.laws_names.specs.Reading.Places.{IsItemOf, variable_names}
use Rattle.laws_names.proofs.Reading.Bindings.{numbered_once}
use Rattle.laws_names.proofs.Reading.Finding.{last_named_there, none_named}
use Rattle.laws_names.proofs.Reading.Items.{kept_there}
use Rattle.laws_names.proofs.Reading.Kept.{kept_at, said}
use Rattle.laws_names.proofs.Reading.Lists.{contains_map, contains_mapped}
use Rattle.laws_names.proofs.Reading.Module.{is_node, variable_kept, variable_once, variables}
use Rattle.laws_names.specs.Overriding.Texts.{IsGivenBy}
use Rattle.meaning_rules.specs.Overrides.{overrides_of}
use Rattle.laws_names.proofs.Overriding.Texts.{given_texts_override}
use Rattle.laws_names.specs.Constants.Sought.{AreSought, IsListedSet, IsSettledModule}

-- a setting is defined by its name
pub shape_named : (os : Os) (attributes : List AttributeShape) (s : SetShape) (name : Text) → defined_by os (set_item_shape attributes s) ≡ Some (a_setting, name) → s.name ≡ name
shape_named os attributes s name e = by_test (enabled os attributes) e
  where
    by_test : (b : Bool) → (if b then said a_setting s.name else None) ≡ said a_setting name → s.name ≡ name
    by_test true e = ap (λ (p : Kind × Text). p.1) (same_Some (a_setting, s.name) (a_setting, name) e)
    by_test false e = absurd (none-some (a_setting, name) e)

-- ---- what stands at one place

is_among : (names : List Text) (name : Text) → Contains names name ⊎ (Contains names name → ⊥)
is_among [] name = inr (λ c. contains_none [] name refl c)
is_among (other ∷ names) name = by_test (bytes_eq other name) refl (is_among names name)
  where
    by_test : (b : Bool) → bytes_eq other name ≡ b → Contains names name ⊎ (Contains names name → ⊥) → Contains (other ∷ names) name ⊎ (Contains (other ∷ names) name → ⊥)
    by_test true is later = inl (subst (Contains (other ∷ names)) ((bytes_eq-Decides other name).0 is) (contains_first other names))
    by_test false is (inl c) = inl (contains_later other names name c)
    by_test false is (inr none) = inr (λ c. elim (contains_cases other names name c) [
      | inl same ↦ true≢false (sym ((bytes_eq-Decides other name).1 same) ∙ is)
      | inr d ↦ none d
    ])

no_both : (w : World) (own : Text) (kind kind' : Kind) → kind ≡ a_setting → MayBoth w own kind kind' → ⊥
no_both w own kind kind' e (both_recipes on) = absurd (cc e)
no_both w own kind kind' e (both_variables on) = absurd (cc e)

one_item : (w : World) (key : Text) (place : ℕ) (a b : ItemShape) → Has w key place a → Has w key place b → a ≡ b
one_item w key place a b h k =
    let items : h.items ≡ k.items = same_Some h.items k.items (sym h.says ∙ k.says) in
    same_Some a b (sym h.at ∙ ap (λ xs. slice_get xs place) items ∙ k.at)

-- where settings are told apart, a name is that of one
pub one_setting : (w : World) (own name : Text) → (IsTwice w own a_setting name → ⊥) → (key key' : Text) (place place' : ℕ) (a b : ItemShape) → Defines w own a_setting name key place a → Defines w own a_setting name key' place' b → a ≡ b
one_setting w own name single key key' place place' a b d d' = by_key (bytes_eq key key') refl
  where
    apart : (key ≢ key') ⊎ (place ≢ place') → ⊥
    apart others = single (record {
      key = key;
      place = place;
      item = a;
      defines = d;
      kind' = a_setting;
      key' = key';
      place' = place';
      item' = b;
      defines' = d';
      spaces = refl;
      others = others;
      forbidden = no_both w own a_setting a_setting refl;
    })

    by_place : key ≡ key' → (c : Bool) → nat_eq place place' ≡ c → a ≡ b
    by_place same true is = one_item w key' place' a b (subst (λ p. Has w key' p a) ((Decides-eqb place place').0 is) (subst (λ q. Has w q place a) same d.has)) d'.has
    by_place same false is = absurd (apart (inr (λ e. true≢false (sym ((Decides-eqb place place').1 e) ∙ is))))

    by_key : (c : Bool) → bytes_eq key key' ≡ c → a ≡ b
    by_key true is = by_place ((bytes_eq-Decides key key').0 is) (nat_eq place place') refl
    by_key false is = absurd (apart (inl (λ e. true≢false (sym ((bytes_eq-Decides key key').1 e) ∙ is))))

module _ (w : World) (compilation : Compilation) (n : IsNumberedWorld w compilation) (place : Place) (item : Item) (there : item_at compilation place ≡ Some item) where
  -- an expression of the item is cooked in this file
  abbrev pub IsCookedIn : Text → Seen → Type 0
  IsCookedIn file s = IsCooked (from_file file w.expansion) s.expression

  -- the expressions of an item that stands at a place of a compilation are cooked in its file
  pub cooked_at : (file : Text) × ((s : Seen) → Contains (seen_in item) s → IsCookedIn file s)
  cooked_at = by_file (slice_get compilation.files.items place.file) refl there
    where
      by_file : (o : Option File) → slice_get compilation.files.items place.file ≡ o → slice_get (items_of o) place.item ≡ Some item → (file : Text) × ((s : Seen) → Contains (seen_in item) s → IsCookedIn file s)
      by_file None is e = absurd (none-some item e)
      by_file (Some file) is e =
          let origin = from_file file.key.now w.expansion in
          let cooked = All-contains (AreSeenCooked origin) file.ast.items.items item (n.cooked place.file file is) (contains_at file.ast.items.items place.item item e) in
          (file.key.now, λ s c. All-contains (λ (s : Seen). IsCooked origin s.expression) (seen_in item) s cooked c)

module _ (w : World) (compilation : Compilation) (k : ℕ) (node : ModuleNode) (path : List Text) (m : IsSettledModule w compilation k node path) where
  abbrev own : Text
  own = node.source.now

  abbrev vs : List (Binding Expression)
  vs = variables w compilation m.numbered k node m.here

  abbrev text_of : Binding Expression → Text
  text_of v = lexeme v.name.token

  -- ---- variables

  -- two variables with one number stand at one place
  pub number_once : (i j : ℕ) (x y : Binding Expression) → slice_get vs i ≡ Some x → slice_get vs j ≡ Some y → x.number ≡ y.number → i ≡ j
  number_once i j x y e f same =
      let a = variable_kept w compilation m.numbered k node m.here i x e in
      let b = variable_kept w compilation m.numbered k node m.here j y f in
      let items = numbered_once w compilation m.numbered a.0 b.0 (Assignment x) (Assignment y) a.3.there b.3.there y.number
      (subst (Contains (x.number ∷ [])) same (contains_first x.number [])) (contains_first y.number []) in
      let both : x ≡ y = cc items in
      variable_once w compilation m.numbered k node m.here i j x y e f (ap text_of both)

  -- a variable's name has its number
  pub number_of_name : (j : ℕ) (v : Binding Expression) → slice_get vs j ≡ Some v → bindings_of compilation node (text_of v) ≡ Some v.number
  number_of_name j v e = by_found (last_named (text_of v) (map binding_number vs)) refl
    where
      by_found : (o : Option ℕ) → last_named (text_of v) (map binding_number vs) ≡ o → option_or o (constant_number (text_of v)) ≡ Some v.number
      by_found (Some number) is =
          let r = contains_mapped binding_number vs (text_of v, number) (last_named_there (text_of v) (map binding_number vs) number is) in
          let q = place_of vs r.0 r.1 in
          let named : text_of r.0 ≡ text_of v = ap (λ (p : Text × ℕ). p.0) r.2 in
          let numbered : r.0.number ≡ number = ap (λ (p : Text × ℕ). p.1) r.2 in
          let places = variable_once w compilation m.numbered k node m.here q.0 j r.0 v q.1 e named in
          let same : r.0 ≡ v = same_Some r.0 v (sym q.1 ∙ ap (slice_get vs) places ∙ e) in
          ap (λ n. Some n) (sym numbered ∙ ap (λ (x : Binding Expression). x.number) same)
      by_found None is =
          absurd (none_named (text_of v) (map binding_number vs) is
          (contains_map (λ (p : Text × ℕ). p.0) (map binding_number vs) (binding_number v) (contains_map binding_number vs v (contains_at vs j v e))))

  -- the name stands at the place
  pub name_there : (j : ℕ) (v : Binding Expression) → slice_get vs j ≡ Some v → slice_get (variable_names compilation node) j ≡ Some (text_of v)
  name_there j v e = mapped text_of vs j v e

  pub variable_there : (j : ℕ) (name : Text) → slice_get (variable_names compilation node) j ≡ Some name → (v : Binding Expression) × (slice_get vs j ≡ Some v) × (text_of v ≡ name)
  variable_there j name e = mapped_at text_of vs j name e

  -- ---- settings

  -- a setting of the module is one that it lists
  pub setting_kept : (o : Overrides) (s : SetShape) → HasSetting w o path own s → (t : Set) × IsListedSet compilation node t × (set_shape t ≡ s)
  setting_kept o s has = by_names (is_node w compilation m.numbered k node m.here).sets
    where
      by_names : HasList w (views w compilation) (nodes w compilation) (node_view node) a_setting node.sets.items → (t : Set) × IsListedSet compilation node t × (set_shape t ≡ s)
      by_names l = elim (is_among l.0 s.name) [
        | inl c ↦
            let p = place_of l.0 s.name c in
            let lt = slice_get_within l.0 p.0 s.name p.1 in
            let many = l.1.many in
            let q = there_within node.sets.items p.0 (omega (arith, lt, many)) in
            let r = kept_at w compilation node a_setting l.0 node.sets.items l.1 p.0 q.0 q.1 in
            let named : r.0 ≡ s.name = same_Some r.0 s.name (sym r.2 ∙ p.1) in
            let thing = r.3.thing in
            let keeps = subst (λ t. Defines w own a_setting t r.3.key r.3.at (item_shape r.1)) named r.3.keeps.defines in
            let items : item_shape r.1 ≡ set_item_shape has.attributes s = one_setting w own s.name (m.numbered.settings k node m.here s.name) r.3.key has.key r.3.at has.place (item_shape r.1) (set_item_shape has.attributes s) keeps has.defines in
            let same : item_shape (set_item thing.0) ≡ set_item_shape has.attributes s = ap item_shape (sym thing.1) ∙ items in
            let shapes : set_shape thing.0 ≡ s = cc same in
            (thing.0, (q.0, contains_at node.sets.items p.0 q.0 q.1, r.3.there ∙ ap (λ i. Some i) thing.1), shapes)
        | inr none ↦ absurd (none_defined w own a_setting s.name _ (is_node w compilation m.numbered k node m.here).own_files.order (λ item h. none (l.1.complete s.name item h))
            (record { key = has.key; place = has.place; item = set_item_shape has.attributes s; defines = has.defines }))
      ]

  -- a setting that the module lists is one of its settings
  pub setting_there : (o : Overrides) (s : Set) → IsListedSet compilation node s → HasSetting w o path own (set_shape s)
  setting_there o s listed =
      let is = is_node w compilation m.numbered k node m.here in
      let q = place_of node.sets.items listed.0 listed.1 in
      let r = kept_at w compilation node a_setting is.sets.0 node.sets.items is.sets.1 q.0 listed.0 q.1 in
      let item : r.1 ≡ set_item s = same_Some r.1 (set_item s) (sym r.3.there ∙ listed.2) in
      let defines = subst (λ i. Defines w own a_setting r.0 r.3.key r.3.at (item_shape i)) item r.3.keeps.defines in
      let named = shape_named w.os (shapes_in s.attributes) (set_shape s) r.0 defines.is in
      record { key = r.3.key; place = r.3.at; attributes = shapes_in s.attributes; defines = subst (λ t. Defines w own a_setting t r.3.key r.3.at (item_shape (set_item s))) (sym named) defines }

  -- and stands in its files
  pub setting_item : (s : Set) → IsListedSet compilation node s → IsItemOf compilation node (set_item s)
  setting_item s listed = (kept_there w compilation m.numbered k node m.here (set_item s) (record { place = listed.0; kept = inr (inr (inr listed.1)); there = listed.2 })).0

  module _ {A : Type 0} (words : List Override) (overrides : BTreeMap ℕ (String A)) (variables' : List AssignmentRef) (order : List ℕ) (sets : List Set) (is_read : ℕ → Bool) (sought : AreSought compilation node words overrides variables' order sets is_read) where
    abbrev stops : List Bool
    stops = overridden_by overrides vs

    -- a variable is overridden by the text that is given for its number
    pub given_by : (i : ℕ) (v : Binding Expression) → slice_get vs i ≡ Some v → IsGivenBy w (overrides_of words) path own (text_of v) (overridden overrides v.number)
    given_by i v e =
        let kept = variable_kept w compilation m.numbered k node m.here i v e in
        subst (IsGivenBy w (overrides_of words) path own (text_of v)) (sym (sought.given v.number))
        (given_texts_override w compilation m.numbered.of m.numbered.single k node path m.here m.has_path kept.0 v (contains_at node.assignments.items i kept.0 kept.1) (ap variable_of kept.3.there) words)

    some_mapped : {X Y : Type 0} (f : X → Y) (o : Option X) → is_some o ≡ is_some (option_map f o)
    some_mapped f None = refl
    some_mapped f (Some x) = refl

    -- a place is a stop where its variable is overridden
    pub stop_at : (i : ℕ) (v : Binding Expression) → slice_get vs i ≡ Some v → is_stop stops i ≡ is_some (overridden overrides v.number)
    stop_at i v e =
        get_or_from_slice_get stops i (is_some (get nat_cmp overrides v.number)) false (mapped (λ (x : Binding Expression). is_some (get nat_cmp overrides x.number)) vs i v e)
        ∙ some_mapped string_bytes (get nat_cmp overrides v.number)

    -- the variable at a place is the one that is lent there
    pub lent_at : (i : ℕ) (v : Binding Expression) → slice_get vs i ≡ Some v → (lent : AssignmentRef) × (slice_get variables' i ≡ Some lent) × (lent.assignment.now ≡ v)
    lent_at i v e = mapped_at (λ (lent : AssignmentRef). lent.assignment.now) variables' i v (ap (λ xs. slice_get xs i) sought.variables_are ∙ e)

    pub lent_there : (i : ℕ) (lent : AssignmentRef) → slice_get variables' i ≡ Some lent → slice_get vs i ≡ Some lent.assignment.now
    lent_there i lent e = ap (λ xs. slice_get xs i) (sym sought.variables_are) ∙ mapped (λ (lent : AssignmentRef). lent.assignment.now) variables' i lent e
