-- Whether a setting is on, by the settings that a module keeps.
use Rattle.std.proofs.Common.{◌≡◌, ◌≢◌, refl, sym, ◌∙◌, ap, subst, Bool, true, false, cond, nat_eq, true≢false, List, [], ◌∷◌, ℕ, suc, Option, Some, None, inl, inr, ◌⊎◌}
use Rattle.std.specs.Prelude.{◌↔◌, slice_get}
use Rattle.std.specs.List.{cons_option, filter_map}
use Rattle.std.specs.Option.{option_and_then, option_map}
use Rattle.std.specs.Str.{bytes_eq}
use Rattle.std.proofs.lemmas.Bool.Decides.{Decides-eqb}
use Rattle.std.proofs.lemmas.Option.{same_Some}
use Rattle.std.proofs.lemmas.Slice.Eq.{bytes_eq-Decides}
use Rattle.tree_attributes.specs.Attributes.{AttributeShape}
use Rattle.tree_attributes.specs.Settings.{SetShape, ValueShape, expression, interpreter, string, truth}
use Rattle.tree_items.specs.Files.{ItemShape, set_item}
use Rattle.modules_compilation.specs.declared.compilation.Compilation.{Compilation}
use Rattle.modules_compilation.specs.declared.module_node.ModuleNode.{ModuleNode}
use Rattle.modules_compilation.specs.declared.place.Place.{Place}
use Rattle.resolve_recipes.specs.Named.{first_named, text_at}
use Rattle.meaning_rules.specs.Worlds.Given.{Text, World}
use Rattle.meaning_rules.specs.Worlds.Sources.{Has}
use Rattle.meaning_rules.specs.Worlds.Keeping.{Defines, IsOn, IsTwice, Kind, MayBoth, a_setting, both_recipes, both_variables}
use Rattle.meaning_rules.specs.Worlds.Compiled.{HasList}
use Rattle.meaning_rules.proofs.Worlds.Places.{contains_at}
use Rattle.meaning_rules.specs.Worlds.Views.{node_view}
use Rattle.laws_modules.specs.Names.Names.{AreSetOnce, HasNode, IsOfWorld, nodes, views}
use Rattle.laws_modules.proofs.Names.Named.{node_is}
use Rattle.just_meaning.specs.Rows.{is_true, setting_named}
use Rattle.laws_runs.specs.Resolved.Definitions.{set_of, sets_of, shape_at}
use Rattle.laws_runs.proofs.Resolved.Items.{is_item}
use Rattle.laws_runs.proofs.Resolved.Listed.{IsListed, first_of, found_is, listed_at}

-- ---- one setting of a name

-- two settings of a name are never allowed
no_both : (w : World) (own : Text) (kind kind' : Kind) → kind ≡ a_setting → MayBoth w own kind kind' → ⊥
no_both w own kind kind' e (both_recipes on) = absurd (cc e)
no_both w own kind kind' e (both_variables on) = absurd (cc e)

-- a place has one item
pub one_item : (w : World) (key : Text) (place : ℕ) (a b : ItemShape) → Has w key place a → Has w key place b → a ≡ b
one_item w key place a b h k =
    let items : h.items ≡ k.items = same_Some h.items k.items (sym h.says ∙ k.says) in
    same_Some a b (sym h.at ∙ ap (λ xs. slice_get xs place) items ∙ k.at)

-- where no name is set twice, it is set by one item
pub one_setting : (w : World) (own name : Text) → (IsTwice w own a_setting name → ⊥) → (key key' : Text) (place place' : ℕ) (a b : ItemShape) → Defines w own a_setting name key place a → Defines w own a_setting name key' place' b → a ≡ b
one_setting w own name once key key' place place' a b d d' = by_key (bytes_eq key key') refl
  where
    apart : (key ≢ key') ⊎ (place ≢ place') → ⊥
    apart others = once (record {
      key = key;
      place = place;
      item = a;
      defines = d;
      kind' = a_setting;
      key' = key';
      place' = place';
      item' = b;
      defines' = d';
      spaces = refl;
      others = others;
      forbidden = no_both w own a_setting a_setting refl;
    })

    by_place : key ≡ key' → (c : Bool) → nat_eq place place' ≡ c → a ≡ b
    by_place same true is = one_item w key' place' a b (subst (λ p. Has w key' p a) ((Decides-eqb place place').0 is) (subst (λ q. Has w q place a) same d.has)) d'.has
    by_place same false is = absurd (apart (inr (λ e. true≢false (sym ((Decides-eqb place place').1 e) ∙ is))))

    by_key : (c : Bool) → bytes_eq key key' ≡ c → a ≡ b
    by_key true is = by_place ((bytes_eq-Decides key key').0 is) (nat_eq place place') refl
    by_key false is = absurd (apart (inl (λ e. true≢false (sym ((bytes_eq-Decides key key').1 e) ∙ is))))

-- ---- settings by their places

module _ (text : Place → Text) (set_at : Place → Option SetShape) (name : Text) where
  -- at each place a setting stands, whose name is the text there
  abbrev AreSets : List Place → Type 0
  AreSets places = (n : ℕ) (place : Place) → slice_get places n ≡ Some place → (s : SetShape) × (set_at place ≡ Some s) × (text place ≡ s.name)

  abbrev value_at : Place → Option ValueShape
  value_at place = option_map (λ (s : SetShape). s.value) (set_at place)

  -- the value of a name is that at the first place that has the name
  pub value_found : (places : List Place) → AreSets places → setting_named name (filter_map set_at places) ≡ option_and_then value_at (first_named text places name)
  value_found [] sets = refl
  value_found (place ∷ places) sets =
      let s = sets 0 place refl in
      by_first s.0 s.1 s.2 (value_found places (λ n. sets (suc n)))
    where
      by_first : (s : SetShape) → set_at place ≡ Some s → text place ≡ s.name
          → setting_named name (filter_map set_at places) ≡ option_and_then value_at (first_named text places name)
          → setting_named name (filter_map set_at (place ∷ places)) ≡ option_and_then value_at (first_named text (place ∷ places) name)
      by_first s is named later =
          ap (λ o. setting_named name (cons_option o (filter_map set_at places))) is
          ∙ ap (λ (t : Text). cond (bytes_eq t name) (Some s.value) (setting_named name (filter_map set_at places))) (sym named)
          ∙ by_name (bytes_eq (text place) name) (ap (option_map (λ (x : SetShape). x.value)) is) later
        where
          by_name : (c : Bool) → value_at place ≡ Some s.value → setting_named name (filter_map set_at places) ≡ option_and_then value_at (first_named text places name)
              → cond c (Some s.value) (setting_named name (filter_map set_at places)) ≡ option_and_then value_at (cond c (Some place) (first_named text places name))
          by_name true value later = sym value
          by_name false value later = later

-- only the value true is true
true_value : (value : ValueShape) → is_true (Some value) ≡ true → value ≡ truth true
true_value (truth b) e = ap truth e
true_value (expression x) e = absurd (true≢false (sym e))
true_value (interpreter x) e = absurd (true≢false (sym e))
true_value (string x) e = absurd (true≢false (sym e))

module _ (w : World) (compilation : Compilation) (is : IsOfWorld w compilation) (once : AreSetOnce w compilation) (k : ℕ) (node : ModuleNode) (here : HasNode w compilation k node) where
  abbrev sets : HasList w (views w compilation) (nodes w compilation) (node_view node) a_setting node.sets.items
  sets = (node_is w compilation is k node here).sets

  abbrev set_at : Place → Option SetShape
  set_at place = set_of (shape_at compilation place)

  -- a setting that the module keeps stands at its place
  record IsSetAt (name : Text) (place : Place) (s : IsListed w compilation node a_setting name place) : Type 0 where
    pub attributes : List AttributeShape
    pub setting : SetShape
    pub shape : s.item ≡ set_item attributes setting
    pub is_named : setting.name ≡ name
    pub found : set_at place ≡ Some setting

  set_there : (name : Text) (place : Place) (s : IsListed w compilation node a_setting name place) → IsSetAt name place s
  set_there name place s =
      let r = is_item a_setting name w.os s.item s.keeps.defines.is in
      record { attributes = r.0; setting = r.1; shape = r.2; is_named = r.3; found = ap set_of (s.shaped ∙ ap (λ (i : ItemShape). Some i) r.2) }

  -- the value of a name, by the places of the list
  value_is : (name : Text) → setting_named name (sets_of compilation node) ≡ option_and_then (value_at (text_at compilation) set_at name) (first_named (text_at compilation) node.sets.items name)
  value_is name = value_found (text_at compilation) set_at name node.sets.items (λ n place e.
      let l = listed_at w compilation is k node here a_setting node.sets.items sets place (contains_at node.sets.items n place e) in
      let t = set_there l.0 place l.1 in
      (t.setting, t.found, l.1.texted ∙ sym t.is_named))

  -- a setting is on where the module sets it to true
  pub is_on : (name : Text) → (is_true (setting_named name (sets_of compilation node)) ≡ true) ↔ IsOn w node.source.now name
  is_on name = (λ e. by_found (first_named (text_at compilation) node.sets.items name) refl (sym (ap is_true (value_is name)) ∙ e), λ on. from_on on)
    where
      by_found : (found : Option Place) → first_named (text_at compilation) node.sets.items name ≡ found → is_true (option_and_then (value_at (text_at compilation) set_at name) found) ≡ true → IsOn w node.source.now name
      by_found (Some place) e on =
          let s = (found_is w compilation is k node here a_setting node.sets.items sets name (Some place) e).1 in
          let t = set_there name place s in
          record {
            key = s.key;
            place = s.at;
            attributes = t.attributes;
            setting = t.setting;
            defines = subst (Defines w node.source.now a_setting name s.key s.at) t.shape s.keeps.defines;
            is = true_value t.setting.value (sym (ap (λ o. is_true (option_map (λ (x : SetShape). x.value) o)) t.found) ∙ on);
          }
      by_found None e on = absurd (true≢false (sym on))

      from_on : IsOn w node.source.now name → is_true (setting_named name (sets_of compilation node)) ≡ true
      from_on on =
          let f = first_of w compilation is k node here a_setting node.sets.items sets name (record { key = on.key; place = on.place; item = set_item on.attributes on.setting; defines = on.defines }) in
          let t = set_there name f.place f.stands in
          let items : set_item t.attributes t.setting ≡ set_item on.attributes on.setting = sym t.shape
          ∙ one_setting w node.source.now name (once k node here name) f.stands.key on.key f.stands.at on.place f.stands.item (set_item on.attributes on.setting) f.stands.keeps.defines on.defines in
          let same : t.setting ≡ on.setting = cc items in
          ap is_true (value_is name ∙ ap (option_and_then (value_at (text_at compilation) set_at name)) f.found ∙ ap (option_map (λ (x : SetShape). x.value)) t.found
          ∙ ap (λ (x : SetShape). Some x.value) same ∙ ap (λ (v : ValueShape). Some v) on.is)
