-- Whether a module sets a setting to `true`.
use Rattle.std.proofs.Common.{◌≡◌, ◌⊎◌, ◌↔◌, inl, inr, refl, sym, ◌∙◌, ap, subst, Bool, true, false, ℕ, List, Option, Some, None, if◌then◌else◌}
use Rattle.std.specs.Prelude.{slice_get}
use Rattle.std.specs.Str.{bytes_eq}
use Rattle.std.proofs.lemmas.Option.{none-some, same_Some}
use Rattle.std.proofs.lemmas.Slice.Eq.{bytes_eq-Decides}
use Rattle.just_text.specs.declared.os.Os.{Os}
use Rattle.tree_attributes.specs.Attributes.{AttributeShape}
use Rattle.tree_attributes.specs.Settings.{SetShape, ValueShape, truth, expression, interpreter, string}
use Rattle.tree_items.specs.Files.{ItemShape, alias_item, assignment_item, comment_item, function_item, import_item, module_item, newline_item, recipe_item, set_item, unexport_item}
use Rattle.meaning_rules.specs.Worlds.Given.{Text, World}
use Rattle.meaning_rules.specs.Worlds.Sources.{Has, enabled}
use Rattle.meaning_rules.specs.Worlds.Modules.{IsReadingOrder}
use Rattle.meaning_rules.specs.Worlds.Keeping.{a_setting, defined_by, IsOn}
use Rattle.meaning_rules.proofs.Worlds.Places.{contains_at, place_of}
use Rattle.meaning_rules.proofs.Worlds.Reading.{orders_have_reached}
use Rattle.laws_agreement.proofs.Known.Lists.{search}
use Rattle.laws_agreement.proofs.Known.Kept.{is_item}

-- a setting of the name that is `true`
pub record Sets (os : Os) (name : Text) (item : ItemShape) : Type 0 where
  pub attributes : List AttributeShape
  pub setting : SetShape
  pub is : item ≡ set_item attributes setting
  pub defines : defined_by os item ≡ Some (a_setting, name)
  pub value : setting.value ≡ truth true

-- a value is `true` or not
truth_or_not : (value : ValueShape) → (value ≡ truth true) ⊎ (value ≡ truth true → ⊥)
truth_or_not (truth true) = inl refl
truth_or_not (truth false) = inr (λ e. absurd (cc e))
truth_or_not (expression e) = inr (λ f. absurd (cc f))
truth_or_not (interpreter i) = inr (λ e. absurd (cc e))
truth_or_not (string s) = inr (λ e. absurd (cc e))

-- the value of an item that is a setting
abbrev value_in : ItemShape → Option ValueShape
value_in (set_item attributes s) = Some s.value
value_in (alias_item attributes a) = None
value_in (assignment_item attributes a) = None
value_in (comment_item text) = None
value_in (function_item f) = None
value_in (import_item line) = None
value_in (module_item attributes m) = None
value_in newline_item = None
value_in (recipe_item attributes r) = None
value_in (unexport_item name) = None

module _ (os : Os) (name : Text) where
  -- an item without a value sets nothing
  no_set : (item : ItemShape) → value_in item ≡ None → Sets os name item → ⊥
  no_set item none h = none-some h.setting.value (sym none ∙ ap value_in h.is)

  -- so a setting
  set_or_not : (attributes : List AttributeShape) (s : SetShape) → Sets os name (set_item attributes s) ⊎ (Sets os name (set_item attributes s) → ⊥)
  set_or_not attributes s = by_enabled (enabled os attributes) refl
    where
      by_name : enabled os attributes ≡ true → (b : Bool) → bytes_eq s.name name ≡ b → Sets os name (set_item attributes s) ⊎ (Sets os name (set_item attributes s) → ⊥)
      by_name on true e = elim (truth_or_not s.value) [
        | inl yes' ↦ inl (record {
          attributes = attributes;
          setting = s;
          is = refl;
          defines = ap (λ b. if b then Some (a_setting, s.name) else None) on ∙ ap (λ n. Some (a_setting, n)) ((bytes_eq-Decides s.name name).0 e);
          value = yes';
        })
        | inr no' ↦ inr (λ h. no' (same_Some s.value (truth true) (ap value_in h.is ∙ ap (λ v. Some v) h.value)))
      ]
      by_name on false e = inr (λ h.
          let q = is_item a_setting name os (set_item attributes s) h.defines in
          let named : s.name ≡ name = named_as q.1 q.2 ∙ q.3 in
          absurd (cc (sym e ∙ (bytes_eq-Decides s.name name).1 named)))
        where
          named_as : {other : List AttributeShape} (s' : SetShape) → set_item attributes s ≡ set_item other s' → s.name ≡ s'.name
          named_as s' f = cc f

      by_enabled : (b : Bool) → enabled os attributes ≡ b → Sets os name (set_item attributes s) ⊎ (Sets os name (set_item attributes s) → ⊥)
      by_enabled true e = by_name e (bytes_eq s.name name) refl
      by_enabled false e = inr (λ h. none-some (a_setting, name) (sym (ap (λ b. if b then Some (a_setting, s.name) else None) e) ∙ h.defines))

  -- so each item
  sets_or_not : (item : ItemShape) → Sets os name item ⊎ (Sets os name item → ⊥)
  sets_or_not (set_item attributes s) = set_or_not attributes s
  sets_or_not (alias_item attributes a) = inr (no_set (alias_item attributes a) refl)
  sets_or_not (assignment_item attributes a) = inr (no_set (assignment_item attributes a) refl)
  sets_or_not (comment_item text) = inr (no_set (comment_item text) refl)
  sets_or_not (function_item f) = inr (no_set (function_item f) refl)
  sets_or_not (import_item line) = inr (no_set (import_item line) refl)
  sets_or_not (module_item attributes m) = inr (no_set (module_item attributes m) refl)
  sets_or_not newline_item = inr (no_set newline_item refl)
  sets_or_not (recipe_item attributes r) = inr (no_set (recipe_item attributes r) refl)
  sets_or_not (unexport_item text) = inr (no_set (unexport_item text) refl)

module _ (w : World) (name : Text) where
  -- a file has a setting of the name that is `true`
  abbrev HasSet : Text → Type 0
  HasSet key = (item : ItemShape) × (place : ℕ) × Has w key place item × Sets w.os name item

  -- or it has none
  has_or_not : (key : Text) → HasSet key ⊎ (HasSet key → ⊥)
  has_or_not key = by_said (w.said key) refl
    where
      by_said : (o : Option (List ItemShape)) → w.said key ≡ o → HasSet key ⊎ (HasSet key → ⊥)
      by_said None e = inr (λ h. none-some h.2.items (sym e ∙ h.2.says))
      by_said (Some items) e = elim (search (Sets w.os name) (sets_or_not w.os name) items) [
        | inl q ↦ let p = place_of items q.0 q.1 in inl (q.0, p.0, record { items = items; says = e; at = p.1 }, q.2)
        | inr n ↦ inr (λ h.
            let same : h.2.items ≡ items = same_Some h.2.items items (sym h.2.says ∙ e) in
            n h.0 (contains_at items h.1 h.0 (ap (λ xs. slice_get xs h.1) (sym same) ∙ h.2.at)) h.3)
      ]

  -- a module has it or not
  pub on_or_not : (own : Text) (files : List Text) → IsReadingOrder w own files → (b : Bool) × ((b ≡ true) ↔ IsOn w own name)
  on_or_not own files order = elim (search HasSet has_or_not files) [
    | inl q ↦
        let h = q.2 in
        let s = h.3 in (
          true,
          (
            (λ e. record {
              key = q.0;
              place = h.1;
              attributes = s.attributes;
              setting = s.setting;
              defines = record {
                of = (orders_have_reached w own files order q.0).0 q.1;
                has = subst (Has w q.0 h.1) s.is h.2;
                is = subst (λ i. defined_by w.os i ≡ Some (a_setting, name)) s.is s.defines;
                taken = tt;
              };
              is = s.value;
            }),
            λ on. refl,
          ),
        )
    | inr n ↦ (
      false,
      (
        (λ e. absurd (cc e)),
        λ on. absurd (n on.key ((orders_have_reached w own files order on.key).1 on.defines.of)
            (set_item on.attributes on.setting, on.place, on.defines.has, record { attributes = on.attributes; setting = on.setting; is = refl; defines = on.defines.is; value = on.is })),
      ),
    )
  ]
