-- The settings of a module by their names: which order they stand in counts nothing, where no two have one name.
use Rattle.std.proofs.Common.{◌≡◌, refl, sym, ◌∙◌, ap, subst, ◌⊎◌, inl, inr, Bool, true, false, cond, true≢false, List, [], ◌∷◌, Option, Some, None}
use Rattle.std.specs.Prelude.{Contains}
use Rattle.std.specs.Str.{bytes_eq}
use Rattle.std.proofs.lemmas.Option.{none-some, same_Some}
use Rattle.std.proofs.lemmas.Slice.Eq.{bytes_eq-Decides}
use Rattle.tree_attributes.specs.Settings.{SetShape, ValueShape}
use Rattle.tree_items.specs.Files.{set_item}
use Rattle.meaning_rules.specs.Worlds.Given.{Overrides, Text, World}
use Rattle.meaning_rules.specs.Worlds.Keeping.{Defines, IsTwice, a_setting}
use Rattle.meaning_rules.proofs.Worlds.Places.{contains_cases, contains_first, contains_later, contains_none}
use Rattle.meaning_rules.specs.Constants.{HasSetting}
use Rattle.laws_names.proofs.Constants.Kept.{one_setting}
use Rattle.just_meaning.specs.Rows.{setting_named}

-- a setting of the name, which has the value
pub record IsSetTo (name : Text) (sets : List SetShape) (value : ValueShape) : Type 0 where
  pub set : SetShape
  pub among : Contains sets set
  pub is_named : set.name ≡ name
  pub is : set.value ≡ value

-- a value that is found is that of a setting of the name
pub named_set : (name : Text) (sets : List SetShape) (value : ValueShape) → setting_named name sets ≡ Some value → IsSetTo name sets value
named_set name [] value e = absurd (none-some value e)
named_set name (s ∷ ss) value e = by_test (bytes_eq s.name name) refl e (named_set name ss value)
  where
    by_test : (b : Bool) → bytes_eq s.name name ≡ b → cond b (Some s.value) (setting_named name ss) ≡ Some value → (setting_named name ss ≡ Some value → IsSetTo name ss value) → IsSetTo name (s ∷ ss) value
    by_test true is e later = record { set = s; among = contains_first s ss; is_named = (bytes_eq-Decides s.name name).0 is; is = same_Some s.value value e }
    by_test false is e later =
        let r = later e in
        record { set = r.set; among = contains_later s ss r.set r.among; is_named = r.is_named; is = r.is }

-- where there is a setting of the name, a value is found
set_named : (name : Text) (sets : List SetShape) (s : SetShape) → Contains sets s → s.name ≡ name → (value : ValueShape) × (setting_named name sets ≡ Some value)
set_named name [] s c e = absurd (contains_none [] s refl c)
set_named name (t ∷ ts) s c e = by_test (bytes_eq t.name name) refl (contains_cases t ts s c) (λ d. set_named name ts s d e)
  where
    by_test : (b : Bool) → bytes_eq t.name name ≡ b → (t ≡ s) ⊎ Contains ts s → (Contains ts s → (value : ValueShape) × (setting_named name ts ≡ Some value))
        → (value : ValueShape) × (cond b (Some t.value) (setting_named name ts) ≡ Some value)
    by_test true is cases later = (t.value, refl)
    by_test false is (inl same) later = absurd (true≢false (sym ((bytes_eq-Decides t.name name).1 (ap (λ (x : SetShape). x.name) same ∙ e)) ∙ is))
    by_test false is (inr d) later = later d

module _ (sets sets' : List SetShape) (to : (s : SetShape) → Contains sets s → Contains sets' s) (from : (s : SetShape) → Contains sets' s → Contains sets s)
    (one : (s t : SetShape) → Contains sets s → Contains sets t → s.name ≡ t.name → s ≡ t) (name : Text) where
  -- lists with the same settings, no two of one name, have the same value of a name
  pub named_same : setting_named name sets ≡ setting_named name sets'
  named_same = by_found (setting_named name sets) refl (setting_named name sets') refl
    where
      by_found : (found : Option ValueShape) → setting_named name sets ≡ found → (found' : Option ValueShape) → setting_named name sets' ≡ found' → setting_named name sets ≡ setting_named name sets'
      by_found (Some value) e (Some value') f =
          let a = named_set name sets value e in
          let b = named_set name sets' value' f in
          let same : a.set ≡ b.set = one a.set b.set a.among (from b.set b.among) (a.is_named ∙ sym b.is_named) in
          e ∙ ap (λ v. Some v) (sym a.is ∙ ap (λ (s : SetShape). s.value) same ∙ b.is) ∙ sym f
      by_found (Some value) e None f =
          let a = named_set name sets value e in
          let r = set_named name sets' a.set (to a.set a.among) a.is_named in
          absurd (none-some r.0 (sym f ∙ r.1))
      by_found None e (Some value') f =
          let b = named_set name sets' value' f in
          let r = set_named name sets b.set (from b.set b.among) b.is_named in
          absurd (none-some r.0 (sym e ∙ r.1))
      by_found None e None f = e ∙ sym f

-- a module has one setting of a name, where no name is set twice
pub one_set : (w : World) (o : Overrides) (path : List Text) (own : Text) → ((name : Text) → IsTwice w own a_setting name → ⊥)
    → (s t : SetShape) → HasSetting w o path own s → HasSetting w o path own t → s.name ≡ t.name → s ≡ t
one_set w o path own once s t h k e =
    let items : set_item h.attributes s ≡ set_item k.attributes t = one_setting w own s.name (once s.name) h.key k.key h.place k.place (set_item h.attributes s) (set_item k.attributes t) h.defines
    (subst (λ name. Defines w own a_setting name k.key k.place (set_item k.attributes t)) (sym e) k.defines) in
    cc items
