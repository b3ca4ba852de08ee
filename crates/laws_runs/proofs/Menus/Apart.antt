-- No name of a module is two of recipe, alias and submodule.
use Rattle.std.proofs.Common.{◌≡◌, inl, inr, sym, ◌∙◌, ap, subst, Bool, true, false, if◌then◌else◌, List, ℕ, Option, Some, None, refl}
use Rattle.std.specs.Prelude.{slice_get}
use Rattle.std.proofs.lemmas.Bool.Decides.{eqb_tells}
use Rattle.std.proofs.lemmas.Option.{none-some, same_Some}
use Rattle.just_text.specs.declared.os.Os.{Os}
use Rattle.tree_attributes.specs.Attributes.{AttributeShape}
use Rattle.tree_items.specs.Files.{ItemShape, alias_item, assignment_item, comment_item, function_item, import_item, module_item, newline_item, recipe_item, set_item, unexport_item}
use Rattle.tree_items.specs.Items.{AliasShape}
use Rattle.meaning_rules.specs.Worlds.Given.{Text, World}
use Rattle.meaning_rules.specs.Worlds.Sources.{Has, IsFileOf, IsSubmodule, enabled}
use Rattle.meaning_rules.specs.Worlds.Keeping.{Defines, IsTwice, Kind, MayBoth, a_function, a_recipe, a_setting, a_submodule, a_variable, an_alias, an_unexport, both_recipes, both_variables, defined_by, space_of}

abbrev said : Kind → Text → Option (Kind × Text)
said kind text = Some (kind, text)

kind_said : (kind kind' : Kind) (text text' : Text) → said kind text ≡ said kind' text' → kind ≡ kind'
kind_said kind kind' text text' e = ap (λ (p : Kind × Text). p.0) (same_Some (kind, text) (kind', text') e)

-- ---- what defines an alias

other_if : (b : Bool) (kind : Kind) (text name : Text) → (if b then said kind text else None) ≡ said an_alias name → (kind ≡ an_alias → ⊥) → ⊥
other_if true kind text name e other = other (kind_said kind an_alias text name e)
other_if false kind text name e other = none-some (an_alias, name) e

pub is_alias : (os : Os) (item : ItemShape) (name : Text) → defined_by os item ≡ Some (an_alias, name) → (attributes : List AttributeShape) × (a : AliasShape) × (item ≡ alias_item attributes a) × (a.name ≡ name)
is_alias os (alias_item attributes a) name e = (attributes, a, refl, ap (λ (p : Kind × Text). p.1) (same_Some (an_alias, a.name) (an_alias, name) e))
is_alias os (assignment_item attributes a) name e = absurd (other_if (enabled os attributes) a_variable a.name name e (λ s. cc s))
is_alias os (comment_item text) name e = absurd (none-some (an_alias, name) e)
is_alias os (function_item f) name e = let k = kind_said a_function an_alias f.name name e in absurd (cc k)
is_alias os (import_item line) name e = absurd (none-some (an_alias, name) e)
is_alias os (module_item attributes m) name e = absurd (other_if (enabled os attributes) a_submodule m.name name e (λ s. cc s))
is_alias os newline_item name e = absurd (none-some (an_alias, name) e)
is_alias os (recipe_item attributes r) name e = absurd (other_if (enabled os attributes) a_recipe r.name name e (λ s. cc s))
is_alias os (set_item attributes s) name e = absurd (other_if (enabled os attributes) a_setting s.name name e (λ k. cc k))
is_alias os (unexport_item text) name e = let k = kind_said an_unexport an_alias text name e in absurd (cc k)

-- ---- two kinds

module _ (w : World) (own name : Text) where
  both_alike : {kind kind' : Kind} → MayBoth w own kind kind' → kind ≡ kind'
  both_alike (both_recipes on) = refl
  both_alike (both_variables on) = refl

  one_item : (key : Text) (place : ℕ) (a b : ItemShape) → Has w key place a → Has w key place b → a ≡ b
  one_item key place a b h k =
      let items : h.items ≡ k.items = same_Some h.items k.items (sym h.says ∙ k.says) in
      same_Some a b (sym h.at ∙ ap (λ xs. slice_get xs place) items ∙ k.at)

  -- a name that may not be defined twice in its space is not defined by two kinds
  pub never_both : (kind kind' : Kind) → space_of kind ≡ space_of kind' → (kind ≡ kind' → ⊥) → (IsTwice w own kind name → ⊥)
      → (key key' : Text) (place place' : ℕ) (item item' : ItemShape) → Defines w own kind name key place item → Defines w own kind' name key' place' item' → ⊥
  never_both kind kind' spaces differ single key key' place place' item item' d d' = single (record {
    key = key;
    place = place;
    item = item;
    defines = d;
    kind' = kind';
    key' = key';
    place' = place';
    item' = item';
    defines' = d';
    spaces = spaces;
    others = elim (eqb_tells place place') [
      | inl p ↦ inl (λ keys.
          let there = subst (λ k. Has w k place' item) keys (subst (λ n. Has w key n item) p.1 d.has) in
          let same = one_item key' place' item item' there d'.has in
          differ (kind_said kind kind' name name (sym d.is ∙ ap (defined_by w.os) same ∙ d'.is)))
      | inr p ↦ inr p.1
    ];
    forbidden = λ may. differ (both_alike may);
  })

  -- a submodule is defined
  pub defines_module : (file key : Text) → IsFileOf w own file → (s : IsSubmodule w file name key) → Defines w own a_submodule name file s.place (module_item s.has.attributes s.line)
  defines_module file key of s = record {
    of = of;
    has = s.has.has;
    is = ap (λ (b : Bool). if b then said a_submodule s.line.name else None) s.has.enabled ∙ ap (said a_submodule) s.is_named;
    taken = (key, s.means);
  }
