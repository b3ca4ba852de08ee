-- What settings say in a module.
use Rattle.std.proofs.Common.{◌≡◌, sym, ◌∙◌, ap, subst, Bool, true, false, ◌&&◌, ℕ, List, Option, Some, None, refl, if◌then◌else◌}
use Rattle.std.specs.Prelude.{◌↔◌, bytes_eq}
use Rattle.std.proofs.lemmas.Bool.{false≢true}
use Rattle.std.proofs.lemmas.Option.{none-some, same_Some}
use Rattle.std.proofs.lemmas.Slice.Eq.{bytes_eq-Decides}
use Rattle.just_text.specs.declared.os.Os.{Os}
use Rattle.tree_attributes.specs.Attributes.{AttributeShape}
use Rattle.tree_attributes.specs.Settings.{SetShape, ValueShape, truth, expression, interpreter, string}
use Rattle.tree_items.specs.Files.{ItemShape, item_shape, is_blank, alias_item, assignment_item, comment_item, function_item, import_item, module_item, newline_item, recipe_item, set_item, unexport_item}
use Rattle.modules_compilation.specs.declared.module_node.File.{File}
use Rattle.meaning_rules.specs.Worlds.Given.{Text, World}
use Rattle.meaning_rules.specs.Worlds.Sources.{Has, enabled}
use Rattle.meaning_rules.specs.Worlds.Keeping.{Kind, a_setting, if_enabled, IsOn}
use Rattle.laws_modules.specs.Files.Files.{AreFiles}
use Rattle.just_modules.specs.Settings.{is_on, is_on_among, is_true, turns_on}
use Rattle.just_modules.proofs.Outcomes.{and_true}
use Rattle.just_modules.proofs.Contained.{any_at, any_of}
use Rattle.just_modules.proofs.ModuleFiles.{has_place, is_file_of, is_item_of}

-- the item is a setting that makes this true
record TurnsOn (os : Os) (name : Text) (shape : ItemShape) : Type 0 where
  attributes : List AttributeShape
  setting : SetShape
  is : shape ≡ set_item attributes setting
  here : enabled os attributes ≡ true
  is_named : setting.name ≡ name
  value : setting.value ≡ truth true

is_truth : (v : ValueShape) → is_true v ≡ true → v ≡ truth true
is_truth (truth b) e = ap truth e
is_truth (expression s) e = absurd (false≢true e)
is_truth (interpreter i) e = absurd (false≢true e)
is_truth (string s) e = absurd (false≢true e)

turned_on : (os : Os) (name : Text) (shape : ItemShape) → turns_on os name shape ≡ true → TurnsOn os name shape
turned_on os name (set_item attributes s) e =
    let first = and_true (enabled os attributes && bytes_eq s.name name) (is_true s.value) e in
    let second = and_true (enabled os attributes) (bytes_eq s.name name) first.0 in
    record { attributes = attributes; setting = s; is = refl; here = second.0; is_named = (bytes_eq-Decides s.name name).0 second.1; value = is_truth s.value first.1 }
turned_on os name (alias_item attributes a) e = absurd (false≢true e)
turned_on os name (assignment_item attributes a) e = absurd (false≢true e)
turned_on os name (comment_item t) e = absurd (false≢true e)
turned_on os name (function_item f) e = absurd (false≢true e)
turned_on os name (import_item i) e = absurd (false≢true e)
turned_on os name (module_item attributes m) e = absurd (false≢true e)
turned_on os name newline_item e = absurd (false≢true e)
turned_on os name (recipe_item attributes r) e = absurd (false≢true e)
turned_on os name (unexport_item n) e = absurd (false≢true e)

turns : (os : Os) (name : Text) (attributes : List AttributeShape) (s : SetShape) → enabled os attributes ≡ true → s.name ≡ name → s.value ≡ truth true → turns_on os name (set_item attributes s) ≡ true
turns os name attributes s here is_named value =
    ap (λ b. b && bytes_eq s.name name && is_true s.value) here ∙ ap (λ b. b && is_true s.value) ((bytes_eq-Decides s.name name).1 is_named) ∙ ap is_true value

-- ---- what an item defines where it is enabled

pub defined_here : (os : Os) (attributes : List AttributeShape) (kind : Kind) (name other : Text) → enabled os attributes ≡ true → name ≡ other → if_enabled os attributes kind name ≡ Some (kind, other)
defined_here os attributes kind name other here is = ap (λ b. if b then Some (kind, name) else None) here ∙ ap (λ n. Some (kind, n)) is

abbrev if_so : Bool → Kind → Text → Option (Kind × Text)
if_so b kind name = if b then Some (kind, name) else None

pub enabled_if : (os : Os) (attributes : List AttributeShape) (kind other : Kind) (name told : Text) → if_enabled os attributes kind name ≡ Some (other, told) → (enabled os attributes ≡ true) × (name ≡ told)
enabled_if os attributes kind other name told e = by_test (enabled os attributes) refl e
  where
    by_test : (b : Bool) → enabled os attributes ≡ b → if_so b kind name ≡ Some (other, told) → (enabled os attributes ≡ true) × (name ≡ told)
    by_test true is some = (is, ap (λ (d : Kind × Text). d.1) (same_Some (kind, name) (other, told) some))
    by_test false is some = absurd (none-some (other, told) some)

-- ---- a setting that is on

module _ (w : World) (owner : ℕ) (own : Text) (files : List File) (are : AreFiles w owner own files) (name : Text) where
  pub is_on_then : is_on w.os files name ≡ true → IsOn w own name
  is_on_then e =
      let f = any_of (λ (file : File). is_on_among w.os name file.ast.items.items) files e in
      let i = any_of (λ item. turns_on w.os name (item_shape item)) f.0.ast.items.items f.2 in
      let t = turned_on w.os name (item_shape i.0) i.2 in
      let p = has_place w owner own files are f.0 f.1 i.0 i.1 (ap is_blank t.is) in
      record {
        key = f.0.key.now;
        place = p.0;
        attributes = t.attributes;
        setting = t.setting;
        defines = record {
          of = is_file_of w owner own files are f.0 f.1;
          has = subst (Has w f.0.key.now p.0) t.is p.1;
          is = defined_here w.os t.attributes a_setting t.setting.name name t.here t.is_named;
          taken = tt;
        };
        is = t.value;
      }

  pub is_on_if : IsOn w own name → is_on w.os files name ≡ true
  is_on_if s =
      let i = is_item_of w owner own files are s.key s.place (set_item s.attributes s.setting) s.defines.of s.defines.has in
      let d = enabled_if w.os s.attributes a_setting a_setting s.setting.name name s.defines.is in
      any_at (λ (file : File). is_on_among w.os name file.ast.items.items) files i.file i.among
      (any_at (λ item. turns_on w.os name (item_shape item)) i.file.ast.items.items i.item i.there (ap (turns_on w.os name) i.is ∙ turns w.os name s.attributes s.setting d.0 d.1 s.is))

  pub not_on : is_on w.os files name ≡ false → IsOn w own name → ⊥
  not_on e s = false≢true (sym e ∙ is_on_if s)

  pub none_on : (IsOn w own name → ⊥) → is_on w.os files name ≡ false
  none_on none = by_test (is_on w.os files name) refl
    where
      by_test : (b : Bool) → is_on w.os files name ≡ b → is_on w.os files name ≡ false
      by_test true is = absurd (none (is_on_then is))
      by_test false is = is

-- a setting is on exactly where the module sets it so
pub on_is_on : (w : World) (owner : ℕ) (own : Text) (files : List File) (os : Os) → AreFiles w owner own files → w.os ≡ os → (name : Text) → (is_on os files name ≡ true) ↔ IsOn w own name
on_is_on w owner own files os are same name = (
  λ e. is_on_then w owner own files are name (ap (λ o. is_on o files name) same ∙ e),
  λ s. ap (λ o. is_on o files name) (sym same) ∙ is_on_if w owner own files are name s,
)
