-- Where a module keeps no definition of a kind and name, none of its files has one; and what items that define a name are.
use Rattle.std.proofs.Common.{◌≡◌, inl, inr, sym, ◌∙◌, ap, subst, ℕ, zero, suc, ◌<◌, ◌≤◌, ◌+◌, length, Bool, true, false, if◌then◌else◌, List, [], Option, Some, None, refl, arith}
use Rattle.std.specs.Prelude.{slice_get}
use Rattle.std.proofs.lemmas.Bool.Decides.{leb_tells}
use Rattle.std.proofs.lemmas.Option.{none-some, same_Some, slice_get_within}
use Rattle.just_text.specs.declared.os.Os.{Os}
use Rattle.tree_attributes.specs.Attributes.{AttributeShape}
use Rattle.tree_attributes.specs.Settings.{SetShape}
use Rattle.tree_items.specs.Files.{ItemShape, alias_item, assignment_item, comment_item, function_item, import_item, module_item, newline_item, recipe_item, set_item, unexport_item}
use Rattle.tree_items.specs.Items.{AliasShape, AssignmentShape, FunctionShape, ModuleShape}
use Rattle.tree_items.specs.Recipes.{RecipeShape}
use Rattle.meaning_rules.specs.Worlds.Given.{Text, World}
use Rattle.meaning_rules.specs.Worlds.Modules.{IsReadingOrder}
use Rattle.meaning_rules.specs.Worlds.Sources.{enabled}
use Rattle.meaning_rules.specs.Worlds.Keeping.{Kind, a_recipe, an_alias, a_function, a_setting, a_submodule, a_variable, an_unexport, defined_by, Defines, IsDefined, Keeps}
use Rattle.meaning_rules.proofs.Worlds.Places.{place_of}
use Rattle.meaning_rules.proofs.Worlds.Reading.{orders_have_reached}

place_within : (w : World) (own : Text) (kind : Kind) (name key : Text) (items : List ItemShape) → w.said key ≡ Some items → (place : ℕ) (item : ItemShape) → Defines w own kind name key place item → place < length items
place_within w own kind name key items says place item d =
    let same : d.has.items ≡ items = same_Some d.has.items items (sym d.has.says ∙ says) in
    slice_get_within items place item (sym (ap (λ xs. slice_get xs place) same) ∙ d.has.at)

module _ (w : World) (own : Text) (kind : Kind) (name : Text) (files : List Text) (order : IsReadingOrder w own files) (none : (item : ItemShape) → Keeps w own kind name item → ⊥) where
  -- no place of a file has one, if no earlier file has
  none_at : (at : ℕ) (key : Text) (items : List ItemShape) → slice_get files at ≡ Some key → w.said key ≡ Some items
      → ((at' : ℕ) (key' : Text) (place' : ℕ) (item' : ItemShape) → at' < at → slice_get files at' ≡ Some key' → Defines w own kind name key' place' item' → ⊥)
      → (left place : ℕ) (item : ItemShape) → length items ≤ place + left → Defines w own kind name key place item → ⊥
  none_at at key items found says earlier zero place item le d = let lt = place_within w own kind name key items says place item d in absurd (omega (arith, le, lt))
  none_at at key items found says earlier (suc left) place item le d = none item (record {
    key = key;
    place = place;
    kept = record {
      defines = d;
      files = files;
      order = order;
      at = at;
      found = found;
      first = λ at' key' place' item' found' d'. elim (leb_tells at at') [
        | inl p ↦ p.1
        | inr p ↦ absurd (earlier at' key' place' item' p.1 found' d')
      ];
      last = λ place' item' d'. elim (leb_tells place' place) [
        | inl p ↦ p.1
        | inr p ↦ let less = p.1 in absurd (none_at at key items found says earlier left place' item' (omega (arith, le, less)) d')
      ];
    };
  })

  none_from : (bound at : ℕ) → at < bound → (key : Text) → slice_get files at ≡ Some key → (place : ℕ) (item : ItemShape) → Defines w own kind name key place item → ⊥
  none_from zero at lt key found place item d = absurd (omega (arith, lt))
  none_from (suc bound) at lt key found place item d =
      let items = d.has.items in
      none_at at key items found d.has.says (λ at' key' place' item' less found' d'. none_from bound at' (omega (arith, lt, less)) key' found' place' item' d') (length items) place item (omega arith) d

  pub none_defined : IsDefined w own kind name → ⊥
  none_defined d =
      let p = place_of files d.key ((orders_have_reached w own files order d.key).1 d.defines.of) in
      none_from (suc p.0) p.0 (omega arith) d.key p.1 d.place d.item d.defines

-- an item is one of a kind, with a name
abbrev pub IsItem : ItemShape → Kind → Text → Type 0
IsItem item a_recipe name = (attributes : List AttributeShape) × (r : RecipeShape) × (item ≡ recipe_item attributes r) × (r.name ≡ name)
IsItem item an_alias name = (attributes : List AttributeShape) × (a : AliasShape) × (item ≡ alias_item attributes a) × (a.name ≡ name)
IsItem item a_function name = (f : FunctionShape) × (item ≡ function_item f) × (f.name ≡ name)
IsItem item a_setting name = (attributes : List AttributeShape) × (s : SetShape) × (item ≡ set_item attributes s) × (s.name ≡ name)
IsItem item a_submodule name = (attributes : List AttributeShape) × (m : ModuleShape) × (item ≡ module_item attributes m) × (m.name ≡ name)
IsItem item a_variable name = (attributes : List AttributeShape) × (a : AssignmentShape) × (item ≡ assignment_item attributes a) × (a.name ≡ name)
IsItem item an_unexport name = (text : Text) × (item ≡ unexport_item text) × (text ≡ name)

module _ (kind : Kind) (name : Text) where
  abbrev said : Kind → Text → Option (Kind × Text)
  said other text = Some (other, text)

  -- what is so of the kind and name that are said is so of these
  as_said : (P : Kind → Text → Type 0) (other : Kind) (text : Text) → P other text → said other text ≡ said kind name → P kind name
  as_said P other text h e = subst (λ (p : Kind × Text). P p.0 p.1) (same_Some (other, text) (kind, name) e) h

  -- also where they are said under a condition
  if_said : (P : Kind → Text → Type 0) (b : Bool) (other : Kind) (text : Text) → P other text → (if b then said other text else None) ≡ said kind name → P kind name
  if_said P true other text h e = as_said P other text h e
  if_said P false other text h e = absurd (none-some (kind, name) e)

  -- an item that defines a name is one of the kind, with the name
  pub is_item : (os : Os) (item : ItemShape) → defined_by os item ≡ Some (kind, name) → IsItem item kind name
  is_item os (alias_item attributes a) e = as_said (IsItem (alias_item attributes a)) an_alias a.name (attributes, a, refl, refl) e
  is_item os (assignment_item attributes a) e = if_said (IsItem (assignment_item attributes a)) (enabled os attributes) a_variable a.name (attributes, a, refl, refl) e
  is_item os (comment_item text) e = absurd (none-some (kind, name) e)
  is_item os (function_item f) e = as_said (IsItem (function_item f)) a_function f.name (f, refl, refl) e
  is_item os (import_item line) e = absurd (none-some (kind, name) e)
  is_item os (module_item attributes m) e = if_said (IsItem (module_item attributes m)) (enabled os attributes) a_submodule m.name (attributes, m, refl, refl) e
  is_item os newline_item e = absurd (none-some (kind, name) e)
  is_item os (recipe_item attributes r) e = if_said (IsItem (recipe_item attributes r)) (enabled os attributes) a_recipe r.name (attributes, r, refl, refl) e
  is_item os (set_item attributes s) e = if_said (IsItem (set_item attributes s)) (enabled os attributes) a_setting s.name (attributes, s, refl, refl) e
  is_item os (unexport_item text) e = as_said (IsItem (unexport_item text)) an_unexport text (text, refl, refl) e

-- the name of an alias, a variable, a function or a recipe
abbrev name_in : ItemShape → Text
name_in (alias_item attributes a) = a.name
name_in (assignment_item attributes a) = a.name
name_in (function_item f) = f.name
name_in (recipe_item attributes r) = r.name
name_in (comment_item text) = []
name_in (import_item line) = []
name_in (module_item attributes m) = []
name_in newline_item = []
name_in (set_item attributes s) = []
name_in (unexport_item name) = []

-- a recipe that is defined by a name has it
pub recipe_named : (os : Os) (attributes : List AttributeShape) (r : RecipeShape) (name : Text) → defined_by os (recipe_item attributes r) ≡ Some (a_recipe, name) → r.name ≡ name
recipe_named os attributes r name e = let q = is_item a_recipe name os (recipe_item attributes r) e in ap name_in q.2 ∙ q.3

-- so an alias
pub alias_named : (os : Os) (attributes : List AttributeShape) (a : AliasShape) (name : Text) → defined_by os (alias_item attributes a) ≡ Some (an_alias, name) → a.name ≡ name
alias_named os attributes a name e = let q = is_item an_alias name os (alias_item attributes a) e in ap name_in q.2 ∙ q.3
