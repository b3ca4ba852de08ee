-- The settings of a module by shapes: they are those of the world, and no two have one name.
use Rattle.std.proofs.Common.{◌≡◌, ◌↔◌, refl, sym, ◌∙◌, ap, subst, Bool, true, false, cond, List, [], ◌∷◌, map, length, Option, Some, None, ℕ, suc, arith}
use Rattle.std.specs.Prelude.{slice_get, Contains}
use Rattle.std.specs.List.{AllByRecursion, cons_option, filter_map}
use Rattle.std.specs.List.Sorted.{IsStrictlySortedBy}
use Rattle.std.specs.Option.{option_map}
use Rattle.std.specs.Str.{bytes_eq}
use Rattle.std.specs.declared.cmp.Ordering.TheVariants.{Less}
use Rattle.std.proofs.lemmas.Cmp.{nat_list_cmp_total, tied_itself}
use Rattle.std.proofs.lemmas.Option.{same_Some}
use Rattle.std.proofs.lemmas.Slice.Eq.{bytes_eq-Decides}
use Rattle.just_text.specs.Tokens.{lexeme}
use Rattle.tree_attributes.specs.Settings.{SetShape}
use Rattle.tree_attributes.specs.Sets.Sets.{shapes_in}
use Rattle.tree_items.specs.Files.{item_shape}
use Rattle.tree_items.specs.Items.{set_shape}
use Rattle.tree_items.specs.declared.ast.Item.{Item}
use Rattle.tree_items.specs.declared.ast.Item.TheVariants.{Alias, Assignment, Comment, Function, Import, Module, Newline, Recipe, Set as set_item, Unexport}
use Rattle.tree_items.specs.declared.set.Set.{Set}
use Rattle.modules_compilation.specs.Places.{item_at}
use Rattle.modules_compilation.specs.Tables.{text_cmp}
use Rattle.modules_compilation.specs.declared.compilation.Compilation.{Compilation}
use Rattle.modules_compilation.specs.declared.module_node.ModuleNode.{ModuleNode}
use Rattle.modules_compilation.specs.declared.place.Place.{Place}
use Rattle.meaning_rules.specs.Worlds.Compiled.{HasList}
use Rattle.meaning_rules.specs.Worlds.Given.{Overrides, Text}
use Rattle.meaning_rules.specs.Worlds.Given.{World}
use Rattle.meaning_rules.specs.Worlds.Keeping.{a_setting, defined_by}
use Rattle.meaning_rules.specs.Constants.{HasSetting}
use Rattle.meaning_rules.specs.Worlds.Views.{node_view}
use Rattle.laws_modules.specs.Names.Names.{nodes, views}
use Rattle.laws_names.proofs.Reading.Kept.{kept_at}
use Rattle.laws_names.proofs.Reading.Lists.{contains_map, contains_mapped}
use Rattle.laws_names.proofs.Reading.Module.{is_node}
use Rattle.laws_names.specs.Constants.Sought.{IsSettledModule}
use Rattle.laws_names.proofs.Constants.Kept.{setting_kept, setting_there, shape_named}
use Rattle.just_resolve.specs.Settling.{set_at, sets_at}
use Rattle.just_resolve.specs.Settling as settling
use Rattle.just_resolve.proofs.Constants.{sets_are}
use Rattle.just_meaning.specs.Rows.{setting_named}
use Rattle.laws_runs.specs.Resolved.Definitions.{set_of, sets_of, shape_at}

-- ---- their shapes

shape_given : (item : Option Item) → set_of (option_map item_shape item) ≡ option_map set_shape (settling.set_of item)
shape_given None = refl
shape_given (Some (Alias x)) = refl
shape_given (Some (Assignment x)) = refl
shape_given (Some (Comment x)) = refl
shape_given (Some (Function x)) = refl
shape_given (Some (Import x)) = refl
shape_given (Some (Module x)) = refl
shape_given (Some Newline) = refl
shape_given (Some (Recipe x)) = refl
shape_given (Some (set_item x)) = refl
shape_given (Some (Unexport x)) = refl

put_shape : (o : Option Set) (shapes : List SetShape) (sets : List Set) → shapes ≡ map set_shape sets → cons_option (option_map set_shape o) shapes ≡ map set_shape (cons_option o sets)
put_shape None shapes sets e = e
put_shape (Some s) shapes sets e = ap (λ others. set_shape s ∷ others) e

module _ (compilation : Compilation) where
  shapes_given : (places : List Place) → filter_map (λ place. set_of (shape_at compilation place)) places ≡ map set_shape (sets_at compilation places)
  shapes_given [] = refl
  shapes_given (place ∷ places) =
      ap (λ o. cons_option o (filter_map (λ place. set_of (shape_at compilation place)) places)) (shape_given (item_at compilation place))
      ∙ put_shape (set_at compilation place) (filter_map (λ place. set_of (shape_at compilation place)) places) (sets_at compilation places) (shapes_given places)

  -- the settings by shapes are the shapes of the settings
  pub same_sets : (node : ModuleNode) → sets_of compilation node ≡ map set_shape (sets_at compilation node.sets.items)
  same_sets node = shapes_given node.sets.items

-- ---- their names

abbrev pub set_name : Set → Text
set_name s = lexeme s.name.token

module _ (compilation : Compilation) where
  -- at each place stands a setting with the name there
  abbrev AreNamed : List Text → List Place → Type 0
  AreNamed names places = (i : ℕ) (place : Place) → slice_get places i ≡ Some place → (s : Set) × (set_at compilation place ≡ Some s) × (slice_get names i ≡ Some (set_name s))

  names_are : (names : List Text) (places : List Place) → length names ≡ length places → AreNamed names places → map set_name (sets_at compilation places) ≡ names
  names_are [] [] many named = refl
  names_are [] (place ∷ places) many named = absurd (omega (arith, many))
  names_are (name ∷ names) [] many named = absurd (omega (arith, many))
  names_are (name ∷ names) (place ∷ places) many named =
      let first = named 0 place refl in
      ap (λ o. map set_name (cons_option o (sets_at compilation places))) first.1
      ∙ ap (λ text. text ∷ map set_name (sets_at compilation places)) (sym (same_Some name (set_name first.0) first.2))
      ∙ ap (λ others. name ∷ others) (names_are names places (omega (arith, many)) (λ i there e. named (suc i) there e))

apart : (name : Text) → text_cmp name name ≡ Less → ⊥
apart name e = let both = sym (tied_itself nat_list_cmp_total name) ∙ e in cc both

-- a name before all names of settings is none of them
pub none_named : (name : Text) (sets : List Set) → AllByRecursion (λ other. text_cmp name other ≡ Less) (map set_name sets) → setting_named name (map set_shape sets) ≡ None
none_named name [] before = refl
none_named name (s ∷ sets) before = by_test (bytes_eq (set_name s) name) refl (none_named name sets before.1)
  where
    by_test : (b : Bool) → bytes_eq (set_name s) name ≡ b → setting_named name (map set_shape sets) ≡ None → cond b (Some (set_shape s).value) (setting_named name (map set_shape sets)) ≡ None
    by_test true is later = absurd (apart name (subst (λ other. text_cmp name other ≡ Less) ((bytes_eq-Decides (set_name s) name).0 is) before.0))
    by_test false is later = later

-- ---- of a module

module _ (w : World) (compilation : Compilation) (k : ℕ) (node : ModuleNode) (path : List Text) (m : IsSettledModule w compilation k node path) where
  abbrev own : Text
  own = node.source.now

  abbrev sets : List Set
  sets = sets_at compilation node.sets.items

  -- their names rise
  pub sets_sorted : IsStrictlySortedBy text_cmp (map set_name sets)
  sets_sorted = by_names (is_node w compilation m.numbered k node m.here).sets
    where
      by_names : HasList w (views w compilation) (nodes w compilation) (node_view node) a_setting node.sets.items → IsStrictlySortedBy text_cmp (map set_name sets)
      by_names l = subst (IsStrictlySortedBy text_cmp) (sym (names_are compilation l.0 node.sets.items l.1.many named)) l.1.sorted
        where
          named : AreNamed compilation l.0 node.sets.items
          named i place e =
              let r = kept_at w compilation node a_setting l.0 node.sets.items l.1 i place e in
              let s = r.3.thing.0 in
              let item : r.1 ≡ set_item s = r.3.thing.1 in
              let defined : defined_by w.os (item_shape (set_item s)) ≡ Some (a_setting, r.0) = subst (λ it. defined_by w.os (item_shape it) ≡ Some (a_setting, r.0)) item r.3.keeps.defines.is in
              let is : set_name s ≡ r.0 = shape_named w.os (shapes_in s.attributes) (set_shape s) r.0 defined in
              (s, ap settling.set_of (r.3.there ∙ ap (λ it. Some it) item), r.2 ∙ ap (λ text. Some text) (sym is))

  -- a shape of the module's settings is that of one
  pub of_set : (s : SetShape) → Contains (sets_of compilation node) s → (t : Set) × Contains sets t × (set_shape t ≡ s)
  of_set s c = contains_mapped set_shape sets s (subst (λ shapes. Contains shapes s) (same_sets compilation node) c)

  -- the settings by shapes are those of the world
  pub sets_of_world : (o : Overrides) (s : SetShape) → Contains (sets_of compilation node) s ↔ HasSetting w o path own s
  sets_of_world o s = (
    λ c.
        let t = of_set s c in
        subst (HasSetting w o path own) t.2 (setting_there w compilation k node path m o t.0 ((sets_are compilation node t.0).0 t.1)),
    λ has.
        let t = setting_kept w compilation k node path m o s has in
        let among = contains_map set_shape sets t.0 ((sets_are compilation node t.0).1 t.1) in
        subst (λ shapes. Contains shapes s) (sym (same_sets compilation node)) (subst (Contains (map set_shape sets)) t.2 among),
  )
