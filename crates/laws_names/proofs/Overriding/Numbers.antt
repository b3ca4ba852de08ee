-- The numbers of bindings: each stands at one place of a compilation.
use Rattle.std.proofs.Common.{◌≡◌, sym, ◌∙◌, ap, subst, ◌∷◌, [], ℕ, Option, Some, None, refl, map}
use Rattle.std.specs.Prelude.{slice_get, Contains}
use Rattle.std.specs.List.{flat_map}
use Rattle.std.specs.List.Sorted.{IsStrictlySortedBy}
use Rattle.std.specs.Ordering.{nat_cmp}
use Rattle.std.proofs.lemmas.Cmp.{nat_cmp_total}
use Rattle.std.proofs.lemmas.Option.{none-some, same_Some}
use Rattle.tree_expressions.specs.declared.expression.Expression.{Expression}
use Rattle.tree_items.specs.declared.ast.Item.{Item}
use Rattle.tree_items.specs.declared.ast.Item.TheVariants.{Alias, Assignment, Comment, Function, Import, Module, Newline, Recipe, Set, Unexport}
use Rattle.tree_items.specs.declared.item.Binding.{Binding}
use Rattle.parse_items.specs.Numbered.{binding_numbers}
use Rattle.modules_compilation.specs.Places.{item_at, items_of}
use Rattle.modules_compilation.specs.declared.compilation.Compilation.{Compilation}
use Rattle.modules_compilation.specs.declared.module_node.File.{File}
use Rattle.modules_compilation.specs.declared.place.Place.{Place}
use Rattle.resolve_analysis.specs.Lists.{variable_at, variable_of}
use Rattle.meaning_rules.specs.Worlds.Compiled.{FileView}
use Rattle.meaning_rules.proofs.Worlds.Places.{contains_first}
use Rattle.meaning_rules.specs.Worlds.Views.{file_view}
use Rattle.laws_modules.proofs.Names.Found.{mapped}
use Rattle.laws_names.proofs.Overriding.Places.{contains_flat, list_sorted, one_list}

-- the file of an item at a place
record IsIn (compilation : Compilation) (place : Place) (item : Item) : Type 0 where
  file : File
  found : slice_get compilation.files.items place.file ≡ Some file
  there : slice_get file.ast.items.items place.item ≡ Some item

is_in : (compilation : Compilation) (place : Place) (item : Item) → item_at compilation place ≡ Some item → IsIn compilation place item
is_in compilation place item e = by_file (slice_get compilation.files.items place.file) refl e
  where
    by_file : (o : Option File) → slice_get compilation.files.items place.file ≡ o → slice_get (items_of o) place.item ≡ Some item → IsIn compilation place item
    by_file None is e = absurd (none-some item e)
    by_file (Some file) is e = record { file = file; found = is; there = e }

-- the item that a variable is
pub assignment_of : (o : Option Item) (variable : Binding Expression) → variable_of o ≡ Some variable → o ≡ Some (Assignment variable)
assignment_of None variable e = absurd (none-some variable e)
assignment_of (Some (Alias a)) variable e = absurd (none-some variable e)
assignment_of (Some (Assignment a)) variable e = ap (λ v. Some (Assignment v)) (same_Some a variable e)
assignment_of (Some (Comment text)) variable e = absurd (none-some variable e)
assignment_of (Some (Function f)) variable e = absurd (none-some variable e)
assignment_of (Some (Import i)) variable e = absurd (none-some variable e)
assignment_of (Some (Module m)) variable e = absurd (none-some variable e)
assignment_of (Some Newline) variable e = absurd (none-some variable e)
assignment_of (Some (Recipe r)) variable e = absurd (none-some variable e)
assignment_of (Some (Set s)) variable e = absurd (none-some variable e)
assignment_of (Some (Unexport u)) variable e = absurd (none-some variable e)

pub same_place : (p q : Place) → p.file ≡ q.file → p.item ≡ q.item → p ≡ q
same_place p q files items = ap (λ n. record { file = n; item = p.item }) files ∙ ap (λ n. record { file = q.file; item = n }) items

module _ (compilation : Compilation) (rise : IsStrictlySortedBy nat_cmp (flat_map (λ (f : FileView). f.bindings) (map file_view compilation.files.items))) where
  -- items that have a binding of one number stand at one place
  pub one_binding : (p q : Place) (a b : Item) (number : ℕ) → item_at compilation p ≡ Some a → item_at compilation q ≡ Some b → Contains (binding_numbers a) number → Contains (binding_numbers b) number → p ≡ q
  one_binding p q a b number e f h g =
      let i = is_in compilation p a e in
      let j = is_in compilation q b f in
      let seen = mapped file_view compilation.files.items p.file i.file i.found in
      let seen' = mapped file_view compilation.files.items q.file j.file j.found in
      let here = contains_flat binding_numbers i.file.ast.items.items p.item a number i.there h in
      let here' = contains_flat binding_numbers j.file.ast.items.items q.item b number j.there g in
      let files : p.file ≡ q.file = one_list (λ (v : FileView). v.bindings) nat_cmp_total (map file_view compilation.files.items) p.file q.file (file_view i.file) (file_view j.file) number rise seen seen' here here' in
      let one : i.file ≡ j.file = same_Some i.file j.file (sym i.found ∙ ap (slice_get compilation.files.items) files ∙ j.found) in
      let sorted = list_sorted (λ (v : FileView). v.bindings) nat_cmp_total (map file_view compilation.files.items) p.file (file_view i.file) rise seen in
      let there' = ap (λ (x : File). slice_get x.ast.items.items q.item) one ∙ j.there in
      same_place p q files (one_list binding_numbers nat_cmp_total i.file.ast.items.items p.item q.item a b number sorted i.there there' h g)

  -- variables of one number stand at one place
  pub one_variable : (p q : Place) (a b : Binding Expression) → variable_at compilation p ≡ Some a → variable_at compilation q ≡ Some b → a.number ≡ b.number → p ≡ q
  one_variable p q a b e f same =
      one_binding p q (Assignment a) (Assignment b) a.number (assignment_of (item_at compilation p) a e) (assignment_of (item_at compilation q) b f)
      (contains_first a.number []) (subst (λ n. Contains (n ∷ []) a.number) same (contains_first a.number []))
