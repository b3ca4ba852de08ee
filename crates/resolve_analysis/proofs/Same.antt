-- What items and settings keep where variables get their numbers.
use Rattle.std.proofs.Common.{◌≡◌, ◌∙◌, ℕ, List, [], ◌∷◌, map, Option, Some, None, refl, sym, ap, subst}
use Rattle.std.specs.Prelude.{slice_get, OnOk, Result, Ok, Err}
use Rattle.std.specs.List.{All, AllZip, cons_option, filter_map}
use Rattle.std.specs.Option.{option_map, option_or}
use Rattle.std.proofs.lemmas.List.Elements.{All-weaker}
use Rattle.std.proofs.lemmas.Option.{get_or_from_slice_get, slice_get-map, slice_get_within}
use Rattle.tree_items.specs.declared.ast.Item.{Item}
use Rattle.tree_items.specs.declared.ast.Item.TheVariants.{Alias, Assignment, Comment, Function, Import, Module, Newline, Recipe, Set, Unexport}
use Rattle.tree_items.specs.Contexts.{last_named, number_in}
use Rattle.tree_items.specs.declared.variables.context.ExpressionContext.{ExpressionContext}
use Rattle.modules_compilation.specs.Places.{items_of, name_of}
use Rattle.modules_compilation.specs.declared.compilation.Compilation.{Compilation}
use Rattle.modules_compilation.specs.declared.module_node.File.{File}
use Rattle.modules_compilation.specs.declared.module_node.ModuleNode.{ModuleNode}
use Rattle.modules_compilation.specs.declared.place.Place.{Place}
use Rattle.resolve_references.specs.Numbered.{IsNumberedItem}
use Rattle.resolve_references.specs.Seen.{HaveNumbers}
use Rattle.resolve_references.proofs.Itself.{numbered_itself}
use Rattle.resolve_references.proofs.Seeing.{have_agree}
use Rattle.resolve_analysis.specs.Bound.{AreBound, AreNamesOf, binding_number, bindings_of, constant_number}
use Rattle.resolve_analysis.specs.Lists.{variable_at, variable_of}
use Rattle.resolve_analysis.proofs.Named.{at_place}
use Rattle.resolve_analysis.specs.Numbered.{AreSameFiles, AreSameItems, IsFileNumbered, IsNumbered, IsSameFile, IsSameItem, file_names, names_of}

-- what follows from what holds where there is a value holds there too
pub when_ok : {T E : Type 0} {P Q : Type 0} (r : Result T E) → (P → Q) → OnOk r P → OnOk r Q
when_ok (Ok x) f p = f p
when_ok (Err e) f p = tt

-- an item is the same as itself
pub same_item : (item : Item) → IsSameItem item item
same_item item = record { numbered = numbered_itself item; shape = refl; said = refl }

pub same_file : (file : File) → IsSameFile file file
same_file file = record { many = refl; each = λ place old new before after. subst (IsSameItem old) (cc (sym before ∙ after)) (same_item old) }

pub same_files : (files : List File) → AreSameFiles files files
same_files files place old new before after =
    let pair : Some old ≡ Some new = sym before ∙ after in
    let same : old ≡ new = cc pair in
    subst (IsSameFile old) same (same_file old)

-- ---- names and numbers of variables

-- the name and the number of an item that is a variable
abbrev number_of : Option Item → Option (List ℕ × ℕ)
number_of item = option_map binding_number (variable_of item)

number_kept : (before after : Item) → IsNumberedItem before after → number_of (Some after) ≡ number_of (Some before)
number_kept (Alias a) after is = ap (λ i. number_of (Some i)) is
number_kept (Assignment a) after is = ap (λ i. number_of (Some i)) is.1
number_kept (Comment c) after is = ap (λ i. number_of (Some i)) is
number_kept (Function f) after is = ap (λ i. number_of (Some i)) is.1
number_kept (Import i) after is = ap (λ i. number_of (Some i)) is
number_kept (Module m) after is = ap (λ i. number_of (Some i)) is
number_kept Newline after is = ap (λ i. number_of (Some i)) is
number_kept (Recipe r) after is = ap (λ i. number_of (Some i)) is.1
number_kept (Set s) after is = ap (λ i. number_of (Some i)) is.1
number_kept (Unexport u) after is = ap (λ i. number_of (Some i)) is

number_among : (old new : List Item) → names_of new ≡ names_of old → AreSameItems old new → (place : ℕ) → number_of (slice_get new place) ≡ number_of (slice_get old place)
number_among old new names are place = by_item (slice_get old place) refl (slice_get new place) refl
    (sym (slice_get-map name_of new place) ∙ ap (λ l. slice_get l place) names ∙ slice_get-map name_of old place)
  where
    by_item : (o : Option Item) → slice_get old place ≡ o → (p : Option Item) → slice_get new place ≡ p → option_map name_of (slice_get new place) ≡ option_map name_of (slice_get old place) → number_of (slice_get new place) ≡ number_of (slice_get old place)
    by_item None e None f same = ap number_of (f ∙ sym e)
    by_item None e (Some y) f same = absurd (cc (sym (ap (option_map name_of) f) ∙ same ∙ ap (option_map name_of) e))
    by_item (Some x) e None f same = absurd (cc (sym (ap (option_map name_of) f) ∙ same ∙ ap (option_map name_of) e))
    by_item (Some x) e (Some y) f same = ap number_of f ∙ number_kept x y (are.each place x y e f).numbered ∙ sym (ap number_of e)

filter_map_agrees : {X Y Z : Type 0} (f g : X → Option Y) (h : Y → Z) → ((x : X) → option_map h (f x) ≡ option_map h (g x)) → (xs : List X) → map h (filter_map f xs) ≡ map h (filter_map g xs)
filter_map_agrees f g h agree [] = refl
filter_map_agrees {X} {Y} {Z} f g h agree (x ∷ xs) = by_first (f x) (g x) (agree x) (filter_map f xs) (filter_map g xs) (filter_map_agrees f g h agree xs)
  where
    by_first : (o p : Option Y) → option_map h o ≡ option_map h p → (ys zs : List Y) → map h ys ≡ map h zs → map h (cons_option o ys) ≡ map h (cons_option p zs)
    by_first None None e ys zs same = same
    by_first None (Some z) e ys zs same = absurd (cc e)
    by_first (Some y) None e ys zs same = absurd (cc e)
    by_first (Some y) (Some z) e ys zs same = let first : h y ≡ h z = cc e in cc

module _ (before after : Compilation) (is : IsNumbered before after) where
  number_at : (place : Place) → option_map binding_number (variable_at after place) ≡ option_map binding_number (variable_at before place)
  number_at place = by_file (slice_get before.files.items place.file) refl (slice_get after.files.items place.file) refl
      (sym (slice_get-map file_names after.files.items place.file) ∙ ap (λ l. slice_get l place.file) is.files ∙ slice_get-map file_names before.files.items place.file)
    where
      by_file : (o : Option File) → slice_get before.files.items place.file ≡ o → (p : Option File) → slice_get after.files.items place.file ≡ p
          → option_map file_names (slice_get after.files.items place.file) ≡ option_map file_names (slice_get before.files.items place.file)
          → number_of (slice_get (items_of (slice_get after.files.items place.file)) place.item) ≡ number_of (slice_get (items_of (slice_get before.files.items place.file)) place.item)
      by_file None e None f same = ap (λ o. number_of (slice_get (items_of o) place.item)) (f ∙ sym e)
      by_file None e (Some y) f same = absurd (cc (sym (ap (option_map file_names) f) ∙ same ∙ ap (option_map file_names) e))
      by_file (Some x) e None f same = absurd (cc (sym (ap (option_map file_names) f) ∙ same ∙ ap (option_map file_names) e))
      by_file (Some x) e (Some y) f same =
          let named : Some (file_names y) ≡ Some (file_names x) = sym (ap (option_map file_names) f) ∙ same ∙ ap (option_map file_names) e in
          let same_names : file_names y ≡ file_names x = cc named in
          ap (λ o. number_of (slice_get (items_of o) place.item)) f
          ∙ number_among x.ast.items.items y.ast.items.items (ap (λ n. n.names) same_names) (is.items place.file x y e f) place.item
          ∙ sym (ap (λ o. number_of (slice_get (items_of o) place.item)) e)

  -- a module's names stand for the same numbers as before
  pub same_bindings : (node : ModuleNode) (name : List ℕ) → bindings_of after node name ≡ bindings_of before node name
  same_bindings node name = ap (λ l. option_or (last_named name l) (constant_number name)) (filter_map_agrees (variable_at after) (variable_at before) binding_number number_at node.assignments.items)

  -- where the files have the numbers of what the modules' contexts stand for, all variables are bound
  pub all_bound : (all : List ExpressionContext) → AllZip (AreNamesOf before) before.modules.items all → All (IsFileNumbered all) after.files.items → AreBound after
  all_bound all contexts numbers k file node here there =
      let same : slice_get before.modules.items file.module ≡ Some node = ap (λ ms. slice_get ms.items file.module) (sym is.modules) ∙ there in
      let names = at_place (AreNamesOf before) before.modules.items all contexts file.module node same in
      let numbered : IsFileNumbered all file = subst (IsFileNumbered all) (get_or_from_slice_get after.files.items k file file here) (numbers k file (slice_get_within after.files.items k file here)) in
      All-weaker (HaveNumbers (number_in names.0)) (HaveNumbers (bindings_of after node))
      (λ item. have_agree (number_in names.0) (bindings_of after node) (λ name. names.2 name ∙ sym (same_bindings node name)) item)
      file.ast.items.items (numbered names.0 names.1)
