-- Names stay where variables get their numbers.
use Rattle.std.proofs.Common.{◌≡◌, ◌∙◌, ℕ, List, Option, Some, None, map, get_or, sym, ap, ap₂, refl, ◌+◌}
use Rattle.std.specs.Prelude.{IsSortedByKey, slice_get}
use Rattle.std.specs.Option.{option_and_then, option_map}
use Rattle.std.specs.Ordering.{is_lt}
use Rattle.std.proofs.lemmas.Option.{slice_get-map}
use Rattle.just_text.specs.declared.name.Name.{Name}
use Rattle.tree_items.specs.declared.ast.Item.{Item}
use Rattle.tree_items.specs.declared.ast.Item.TheVariants.{Alias, Assignment, Comment, Function, Import, Module, Newline, Recipe, Set, Unexport}
use Rattle.modules_compilation.specs.Fronts.{front_of}
use Rattle.modules_compilation.specs.Places.{items_in, items_of, name_at, name_of, text_of}
use Rattle.modules_compilation.specs.Tables.{text_cmp}
use Rattle.modules_compilation.specs.declared.compilation.Compilation.{Compilation}
use Rattle.modules_compilation.specs.declared.module_node.File.{File}
use Rattle.modules_compilation.specs.declared.module_node.ModuleNode.{ModuleNode}
use Rattle.modules_compilation.specs.declared.place.Place.{Place}
use Rattle.modules_compilation.specs.declared.recipe_name.RecipeName.{RecipeName}
use Rattle.resolve_recipes.specs.Named.{AllByName, AreByFront, IsByName, key_cmp, module_text, text_at}
use Rattle.resolve_references.specs.Numbered.{IsNumberedItem}
use Rattle.resolve_analysis.specs.Numbered.{FileNames, IsNumbered, file_names, names_of}

-- an item keeps its name
pub name_kept : (before after : Item) → IsNumberedItem before after → name_of after ≡ name_of before
name_kept (Alias a) after is = ap name_of is
name_kept (Assignment a) after is = ap name_of is.1
name_kept (Comment c) after is = ap name_of is
name_kept (Function f) after is = ap name_of is.1
name_kept (Import i) after is = ap name_of is
name_kept (Module m) after is = ap name_of is
name_kept Newline after is = ap name_of is
name_kept (Recipe r) after is = ap name_of is.1 ∙ ap Some is.2.name
name_kept (Set s) after is = ap name_of is.1 ∙ ap Some is.2
name_kept (Unexport u) after is = ap name_of is

-- ---- the name at a place

-- the name at a place among those of a file that may be there
abbrev name_in : Option FileNames → ℕ → Option Name
name_in file item = option_and_then (λ (f : FileNames). option_and_then (λ (n : Option Name). n) (slice_get f.names item)) file

flat : (items : List Item) (item : ℕ) → option_and_then name_of (slice_get items item) ≡ option_and_then (λ (n : Option Name). n) (slice_get (names_of items) item)
flat items item = by_item (slice_get items item) ∙ ap (option_and_then (λ (n : Option Name). n)) (sym (slice_get-map name_of items item))
  where
    by_item : (o : Option Item) → option_and_then name_of o ≡ option_and_then (λ (n : Option Name). n) (option_map name_of o)
    by_item None = refl
    by_item (Some i) = refl

named_there : (files : List File) (place : Place) → option_and_then name_of (slice_get (items_in files place.file) place.item) ≡ name_in (slice_get (map file_names files) place.file) place.item
named_there files place = by_file (slice_get files place.file) ∙ ap (λ o. name_in o place.item) (sym (slice_get-map file_names files place.file))
  where
    by_file : (o : Option File) → option_and_then name_of (slice_get (items_of o) place.item) ≡ name_in (option_map file_names o) place.item
    by_file None = refl
    by_file (Some file) = flat file.ast.items.items place.item

module _ (before after : Compilation) (is : IsNumbered before after) where
  pub same_name : (place : Place) → name_at after place ≡ name_at before place
  same_name place = named_there after.files.items place ∙ ap (λ fs. name_in (slice_get fs place.file) place.item) is.files ∙ sym (named_there before.files.items place)

  same_text : (place : Place) → text_at after place ≡ text_at before place
  same_text place = ap text_of (same_name place)

  -- ---- orders of names

  texts_sorted : {X : Type 0} (f g : X → List ℕ) → ((x : X) → g x ≡ f x) → (xs : List X) → IsSortedByKey f text_cmp xs → IsSortedByKey g text_cmp xs
  texts_sorted f g e xs h k d from lt = ap₂ (λ s t. is_lt (text_cmp s t)) (e (get_or xs (k + 1) d)) (e (get_or xs k d)) ∙ h k d from lt

  fronts_sorted : (rows : List RecipeName) → AreByFront before rows → AreByFront after rows
  fronts_sorted rows h = (
    λ k d lt. h.0 k d lt ∙ ap front_of (sym (same_text (get_or rows k d).place)),
    λ k d from lt. ap₂ (λ s t. is_lt (key_cmp ((get_or rows (k + 1) d).front, s) ((get_or rows k d).front, t))) (same_text (get_or rows (k + 1) d).place) (same_text (get_or rows k d).place) ∙ h.1 k d from lt,
  )

  by_name : (node : ModuleNode) → IsByName before node → IsByName after node
  by_name node h = record {
    recipes = fronts_sorted node.recipe_names.items h.recipes;
    places = h.places;
    variables = texts_sorted (text_at before) (text_at after) same_text node.assignments.items h.variables;
    disabled = texts_sorted (text_at before) (text_at after) same_text node.disabled.items h.disabled;
    submodules = texts_sorted (module_text before.modules.items) (module_text after.modules.items) (λ inner. ap (λ ms. module_text ms.items inner) is.modules) node.submodules.items h.submodules;
  }

  pub all_by_name : AllByName before → AllByName after
  all_by_name h place node e = by_name node (h place node (ap (λ ms. slice_get ms.items place) (sym is.modules) ∙ e))
