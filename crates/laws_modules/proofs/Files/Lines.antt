-- Imports that name no file, as the world has them.
use Rattle.std.proofs.Common.{◌≡◌, ◌⊎◌, inl, inr, sym, ◌∙◌, ap, subst, Bool, true, false, cond, not, ◌∷◌, [], ℕ, zero, suc, List, Option, Some, None, Result, Ok, Err, refl}
use Rattle.std.specs.Prelude.{is_some, option_map, slice_get}
use Rattle.std.specs.BTreeMap.{BTreeMap}
use Rattle.std.specs.List.{All}
use Rattle.std.specs.declared.string.String.{String}
use Rattle.std.proofs.lemmas.Option.{none-some, same_Some, slice_get_within, get_or_from_slice_get}
use Rattle.just_text.specs.declared.compile_error.CompileErrorKind.{CompileErrorKind}
use Rattle.tree_expressions.specs.Cooking.{cooked}
use Rattle.tree_items.specs.Files.{ItemShape, import_item, is_blank, item_shape, item_shapes}
use Rattle.tree_items.specs.Items.{ImportShape, import_shape}
use Rattle.tree_items.specs.declared.ast.Item.{Item}
use Rattle.tree_items.specs.declared.ast.Item.TheVariants.{Alias, Assignment, Comment, Function, Import, Module, Newline, Recipe, Set, Unexport}
use Rattle.tree_items.specs.declared.item.Import.{Import as ImportLine}
use Rattle.parse_attributed_items.specs.Held.{IsItemCooked}
use Rattle.parse_expressions.specs.Literals.{Expansion, from_file}
use Rattle.modules_compilation.specs.Paths.{key_from}
use Rattle.modules_compilation.specs.declared.error.Error.{Error}
use Rattle.modules_compilation.specs.declared.error.Error.TheVariants.{MissingImport}
use Rattle.modules_files.specs.Chosen.{File, import_answer as answer_for, imported, named_by}
use Rattle.modules_files.specs.Found.{file_at, source_of}
use Rattle.modules_sources.specs.Imports.{import_answer, imports_among, then_others}
use Rattle.modules_sources.specs.Items.{import_of as parts_of}
use Rattle.meaning_rules.specs.Worlds.Given.{Text, World, filled}
use Rattle.meaning_rules.specs.Worlds.Sources.{ImportsAt, IsMissing}
use Rattle.meaning_rules.specs.Rules.{LeadsNowhere}
use Rattle.meaning_rules.specs.Worlds.Views.{HasSources}
use Rattle.laws_modules.proofs.Files.Imports.{written_path}
use Rattle.laws_modules.proofs.Files.Lists.{map_at, mapped_at}

-- ---- items without blank lines, by their places

-- an item that is no blank line has a place among those
pub filled_place : (items : List ItemShape) (i : ℕ) (item : ItemShape) → slice_get items i ≡ Some item → is_blank item ≡ false → (place : ℕ) × (slice_get (filled items) place ≡ Some item)
unfolding filled
filled_place [] i item e none = absurd (none-some item e)
filled_place (x ∷ items) zero item e none = let same : item ≡ x = sym (same_Some x item e) in (0, ap (λ b. slice_get (cond (not b) (x ∷ filled items) (filled items)) 0) (sym (ap is_blank same) ∙ none) ∙ e)
filled_place (x ∷ items) (suc i) item e none = by_test (is_blank x) (filled_place items i item e none)
  where
    by_test : (b : Bool) → (place : ℕ) × (slice_get (filled items) place ≡ Some item) → (place : ℕ) × (slice_get (cond (not b) (x ∷ filled items) (filled items)) place ≡ Some item)
    by_test true r = r
    by_test false r = (suc r.0, r.1)

-- and each of those has one in the file
pub filled_from : (items : List ItemShape) (place : ℕ) (item : ItemShape) → slice_get (filled items) place ≡ Some item → (i : ℕ) × (slice_get items i ≡ Some item)
unfolding filled
filled_from [] place item e = absurd (none-some item e)
filled_from (x ∷ items) place item e = by_test (is_blank x) place (λ k f. filled_from items k item f) e
  where
    by_test : (b : Bool) (place : ℕ) → ((k : ℕ) → slice_get (filled items) k ≡ Some item → (i : ℕ) × (slice_get items i ≡ Some item)) → slice_get (cond (not b) (x ∷ filled items) (filled items)) place ≡ Some item
        → (i : ℕ) × (slice_get (x ∷ items) i ≡ Some item)
    by_test true place rest e = let r = rest place e in (suc r.0, r.1)
    by_test false zero rest e = (0, e)
    by_test false (suc place) rest e = let r = rest place e in (suc r.0, r.1)

-- an import comes of an import
pub shape_line : (item : Item) (line : ImportShape) → item_shape item ≡ import_item line → (i : ImportLine) × (item ≡ Import i) × (import_shape i ≡ line)
shape_line (Import i) line e = (i, refl, cc e)
shape_line (Alias a) line e = absurd (cc e)
shape_line (Assignment a) line e = absurd (cc e)
shape_line (Comment text) line e = absurd (cc e)
shape_line (Function f) line e = absurd (cc e)
shape_line (Module m) line e = absurd (cc e)
shape_line Newline line e = absurd (cc e)
shape_line (Recipe r) line e = absurd (cc e)
shape_line (Set s) line e = absurd (cc e)
shape_line (Unexport u) line e = absurd (cc e)

module _ {Y Z : Type 0} (sources : BTreeMap (String Y) (String Z)) (key : Text) where
  -- none of the imports is refused
  pub none_refused : (items : List Item) (row : List File) → imports_among sources key items ≡ Ok row → (i : ℕ) (item : Item) → slice_get items i ≡ Some item → (refusal : Error) → import_answer sources key (parts_of item) ≡ Err refusal → ⊥
  none_refused [] row e i item at refusal is = none-some item at
  none_refused (x ∷ items) row e i item at refusal is =
      by_parts (import_answer sources key (parts_of x)) refl (imports_among sources key items) refl i (λ others are k f. none_refused items others are k item f refusal is) at e
    where
      by_parts : (answer : Result (Option File) Error) → import_answer sources key (parts_of x) ≡ answer → (rest : Result (List File) Error) → imports_among sources key items ≡ rest → (i : ℕ)
          → ((others : List File) → imports_among sources key items ≡ Ok others → (k : ℕ) → slice_get items k ≡ Some item → ⊥) → slice_get (x ∷ items) i ≡ Some item → then_others answer rest ≡ Ok row → ⊥
      by_parts (Ok found) here (Ok others) are zero none at e =
          let f : import_answer sources key (parts_of x) ≡ Err refusal = ap (λ z. import_answer sources key (parts_of z)) (same_Some x item at) ∙ is in
          let g : ◌≡◌ {A = Result (Option File) Error} (Ok found) (Err refusal) = sym here ∙ f in
          absurd (cc g)
      by_parts (Ok found) here (Ok others) are (suc i) none at e = none others are i at
      by_parts (Ok found) here (Err r) are i none at e = absurd (cc e)
      by_parts (Err r) here rest are i none at e = absurd (cc e)

  -- an import that is refused
  pub refused_item : (items : List Item) (refusal : Error) → imports_among sources key items ≡ Err refusal → (i : ℕ) × (item : Item) × (slice_get items i ≡ Some item) × (import_answer sources key (parts_of item) ≡ Err refusal)
  refused_item [] refusal e = absurd (cc e)
  refused_item (x ∷ items) refusal e = by_parts (import_answer sources key (parts_of x)) refl (imports_among sources key items) refl (refused_item items refusal) e
    where
      by_parts : (answer : Result (Option File) Error) → import_answer sources key (parts_of x) ≡ answer → (rest : Result (List File) Error) → imports_among sources key items ≡ rest
          → (imports_among sources key items ≡ Err refusal → (i : ℕ) × (item : Item) × (slice_get items i ≡ Some item) × (import_answer sources key (parts_of item) ≡ Err refusal)) → then_others answer rest ≡ Err refusal
          → (i : ℕ) × (item : Item) × (slice_get (x ∷ items) i ≡ Some item) × (import_answer sources key (parts_of item) ≡ Err refusal)
      by_parts (Ok found) here (Ok others) are later e = absurd (cc e)
      by_parts (Ok found) here (Err r) are later e =
          let same : r ≡ refusal = cc e in
          let l = later (are ∙ ap Err same) in
          (suc l.0, l.1, l.2, l.3)
      by_parts (Err r) here rest are later e =
          let same : r ≡ refusal = cc e in
          (0, x, refl, here ∙ ap Err same)

  module _ (expansion : Expansion) (w : World) (has : HasSources sources expansion w) where
    -- what a key or a path that names no file is told as
    abbrev IsNowhere : Option Text → Text → Text → Type 0
    IsNowhere named path told = ((named ≡ Some told) × IsMissing w told) ⊎ ((named ≡ None) × (told ≡ path))

    -- an import that is refused leads nowhere
    named_nowhere : (named : Option Text) (optional : Bool) (path : Text) (refusal : Error) → answer_for (file_at sources named) optional (named_by named path) ≡ Err refusal
        → (optional ≡ false) × ((told : Text) × (refusal ≡ MissingImport told) × IsNowhere named path told)
    named_nowhere None true path refusal e = absurd (cc e)
    named_nowhere None false path refusal e = (refl, (path, (let f : refusal ≡ MissingImport path = cc e in f), inr (refl, refl)))
    named_nowhere (Some other) optional path refusal e = by_text (source_of sources other) (has.there other) optional e
      where
        by_text : (text : Option Text) → w.there other ≡ is_some text → (optional : Bool) → answer_for (option_map (λ t. (other, t)) text) optional other ≡ Err refusal
            → (optional ≡ false) × ((told : Text) × (refusal ≡ MissingImport told) × IsNowhere (Some other) path told)
        by_text None is true e = absurd (cc e)
        by_text None is false e = (refl, (other, (let f : refusal ≡ MissingImport other = cc e in f), inl (refl, is)))
        by_text (Some text) is optional e = absurd (cc e)

    -- and where an import leads nowhere, it is refused
    nowhere_refused : (named : Option Text) (path told : Text) → IsNowhere named path told → answer_for (file_at sources named) false (named_by named path) ≡ Err (MissingImport told)
    nowhere_refused None path told h = elim h [
      | inl p ↦ absurd (none-some told p.0)
      | inr p ↦ ap (λ t. Err (MissingImport t)) (sym p.1)
    ]
    nowhere_refused (Some other) path told h = elim h [
      | inl p ↦
          let is : other ≡ told = same_Some other told p.0 in
          by_text (source_of sources other) (has.there other) is (ap w.there is ∙ p.1)
      | inr p ↦ absurd (none-some other (sym p.0))
    ]
      where
        by_text : (text : Option Text) → w.there other ≡ is_some text → other ≡ told → w.there other ≡ false → answer_for (option_map (λ t. (other, t)) text) false other ≡ Err (MissingImport told)
        by_text None is e missing = ap (λ t. Err (MissingImport t)) e
        by_text (Some text) is e missing = absurd (let f : true ≡ false = sym is ∙ missing in cc f)

    -- an import that is refused, as the world has it
    pub record IsRefusedImport (refusal : Error) : Type 0 where
      pub told : Text
      pub is : refusal ≡ MissingImport told
      pub place : ℕ
      pub path : Text
      pub line : ImportsAt w key place false path
      pub nowhere : LeadsNowhere w key path told

    -- by an item
    refused_line : (items : List Item) → w.said key ≡ Some (filled (item_shapes items)) → (i : ℕ) (item : Item) → slice_get (item_shapes items) i ≡ Some (item_shape item) → IsItemCooked (from_file key expansion) item
        → (refusal : Error) → import_answer sources key (parts_of item) ≡ Err refusal → IsRefusedImport refusal
    refused_line items says i (Import line) at h refusal e =
        let n = named_nowhere (key_from key line.path.cooked) line.optional line.path.cooked refusal e in
        let p = filled_place (item_shapes items) i (import_item (import_shape line)) at refl in
        record {
          told = n.1.0;
          is = n.1.1;
          place = p.0;
          path = line.path.cooked;
          line = record {
            line = import_shape line;
            has = record { items = filled (item_shapes items); says = says; at = p.1 };
            is_optional = n.0;
            written = written_path sources expansion w has key line h;
          };
          nowhere = n.1.2;
        }
    refused_line items says i (Alias a) at h refusal e = absurd (cc e)
    refused_line items says i (Assignment a) at h refusal e = absurd (cc e)
    refused_line items says i (Comment text) at h refusal e = absurd (cc e)
    refused_line items says i (Function f) at h refusal e = absurd (cc e)
    refused_line items says i (Module m) at h refusal e = absurd (cc e)
    refused_line items says i Newline at h refusal e = absurd (cc e)
    refused_line items says i (Recipe r) at h refusal e = absurd (cc e)
    refused_line items says i (Set s) at h refusal e = absurd (cc e)
    refused_line items says i (Unexport u) at h refusal e = absurd (cc e)

    -- what holds of all holds of one
    all_at : {X : Type 0} (P : X → Type 0) (xs : List X) (i : ℕ) (x : X) → All P xs → slice_get xs i ≡ Some x → P x
    all_at P xs i x h e = subst P (get_or_from_slice_get xs i x x e) (h i x (slice_get_within xs i x e))

    -- imports that are refused: one names a file that must be there, and is not
    pub refused_import_of : (items : List Item) → All (IsItemCooked (from_file key expansion)) items → w.said key ≡ Some (filled (item_shapes items)) → (refusal : Error) → imports_among sources key items ≡ Err refusal → IsRefusedImport refusal
    refused_import_of items h says refusal e =
        let r = refused_item items refusal e in
        refused_line items says r.0 r.1 (map_at item_shape items r.0 r.1 r.2) (all_at (IsItemCooked (from_file key expansion)) items r.0 r.1 h r.2) refusal r.3

    -- where none is refused, each that must be there names a file
    pub none_nowhere : (items : List Item) → All (IsItemCooked (from_file key expansion)) items → w.said key ≡ Some (filled (item_shapes items)) → (row : List File) → imports_among sources key items ≡ Ok row
        → (place : ℕ) (path told : Text) → ImportsAt w key place false path → LeadsNowhere w key path told → ⊥
    none_nowhere items h says row e place path told line nowhere =
        let said : filled (item_shapes items) ≡ line.has.items = same_Some (filled (item_shapes items)) line.has.items (sym says ∙ line.has.says) in
        let f = filled_from (item_shapes items) place (import_item line.line) (ap (λ xs. slice_get xs place) said ∙ line.has.at) in
        let m = mapped_at item_shape items f.0 (import_item line.line) f.1 in
        let l = shape_line m.0 line.line m.2 in
        let held : IsItemCooked (from_file key expansion) (Import l.0) = subst (IsItemCooked (from_file key expansion)) l.1 (all_at (IsItemCooked (from_file key expansion)) items f.0 m.0 h m.1) in
        let paths : ◌≡◌ {A = Result Text CompileErrorKind} (Ok l.0.path.cooked) (Ok path) = sym (written_path sources expansion w has key l.0 held) ∙ ap (λ z. cooked w.expansion z.path) l.2 ∙ line.written in
        let path_is : path ≡ l.0.path.cooked = cc paths in
        let optional_is : false ≡ l.0.optional = sym line.is_optional ∙ ap (λ z. z.optional) (sym l.2) in
        let refused : imported sources key l.0.path.cooked l.0.optional ≡ Err (MissingImport told) =
        subst (λ o. imported sources key l.0.path.cooked o ≡ Err (MissingImport told)) optional_is
        (subst (λ p. imported sources key p false ≡ Err (MissingImport told)) path_is (nowhere_refused (key_from key path) path told nowhere)) in
        none_refused items row e f.0 m.0 m.1 (MissingImport told) (ap (λ z. import_answer sources key (parts_of z)) l.1 ∙ refused)
