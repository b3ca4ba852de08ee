-- What the imports of a file name, in a world that has files where the sources have texts.
use Rattle.std.proofs.Common.{◌≡◌, sym, ◌∙◌, ap, subst, Bool, true, false, cond, not, ◌∷◌, ◌++◌, [], ℕ, zero, suc, List, Option, Some, None, Result, Ok, Err, refl, arith, map}
use Rattle.std.specs.Prelude.{is_some, option_map, option_to_list, slice_get}
use Rattle.std.specs.BTreeMap.{BTreeMap}
use Rattle.std.specs.List.{All, cons_option, filter_map}
use Rattle.std.specs.declared.string.String.{String}
use Rattle.std.proofs.lemmas.Option.{none-some, same_Some}
use Rattle.tree_expressions.specs.Cooking.{cooked}
use Rattle.tree_expressions.specs.Shape.{written}
use Rattle.tree_items.specs.Files.{ItemShape, import_item, newline_item, is_blank, item_shape, item_shapes}
use Rattle.tree_items.specs.declared.ast.Item.{Item}
use Rattle.tree_items.specs.declared.ast.Item.TheVariants.{Alias, Assignment, Comment, Function, Import, Module, Newline, Recipe, Set, Unexport}
use Rattle.tree_items.specs.declared.item.Import.{Import as ImportLine}
use Rattle.parse_attributed_items.specs.Held.{IsItemCooked}
use Rattle.parse_expressions.specs.Literals.{Expansion, from_file}
use Rattle.modules_compilation.specs.Paths.{key_from}
use Rattle.modules_compilation.specs.declared.error.Error.{Error}
use Rattle.modules_files.specs.Chosen.{File, import_answer as answer_for, named_by}
use Rattle.modules_files.specs.Found.{file_at, source_of}
use Rattle.modules_sources.specs.Imports.{import_answer, imports_among, then_others}
use Rattle.modules_sources.specs.Items.{ImportParts, import_of as parts_of}
use Rattle.meaning_rules.specs.Worlds.Given.{Text, World, filled}
use Rattle.meaning_rules.specs.Worlds.Modules.{if_there, import_of, imports_in, imports_of, key_written}
use Rattle.meaning_rules.specs.Worlds.Views.{HasSources}

-- what holds of all holds of the first
all_first : {X : Type 0} (P : X → Type 0) (x : X) (xs : List X) → All P (x ∷ xs) → P x
all_first P x xs h = h 0 x (omega arith)

-- and of the others
all_others : {X : Type 0} (P : X → Type 0) (x : X) (xs : List X) → All P (x ∷ xs) → All P xs
all_others P x xs h k d lt = h (suc k) d (omega (arith, lt))

-- each file that imports name is the one at its key
module _ {Y Z : Type 0} (sources : BTreeMap (String Y) (String Z)) (key : Text) where
  -- the file is the one at its key
  abbrev IsKnown : File → Type 0
  IsKnown file = file_at sources (Some file.0) ≡ Some file

  at_key : (other : Text) (text : Option Text) → source_of sources other ≡ text → (file : File) → option_map (λ t. (other, t)) text ≡ Some file → IsKnown file
  at_key other None is file e = absurd (none-some file e)
  at_key other (Some text) is file e = subst IsKnown (same_Some (other, text) file e) (ap (option_map (λ t. (other, t))) is)

  named_known : (named : Option Text) (optional : Bool) (path : Text) (file : File) → answer_for (file_at sources named) optional path ≡ Ok (Some file) → IsKnown file
  named_known None true path file e = absurd (cc e)
  named_known None false path file e = absurd (cc e)
  named_known (Some other) optional path file e = by_text (source_of sources other) refl optional e
    where
      by_text : (text : Option Text) → source_of sources other ≡ text → (optional : Bool) → answer_for (option_map (λ t. (other, t)) text) optional path ≡ Ok (Some file) → IsKnown file
      by_text None is true e = absurd (cc e)
      by_text None is false e = absurd (cc e)
      by_text (Some text) is optional e = at_key other (Some text) is file (let f : ◌≡◌ {A = Option File} (Some (other, text)) (Some file) = cc e in f)

  answer_known : (line : Option ImportParts) (file : File) → import_answer sources key line ≡ Ok (Some file) → IsKnown file
  answer_known None file e = absurd (cc e)
  answer_known (Some line) file e = named_known (key_from key line.0) line.1 (named_by (key_from key line.0) line.0) file e

  -- each file of a row is the one at its key
  pub all_known : (items : List Item) (row : List File) → imports_among sources key items ≡ Ok row → (k : ℕ) (file : File) → slice_get row k ≡ Some file → IsKnown file
  all_known [] row e k file at =
      let none : [] ≡ row = cc e in
      absurd (none-some file (ap (λ fs. slice_get fs k) none ∙ at))
  all_known (item ∷ items) row e k file at = by_parts (import_answer sources key (parts_of item)) refl (imports_among sources key items) refl (λ others are j. all_known items others are j file) e
    where
      Others : Type 0
      Others = (others : List File) → imports_among sources key items ≡ Ok others → (j : ℕ) → slice_get others j ≡ Some file → IsKnown file

      one : (found : Option File) → import_answer sources key (parts_of item) ≡ Ok found → (others : List File) → imports_among sources key items ≡ Ok others → Others → (k : ℕ) → slice_get (option_to_list found ++ others) k ≡ Some file → IsKnown file
      one None is others are rest k at = rest others are k at
      one (Some source) is others are rest zero at = subst IsKnown (same_Some source file at) (answer_known (parts_of item) source is)
      one (Some source) is others are rest (suc k) at = rest others are k at

      by_parts : (answer : Result (Option File) Error) → import_answer sources key (parts_of item) ≡ answer → (rest : Result (List File) Error) → imports_among sources key items ≡ rest → Others → then_others answer rest ≡ Ok row → IsKnown file
      by_parts (Ok found) is (Ok others) are rest e =
          let whole : option_to_list found ++ others ≡ row = cc e in
          one found is others are rest k (ap (λ fs. slice_get fs k) whole ∙ at)
      by_parts (Ok found) is (Err refusal) are rest e = absurd (cc e)
      by_parts (Err refusal) is others are rest e = absurd (cc e)

module _ {Y Z : Type 0} (sources : BTreeMap (String Y) (String Z)) (expansion : Expansion) (w : World) (has : HasSources sources expansion w) (key : Text) where
  -- the file that a key names is there
  named_key : (named : Option Text) (optional : Bool) (path : Text) (answer : Option File) → answer_for (file_at sources named) optional path ≡ Ok answer → if_there w named ≡ option_map (λ f. f.0) answer
  named_key None true path answer e = ap (option_map (λ f. f.0)) (let f : ◌≡◌ {A = Option File} None answer = cc e in f)
  named_key None false path answer e = absurd (cc e)
  named_key (Some other) optional path answer e = by_text (source_of sources other) (has.there other) optional e
    where
      by_text : (text : Option Text) → w.there other ≡ is_some text → (optional : Bool) → answer_for (option_map (λ t. (other, t)) text) optional path ≡ Ok answer → cond (w.there other) (Some other) None ≡ option_map (λ f. f.0) answer
      by_text None is true e = ap (λ b. cond b (Some other) None) is ∙ ap (option_map (λ f. f.0)) (let f : ◌≡◌ {A = Option File} None answer = cc e in f)
      by_text None is false e = absurd (cc e)
      by_text (Some text) is optional e = ap (λ b. cond b (Some other) None) is ∙ ap (option_map (λ f. f.0)) (let f : ◌≡◌ {A = Option File} (Some (other, text)) answer = cc e in f)

  -- the item holds what its strings stand for
  abbrev IsHeld : Item → Type 0
  IsHeld item = IsItemCooked (from_file key expansion) item

  -- what an import writes is its path
  pub written_path : (line : ImportLine) → IsHeld (Import line) → cooked w.expansion (written line.path) ≡ Ok line.path.cooked
  written_path line h = ap (λ x. cooked x (written line.path)) has.same_expansion ∙ h.inside.text

  -- what an item imports is the key of the file that it names
  item_key : (item : Item) → IsHeld item → (answer : Option File) → import_answer sources key (parts_of item) ≡ Ok answer → import_of w key (item_shape item) ≡ option_map (λ f. f.0) answer
  item_key (Import line) h answer e = ap (key_written w key) (written_path line h) ∙ named_key (key_from key line.path.cooked) line.optional (named_by (key_from key line.path.cooked) line.path.cooked) answer e
  item_key (Alias a) h answer e = ap (option_map (λ f. f.0)) (let f : ◌≡◌ {A = Option File} None answer = cc e in f)
  item_key (Assignment a) h answer e = ap (option_map (λ f. f.0)) (let f : ◌≡◌ {A = Option File} None answer = cc e in f)
  item_key (Comment text) h answer e = ap (option_map (λ f. f.0)) (let f : ◌≡◌ {A = Option File} None answer = cc e in f)
  item_key (Function f) h answer e = ap (option_map (λ f. f.0)) (let f : ◌≡◌ {A = Option File} None answer = cc e in f)
  item_key (Module m) h answer e = ap (option_map (λ f. f.0)) (let f : ◌≡◌ {A = Option File} None answer = cc e in f)
  item_key Newline h answer e = ap (option_map (λ f. f.0)) (let f : ◌≡◌ {A = Option File} None answer = cc e in f)
  item_key (Recipe r) h answer e = ap (option_map (λ f. f.0)) (let f : ◌≡◌ {A = Option File} None answer = cc e in f)
  item_key (Set s) h answer e = ap (option_map (λ f. f.0)) (let f : ◌≡◌ {A = Option File} None answer = cc e in f)
  item_key (Unexport u) h answer e = ap (option_map (λ f. f.0)) (let f : ◌≡◌ {A = Option File} None answer = cc e in f)

  -- the keys of the files that imports name
  abbrev shape_keys : List ItemShape → List Text
  shape_keys items = filter_map (import_of w key) items

  -- a file more
  one_more : (found : Option File) (others : List File) (k : Option Text) (keys : List Text) → k ≡ option_map (λ f. f.0) found → map (λ f. f.0) others ≡ keys → map (λ f. f.0) (option_to_list found ++ others) ≡ cons_option k keys
  one_more None others k keys e f = f ∙ ap (λ o. cons_option o keys) (sym e)
  one_more (Some file) others k keys e f = ap (λ ks. file.0 ∷ ks) f ∙ ap (λ o. cons_option o keys) (sym e)

  -- the keys of the files that items name
  row_keys : (items : List Item) → All IsHeld items → (row : List File) → imports_among sources key items ≡ Ok row → map (λ f. f.0) row ≡ shape_keys (item_shapes items)
  row_keys [] h row e = ap (map (λ f. f.0)) (let f : row ≡ [] = cc e in f)
  row_keys (item ∷ items) h row e =
      by_parts (import_answer sources key (parts_of item)) refl (imports_among sources key items) refl (row_keys items (all_others IsHeld item items h)) e
    where
      by_parts : (answer : Result (Option File) Error) → import_answer sources key (parts_of item) ≡ answer → (others : Result (List File) Error) → imports_among sources key items ≡ others
          → ((row : List File) → imports_among sources key items ≡ Ok row → map (λ f. f.0) row ≡ shape_keys (item_shapes items)) → then_others answer others ≡ Ok row → map (λ f. f.0) row ≡ shape_keys (item_shapes (item ∷ items))
      by_parts (Ok found) is (Ok others) are rest e =
          let whole : row ≡ option_to_list found ++ others = cc e in
          ap (map (λ f. f.0)) whole ∙ one_more found others (import_of w key (item_shape item)) (shape_keys (item_shapes items)) (item_key item (all_first IsHeld item items h) found is) (rest others are)
      by_parts (Ok found) is (Err refusal) are rest e = absurd (cc e)
      by_parts (Err refusal) is others are rest e = absurd (cc e)

  -- blank lines import nothing
  blank_imports : (item : ItemShape) → is_blank item ≡ true → import_of w key item ≡ None
  blank_imports newline_item e = refl
  blank_imports (import_item line) e = absurd (cc e)
  blank_imports other e = refl

  -- they don't count
  filled_keys : (items : List ItemShape) → shape_keys (filled items) ≡ shape_keys items
  unfolding filled
  filled_keys [] = refl
  filled_keys (item ∷ items) = by_test (is_blank item) refl (filled_keys items)
    where
      by_test : (b : Bool) → is_blank item ≡ b → shape_keys (filled items) ≡ shape_keys items → shape_keys (cond (not b) (item ∷ filled items) (filled items)) ≡ shape_keys (item ∷ items)
      by_test true is e = e ∙ ap (λ o. cons_option o (shape_keys items)) (sym (blank_imports item is))
      by_test false is e = ap (cons_option (import_of w key item)) e

  -- the keys of what the imports among items name are what the world says that they import
  pub imports_are_keys : (items : List Item) → All IsHeld items → (row : List File) → imports_among sources key items ≡ Ok row → map (λ f. f.0) row ≡ shape_keys (filled (item_shapes items))
  imports_are_keys items h row e = row_keys items h row e ∙ sym (filled_keys (item_shapes items))

  -- where the world says the file's items, the row of the file
  pub imports_are_row : (items : List Item) → All IsHeld items → w.said key ≡ Some (filled (item_shapes items)) → (row : List File) → imports_among sources key items ≡ Ok row → map (λ f. f.0) row ≡ imports_of w key
  imports_are_row items h says row e = imports_are_keys items h row e ∙ ap (imports_in w key) (sym says)
