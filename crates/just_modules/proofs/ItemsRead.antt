-- The attributes of items that are read break no rule.
use Rattle.std.proofs.Common.{◌≡◌, inl, inr, sym, subst, zero, suc, ℕ, ◌++◌, ◌∷◌, [], List, None, refl}
use Rattle.std.specs.Prelude.{Contains}
use Rattle.std.specs.BTreeMap.{BTreeMap}
use Rattle.std.specs.declared.string.String.{String}
use Rattle.std.proofs.lemmas.List.Elements.{Contains-append_cases}
use Rattle.just_text.specs.Tokens.{Word}
use Rattle.tree_attributes.specs.Attributes.{AttributeShape}
use Rattle.tree_attributes.specs.Sets.Order.{in_order}
use Rattle.tree_items.specs.Files.{ItemShape, alias_item, assignment_item, comment_item, function_item, import_item, module_item, newline_item, recipe_item, set_item, unexport_item}
use Rattle.tree_items.specs.Recipes.{RecipeShape}
use Rattle.parse_expressions.specs.Literals.{Expansion}
use Rattle.parse_attributed_items.specs.Fitting.{argument_fault, options_among, with_attributes}
use Rattle.parse_attributed_items.specs.Rules.{fault_of}
use Rattle.justfile_syntax.specs.Files.{AreEntries, Entry, IsEntry, items_in, newlines}
use Rattle.justfile_syntax.specs.Reads.{Reads}
use Rattle.semver.specs.declared.Version.{Version}
use Rattle.modules_compilation.specs.declared.module_node.File.{File}
use Rattle.modules_sources.specs.ReadingOrder.{AreFilesOf, IsOfModule}
use Rattle.meaning_rules.proofs.Worlds.Places.{contains_cases, contains_none, place_of}
use Rattle.meaning_rules.specs.Worlds.Given.{Text}
use Rattle.just_modules.specs.Fitting.{FitsAsWritten, IsParsed}

module _ (expansion : Expansion) (version : Version) where
  recipe_fits : (attributes written : List AttributeShape) (r : RecipeShape) (bare : ItemShape) → argument_fault expansion written bare ≡ None
      → recipe_item attributes r ≡ with_attributes (in_order written) bare → FitsAsWritten expansion (recipe_item attributes r)
  recipe_fits attributes written r (recipe_item old s) fits e =
      let given : attributes ≡ in_order written = cc e in
      let same : r ≡ s = cc e in
      (written, given, subst (λ (q : RecipeShape). fault_of expansion q.name (options_among written) q.parameters ≡ None) (sym same) fits)
  recipe_fits attributes written r (alias_item old a) fits e = absurd (cc e)
  recipe_fits attributes written r (assignment_item old a) fits e = absurd (cc e)
  recipe_fits attributes written r (comment_item t) fits e = absurd (cc e)
  recipe_fits attributes written r (function_item f) fits e = absurd (cc e)
  recipe_fits attributes written r (import_item i) fits e = absurd (cc e)
  recipe_fits attributes written r (module_item old m) fits e = absurd (cc e)
  recipe_fits attributes written r newline_item fits e = absurd (cc e)
  recipe_fits attributes written r (set_item old s) fits e = absurd (cc e)
  recipe_fits attributes written r (unexport_item n) fits e = absurd (cc e)

  entry_fits : (item : ItemShape) (blanks : ℕ) (words rest : List Word) → IsEntry expansion version (item, blanks) words rest → FitsAsWritten expansion item
  entry_fits (recipe_item attributes r) blanks words rest is = recipe_fits attributes is.attributes r is.bare is.fit.arguments is.whole
  entry_fits (alias_item attributes a) blanks words rest is = tt
  entry_fits (assignment_item attributes a) blanks words rest is = tt
  entry_fits (comment_item t) blanks words rest is = tt
  entry_fits (function_item f) blanks words rest is = tt
  entry_fits (import_item i) blanks words rest is = tt
  entry_fits (module_item attributes m) blanks words rest is = tt
  entry_fits newline_item blanks words rest is = tt
  entry_fits (set_item attributes s) blanks words rest is = tt
  entry_fits (unexport_item n) blanks words rest is = tt

  newline_fits : (count : ℕ) (item : ItemShape) → Contains (newlines count) item → FitsAsWritten expansion item
  newline_fits zero item c = absurd (contains_none [] item refl c)
  newline_fits (suc count) item c = elim (contains_cases newline_item (newlines count) item c) [
    | inl e ↦ subst (FitsAsWritten expansion) e tt
    | inr d ↦ newline_fits count item d
  ]

  entries_fit : (es : List Entry) (words : List Word) → AreEntries expansion version es words → (item : ItemShape) → Contains (items_in es) item → FitsAsWritten expansion item
  entries_fit [] words are item c = absurd (contains_none [] item refl c)
  entries_fit ((i, blanks) ∷ es) words (rest, is, are) item c = elim (contains_cases i (newlines blanks ++ items_in es) item c) [
    | inl e ↦ subst (FitsAsWritten expansion) e (entry_fits i blanks words rest is)
    | inr d ↦ elim (Contains-append_cases (newlines blanks) (items_in es) item d) [
      | inl n ↦ newline_fits blanks item n
      | inr n ↦ entries_fit es rest are item n
    ]
  ]

  -- each item that a text says has attributes that fit
  pub read_fits : (text : Text) (items : List ItemShape) → Reads expansion version text items → (item : ItemShape) → Contains items item → FitsAsWritten expansion item
  read_fits text items reads item c = entries_fit reads.derived.entries reads.derived.behind_mark reads.derived.stand item (subst (λ xs. Contains xs item) reads.derived.whole c)

-- ---- the files of a module that is loaded

module _ {Y Z : Type 0} (sources : BTreeMap (String Y) (String Z)) (expansion : Expansion) (version : Version) (owner : ℕ) where
  pub file_parsed : (file : File) → IsOfModule sources expansion version owner file → IsParsed expansion file
  file_parsed file is = record { version = version; text = is.text; says = is.says; whole = is.whole }

  pub files_parsed : (own : Text) (files : List File) → AreFilesOf sources expansion version owner own files → (file : File) → Contains files file → IsParsed expansion file
  files_parsed own files are file c = let p = place_of files file c in file_parsed file (are.order.followed.each p.0 file p.1)
