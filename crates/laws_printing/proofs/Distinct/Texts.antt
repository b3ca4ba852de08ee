-- The items that a text says.
use Rattle.std.proofs.Common.{◌≡◌, None, ℕ, zero, suc, List, [], ◌∷◌, ◌++◌, sym, subst}
use Rattle.std.specs.List.{All}
use Rattle.std.proofs.lemmas.List.Elements.{All-append, All-cons, All-nil}
use Rattle.just_text.specs.Tokens.{Word}
use Rattle.tree_attributes.specs.Attributes.{AttributeShape}
use Rattle.tree_attributes.specs.Sets.Order.{in_order}
use Rattle.tree_items.specs.Files.{ItemShape, alias_item, assignment_item, comment_item, function_item, import_item, module_item, newline_item, recipe_item, set_item, unexport_item}
use Rattle.parse_expressions.specs.Literals.{Expansion}
use Rattle.parse_attributed_items.specs.Bare.{IsBare}
use Rattle.parse_attributed_items.specs.Fitting.{repeated, with_attributes}
use Rattle.parse_attributed_items.specs.Items.{IsAttributed}
use Rattle.justfile_syntax.specs.Files.{AreEntries, Entry, IsEntry, items_in, newlines}
use Rattle.semver.specs.declared.Version.{Version}
use Rattle.laws_printing.proofs.Formatting.Fitting.{fit_in_order}
use Rattle.laws_printing.specs.Distinct.Distinct.{FilesAreApart, IsApart}
use Rattle.laws_printing.proofs.Distinct.Names.{distinct_apart, variadic_last}

newlines_apart : (n : ℕ) → All IsApart (newlines n)
newlines_apart zero = All-nil IsApart
newlines_apart (suc n) = All-cons IsApart newline_item (newlines n) tt (newlines_apart n)

module _ (expansion : Expansion) (version : Version) where
  -- an item without attributes, after attributes of which none stands twice that may stand once
  bare_apart : (as' : List AttributeShape) (item : ItemShape) (blanks : ℕ) (words rest : List Word) → repeated as' ≡ None → IsBare expansion version item blanks words rest → IsApart (with_attributes as' item)
  bare_apart as' (alias_item old a) blanks words rest single is = tt
  bare_apart as' (assignment_item old a) blanks words rest single is = tt
  bare_apart as' (comment_item text) blanks words rest single is = tt
  bare_apart as' (function_item f) blanks words rest single is = distinct_apart f.parameters is.0.8
  bare_apart as' (import_item i) blanks words rest single is = tt
  bare_apart as' (module_item old m) blanks words rest single is = tt
  bare_apart as' newline_item blanks words rest single is = tt
  bare_apart as' (recipe_item [] r) blanks words rest single is = (distinct_apart _ is.distinct, variadic_last expansion r.parameters is.behind_name is.behind_parameters is.parameters, single)
  bare_apart as' (recipe_item (x ∷ xs) r) blanks words rest single is = absurd is.0
  bare_apart as' (set_item old s) blanks words rest single is = tt
  bare_apart as' (unexport_item name) blanks words rest single is = tt

  attributed_apart : (item : ItemShape) (blanks : ℕ) (words rest : List Word) → IsAttributed expansion version item blanks words rest → IsApart item
  attributed_apart item blanks words rest is =
      let fit = fit_in_order expansion is.attributes is.bare is.fit in subst IsApart (sym is.whole) (bare_apart (in_order is.attributes) is.bare blanks is.behind rest fit.single is.item)

  entry_apart : (item : ItemShape) (blanks : ℕ) (words rest : List Word) → IsEntry expansion version (item, blanks) words rest → IsApart item
  entry_apart (alias_item as' a) blanks words rest is = tt
  entry_apart (assignment_item as' a) blanks words rest is = tt
  entry_apart (comment_item text) blanks words rest is = tt
  entry_apart (function_item f) blanks words rest is = attributed_apart (function_item f) blanks words rest is
  entry_apart (import_item i) blanks words rest is = tt
  entry_apart (module_item as' m) blanks words rest is = tt
  entry_apart newline_item blanks words rest is = tt
  entry_apart (recipe_item as' r) blanks words rest is = attributed_apart (recipe_item as' r) blanks words rest is
  entry_apart (set_item as' s) blanks words rest is = tt
  entry_apart (unexport_item name) blanks words rest is = tt

  entries_apart : (es : List Entry) (words : List Word) → AreEntries expansion version es words → All IsApart (items_in es)
  entries_apart [] words are = All-nil IsApart
  entries_apart ((item, blanks) ∷ es) words are =
      All-cons IsApart item (newlines blanks ++ items_in es) (entry_apart item blanks words are.0 are.1) (All-append IsApart (newlines blanks) (items_in es) (newlines_apart blanks) (entries_apart es are.0 are.2))

pub files_are_apart : FilesAreApart
files_are_apart expansion version text items reads = let d = reads.derived in subst (All IsApart) (sym d.whole) (entries_apart expansion version d.entries d.behind_mark d.stand)
