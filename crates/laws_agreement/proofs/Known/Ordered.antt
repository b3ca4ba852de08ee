-- The attributes of recipes stand in their order where files say what texts say.
use Rattle.std.proofs.Common.{◌≡◌, ℕ, zero, suc, not, List, [], ◌∷◌, ◌++◌, sym, subst}
use Rattle.std.specs.Cmp.{IsStrictWeakOrder}
use Rattle.std.specs.List.{All}
use Rattle.std.proofs.lemmas.List.Elements.{All-append, All-cons, All-filter, All-nil, recursion_from_All}
use Rattle.std.proofs.lemmas.List.Sorted.{ranks_by}
use Rattle.just_text.specs.Tokens.{Word}
use Rattle.tree_attributes.specs.Attributes.{AttributeShape}
use Rattle.tree_attributes.specs.Sets.Order.{attribute_total, in_order, is_before}
use Rattle.tree_attributes.proofs.Sets.Sorted.{sorted_twice}
use Rattle.tree_items.specs.Files.{ItemShape, alias_item, assignment_item, comment_item, function_item, import_item, is_blank, module_item, newline_item, recipe_item, set_item, unexport_item}
use Rattle.parse_expressions.specs.Literals.{Expansion}
use Rattle.parse_attributed_items.specs.Fitting.{with_attributes}
use Rattle.parse_attributed_items.specs.Items.{IsAttributed}
use Rattle.justfile_syntax.specs.Files.{AreEntries, Entry, IsEntry, items_in, newlines}
use Rattle.justfile_syntax.specs.Reads.{Reads}
use Rattle.semver.specs.declared.Version.{Version}
use Rattle.meaning_rules.specs.Worlds.Given.{Text, filled}
use Rattle.meaning_rules.proofs.Worlds.Places.{contains_at}
use Rattle.laws_agreement.proofs.Agreement.Lists.{of_contained}
use Rattle.laws_agreement.specs.Known.Known.{WorldsAreInOrder}

-- the attributes of a recipe stand in their order
abbrev IsOrdered : ItemShape → Type 0
IsOrdered (recipe_item attributes r) = in_order attributes ≡ attributes
IsOrdered (alias_item attributes a) = Unit {0}
IsOrdered (assignment_item attributes a) = Unit {0}
IsOrdered (comment_item text) = Unit {0}
IsOrdered (function_item f) = Unit {0}
IsOrdered (import_item i) = Unit {0}
IsOrdered (module_item attributes m) = Unit {0}
IsOrdered newline_item = Unit {0}
IsOrdered (set_item attributes s) = Unit {0}
IsOrdered (unexport_item name) = Unit {0}

-- blank lines have no attributes
newlines_ordered : (n : ℕ) → All IsOrdered (newlines n)
newlines_ordered zero = All-nil IsOrdered
newlines_ordered (suc n) = All-cons IsOrdered newline_item (newlines n) tt (newlines_ordered n)

-- attributes are ranked
ranked : IsStrictWeakOrder is_before
ranked = ranks_by attribute_total (λ attribute. attribute)

-- an item with attributes in order has them in order
with_ordered : (as' : List AttributeShape) (item : ItemShape) → IsOrdered (with_attributes (in_order as') item)
with_ordered as' (alias_item old a) = tt
with_ordered as' (assignment_item old a) = tt
with_ordered as' (comment_item text) = tt
with_ordered as' (function_item f) = tt
with_ordered as' (import_item i) = tt
with_ordered as' (module_item old m) = tt
with_ordered as' newline_item = tt
with_ordered as' (recipe_item old r) = sorted_twice is_before ranked as'
with_ordered as' (set_item old s) = tt
with_ordered as' (unexport_item name) = tt

module _ (expansion : Expansion) (version : Version) where
  -- so has an item that is read after its attributes
  attributed_ordered : (item : ItemShape) (blanks : ℕ) (words rest : List Word) → IsAttributed expansion version item blanks words rest → IsOrdered item
  attributed_ordered item blanks words rest is = subst IsOrdered (sym is.whole) (with_ordered is.attributes is.bare)

  -- and each entry of a file
  entry_ordered : (item : ItemShape) (blanks : ℕ) (words rest : List Word) → IsEntry expansion version (item, blanks) words rest → IsOrdered item
  entry_ordered (alias_item as' a) blanks words rest is = tt
  entry_ordered (assignment_item as' a) blanks words rest is = tt
  entry_ordered (comment_item text) blanks words rest is = tt
  entry_ordered (function_item f) blanks words rest is = tt
  entry_ordered (import_item i) blanks words rest is = tt
  entry_ordered (module_item as' m) blanks words rest is = tt
  entry_ordered newline_item blanks words rest is = tt
  entry_ordered (recipe_item as' r) blanks words rest is = attributed_ordered (recipe_item as' r) blanks words rest is
  entry_ordered (set_item as' s) blanks words rest is = tt
  entry_ordered (unexport_item name) blanks words rest is = tt

  -- and all of them
  entries_ordered : (es : List Entry) (words : List Word) → AreEntries expansion version es words → All IsOrdered (items_in es)
  entries_ordered [] words are = All-nil IsOrdered
  entries_ordered ((item, blanks) ∷ es) words are =
      All-cons IsOrdered item (newlines blanks ++ items_in es) (entry_ordered item blanks words are.0 are.1) (All-append IsOrdered (newlines blanks) (items_in es) (newlines_ordered blanks) (entries_ordered es are.0 are.2))

  -- so it is of the items that a text says
  files_ordered : (text : Text) (items : List ItemShape) → Reads expansion version text items → All IsOrdered items
  files_ordered text items reads = let d = reads.derived in subst (All IsOrdered) (sym d.whole) (entries_ordered d.entries d.behind_mark d.stand)

-- so it is of what a file says that is reached
pub worlds_are_in_order : WorldsAreInOrder
unfolding filled
worlds_are_in_order given w stands key place attributes r reached has =
    let s = (stands.said key reached has.items).0 has.says in
    let all : All IsOrdered has.items = subst (All IsOrdered) s.are (All-filter (λ (item : ItemShape). not (is_blank item)) IsOrdered s.all (files_ordered given.expansion given.version s.text s.all s.reads)) in
    of_contained IsOrdered has.items (recipe_item attributes r) (recursion_from_All IsOrdered has.items all) (contains_at has.items place (recipe_item attributes r) has.at)
