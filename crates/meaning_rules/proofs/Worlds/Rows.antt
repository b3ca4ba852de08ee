-- What a file imports is its row.
use Rattle.std.proofs.Common.{◌≡◌, inl, inr, sym, ◌∙◌, ap, subst, Bool, true, false, cond, Option, Some, None, List, ◌∷◌, ℕ, zero, suc, refl, []}
use Rattle.std.specs.Prelude.{slice_get, Contains, Result, Ok, Err}
use Rattle.std.specs.List.{filter_map, cons_option}
use Rattle.std.proofs.lemmas.Option.{none-some, same_Some}
use Rattle.tree_expressions.specs.Cooking.{cooked}
use Rattle.tree_items.specs.Files.{ItemShape, alias_item, assignment_item, comment_item, function_item, import_item, module_item, newline_item, recipe_item, set_item, unexport_item}
use Rattle.tree_items.specs.Items.{ImportShape}
use Rattle.modules_compilation.specs.Paths.{key_from}
use Rattle.meaning_rules.specs.Worlds.Given.{Text, World}
use Rattle.meaning_rules.specs.Worlds.Sources.{Imports}
use Rattle.meaning_rules.specs.Worlds.Modules.{if_there, import_of, imports_in, key_written, RowsAreImports}
use Rattle.meaning_rules.proofs.Worlds.Places.{contains_first, contains_cases, contains_later, contains_none}

-- ---- what is kept of a list

abbrev IsFrom : {X Y : Type 0} → (X → Option Y) → List X → Y → Type 0
IsFrom {X} {Y} h xs y = (k : ℕ) × (x : X) × (slice_get xs k ≡ Some x) × (h x ≡ Some y)

from_later : {X Y : Type 0} (h : X → Option Y) (x : X) (xs : List X) (y : Y) → IsFrom h xs y → IsFrom h (x ∷ xs) y
from_later h x xs y p = (suc p.0, p.1, p.2, p.3)

from_if : {X Y : Type 0} (h : X → Option Y) (x : X) (xs : List X) (y : Y) (o : Option Y) → h x ≡ o → (Contains (filter_map h xs) y → IsFrom h xs y) → Contains (cons_option o (filter_map h xs)) y → IsFrom h (x ∷ xs) y
from_if h x xs y None is f c = from_later h x xs y (f c)
from_if h x xs y (Some z) is f c = elim (contains_cases z (filter_map h xs) y c) [
  | inl s ↦ (0, x, refl, is ∙ ap (λ q. Some q) s)
  | inr d ↦ from_later h x xs y (f d)
]

kept_from : {X Y : Type 0} (h : X → Option Y) (xs : List X) (y : Y) → Contains (filter_map h xs) y → IsFrom h xs y
kept_from h [] y c = absurd (contains_none [] y refl c)
kept_from h (x ∷ xs) y c = from_if h x xs y (h x) refl (kept_from h xs y) c

kept_first : {X Y : Type 0} (h : X → Option Y) (x : X) (xs : List X) (y : Y) (o : Option Y) → o ≡ Some y → Contains (cons_option o (filter_map h xs)) y
kept_first h x xs y None e = absurd (none-some y e)
kept_first h x xs y (Some z) e = subst (Contains (z ∷ filter_map h xs)) (same_Some z y e) (contains_first z (filter_map h xs))

kept_later : {X Y : Type 0} (h : X → Option Y) (xs : List X) (y : Y) (o : Option Y) → Contains (filter_map h xs) y → Contains (cons_option o (filter_map h xs)) y
kept_later h xs y None c = c
kept_later h xs y (Some z) c = contains_later z (filter_map h xs) y c

kept_at : {X Y : Type 0} (h : X → Option Y) (xs : List X) (y : Y) (k : ℕ) (x : X) → slice_get xs k ≡ Some x → h x ≡ Some y → Contains (filter_map h xs) y
kept_at h [] y k x e is = absurd (none-some x e)
kept_at h (z ∷ zs) y zero x e is = kept_first h z zs y (h z) (ap h (same_Some z x e) ∙ is)
kept_at h (z ∷ zs) y (suc k) x e is = kept_later h zs y (h z) (kept_at h zs y k x e is)

-- ---- rows

module _ (w : World) (file other : Text) where
  there_if : (key : Text) (b : Bool) → w.there key ≡ b → cond b (Some key) None ≡ Some other → (key ≡ other) × (w.there key ≡ true)
  there_if key true is e = (same_Some key other e, is)
  there_if key false is e = absurd (none-some other e)

  there_of : (key : Option Text) → if_there w key ≡ Some other → (key ≡ Some other) × (w.there other ≡ true)
  there_of None e = absurd (none-some other e)
  there_of (Some key) e = let p = there_if key (w.there key) refl e in (ap (λ k. Some k) p.0, subst (λ k. w.there k ≡ true) p.0 p.1)

  written_of : {E : Type 0} (r : Result Text E) → key_written w file r ≡ Some other → (path : Text) × (r ≡ Ok path) × (key_from file path ≡ Some other) × (w.there other ≡ true)
  written_of (Ok path) e = let p = there_of (key_from file path) e in (path, refl, p.0, p.1)
  written_of (Err refused) e = absurd (none-some other e)

  line_of : (item : ItemShape) → import_of w file item ≡ Some other → (line : ImportShape) × (item ≡ import_item line) × (key_written w file (cooked w.expansion line.path) ≡ Some other)
  line_of (import_item line) e = (line, refl, e)
  line_of (alias_item attributes a) e = absurd (none-some other e)
  line_of (assignment_item attributes a) e = absurd (none-some other e)
  line_of (comment_item text) e = absurd (none-some other e)
  line_of (function_item f) e = absurd (none-some other e)
  line_of (module_item attributes m) e = absurd (none-some other e)
  line_of newline_item e = absurd (none-some other e)
  line_of (recipe_item attributes r) e = absurd (none-some other e)
  line_of (set_item attributes s) e = absurd (none-some other e)
  line_of (unexport_item name) e = absurd (none-some other e)

  from_row : (said : Option (List ItemShape)) → w.said file ≡ said → Contains (imports_in w file said) other → Imports w file other
  from_row None says c = absurd (contains_none [] other refl c)
  from_row (Some items) says c =
      let p = kept_from (import_of w file) items other c in
      let l = line_of p.1 p.3 in
      let r = written_of (cooked w.expansion l.0.path) l.2 in
      record {
        place = p.0;
        optional = l.0.optional;
        path = r.0;
        line = record {
          line = l.0;
          has = record { items = items; says = says; at = p.2 ∙ ap (λ i. Some i) l.1 };
          is_optional = refl;
          written = r.1;
        };
        names = r.2;
        there = r.3;
      }

  is_there : (key : Option Text) → key ≡ Some other → w.there other ≡ true → if_there w key ≡ Some other
  is_there key e t = ap (if_there w) e ∙ ap (λ b. cond b (Some other) None) t

  to_row : Imports w file other → Contains (imports_in w file (w.said file)) other
  to_row i =
      let items = i.line.has.items in
      let line = i.line.line in
      subst (λ said. Contains (imports_in w file said) other) (sym i.line.has.says)
      (kept_at (import_of w file) items other i.place (import_item line) i.line.has.at (ap (key_written w file) i.line.written ∙ is_there (key_from file i.path) i.names i.there))

pub rows_are_imports : RowsAreImports
rows_are_imports w file other = (from_row w file other (w.said file) refl, to_row w file other)
