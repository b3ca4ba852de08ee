-- The constants of the language by their numbers and by their names.
use Rattle.std.proofs.Common.{◌≡◌, refl, sym, ◌∙◌, ap, Bool, true, false, cond, not, if◌then◌else◌, ◌&&◌, ◌||◌, List, [], ◌∷◌, Option, Some, None, ℕ, zero, suc, ◌+◌, arith, true≢false}
use Rattle.std.specs.Prelude.{slice_get}
use Rattle.std.specs.List.{list_any}
use Rattle.std.specs.Option.{option_or}
use Rattle.std.specs.Str.{bytes_eq}
use Rattle.std.proofs.lemmas.Option.{none-some, same_Some}
use Rattle.std.proofs.lemmas.Slice.Eq.{bytes_eq-Decides}
use Rattle.just_value.specs.Constants.{constant_rows}
use Rattle.modules_compilation.specs.Tables.{at}
use Rattle.tree_items.specs.Contexts.{last_named}
use Rattle.resolve_analysis.specs.Bound.{constant_number, numbered_from}
use Rattle.meaning_rules.specs.Worlds.Given.{Text}

abbrev Row : Type 0
Row = List ℕ × List ℕ

-- no two rows have one name
abbrev are_distinct : List Row → Bool
are_distinct [] = true
are_distinct (row ∷ rows) = not (list_any (λ (other : Row). bytes_eq row.0 other.0) rows) && are_distinct rows

two_true : (a b : Bool) → (not a && b) ≡ true → (a ≡ false) × (b ≡ true)
two_true true b e = absurd (true≢false (sym e))
two_true false b e = (refl, e)

if_any : (test : Row → Bool) (row : Row) (rows : List Row) (i : ℕ) (other : Row) → ((i : ℕ) → list_any test rows ≡ false → slice_get rows i ≡ Some other → test other ≡ true → ⊥)
    → (b : Bool) → test row ≡ b → (b || list_any test rows) ≡ false → slice_get (row ∷ rows) i ≡ Some other → test other ≡ true → ⊥
if_any test row rows i other later true is e at passes = true≢false e
if_any test row rows zero other later false is e at passes = true≢false (sym passes ∙ ap test (sym (same_Some row other at)) ∙ is)
if_any test row rows (suc i) other later false is e at passes = later i e at passes

none_passes : (test : Row → Bool) (rows : List Row) (i : ℕ) (other : Row) → list_any test rows ≡ false → slice_get rows i ≡ Some other → test other ≡ true → ⊥
none_passes test [] i other e at passes = none-some other at
none_passes test (row ∷ rows) i other e at passes = if_any test row rows i other (λ j. none_passes test rows j other) (test row) refl e at passes

module _ (name : Text) where
  -- the row at the place of the number has the name, and its text is that of the name
  record IsRow (base : ℕ) (rows : List Row) (number : ℕ) : Type 0 where
    pub place : ℕ
    pub row : Row
    pub is : base + place ≡ number
    pub found : slice_get rows place ≡ Some row
    pub named : row.0 ≡ name
    pub text : at rows name ≡ Some row.1

  by_first : (base : ℕ) (row : Row) (rows : List Row) (number : ℕ) → (b : Bool) → bytes_eq row.0 name ≡ b → (if b then Some base else None) ≡ Some number → IsRow base (row ∷ rows) number
  by_first base row rows number true is e =
      let same : base ≡ number = same_Some base number e in
      let named : row.0 ≡ name = (bytes_eq-Decides row.0 name).0 is in
      record {
        place = 0;
        row = row;
        is = omega (arith, same);
        found = refl;
        named = named;
        text = ap (λ (b : Bool). cond b (Some row.1) (at rows name)) ((bytes_eq-Decides name row.0).1 (sym named));
      }
  by_first base row rows number false is e = absurd (none-some number e)

  behind : (base : ℕ) (row : Row) (rows : List Row) (number : ℕ) → list_any (λ (other : Row). bytes_eq row.0 other.0) rows ≡ false → IsRow (suc base) rows number → IsRow base (row ∷ rows) number
  behind base row rows number apart r =
      let sum = r.is in
      let at_place = r.place in
      record { place = suc r.place; row = r.row; is = omega (arith, sum); found = r.found; named = r.named; text = by_test (bytes_eq name row.0) refl }
    where
      by_test : (b : Bool) → bytes_eq name row.0 ≡ b → at (row ∷ rows) name ≡ Some r.row.1
      by_test true is = absurd (none_passes (λ (other : Row). bytes_eq row.0 other.0) rows r.place r.row apart r.found ((bytes_eq-Decides row.0 r.row.0).1 (sym ((bytes_eq-Decides name row.0).0 is) ∙ sym r.named)))
      by_test false is = ap (λ (b : Bool). cond b (Some row.1) (at rows name)) is ∙ r.text

  by_rest : (base : ℕ) (row : Row) (rows : List Row) (number : ℕ) → list_any (λ (other : Row). bytes_eq row.0 other.0) rows ≡ false
      → (o : Option ℕ) → (o ≡ Some number → IsRow (suc base) rows number) → option_or o (if bytes_eq row.0 name then Some base else None) ≡ Some number → IsRow base (row ∷ rows) number
  by_rest base row rows number apart None later e = by_first base row rows number (bytes_eq row.0 name) refl e
  by_rest base row rows number apart (Some m) later e = behind base row rows number apart (later e)

  numbered_row : (base : ℕ) (rows : List Row) (number : ℕ) → are_distinct rows ≡ true → last_named name (numbered_from base rows) ≡ Some number → IsRow base rows number
  numbered_row base [] number d e = absurd (none-some number e)
  numbered_row base (row ∷ rows) number d e =
      let two = two_true (list_any (λ (other : Row). bytes_eq row.0 other.0) rows) (are_distinct rows) d in
      by_rest base row rows number two.0 (last_named name (numbered_from (suc base) rows)) (numbered_row (suc base) rows number two.1) e

  all_distinct : are_distinct constant_rows ≡ true
  all_distinct = refl

  -- the constant of a number has this text, by its number and by its name
  pub constant_text : (number : ℕ) → constant_number name ≡ Some number → (row : Row) × (slice_get constant_rows number ≡ Some row) × (at constant_rows name ≡ Some row.1)
  constant_text number e =
      let r = numbered_row 0 constant_rows number all_distinct e in
      let sum = r.is in
      let same : r.place ≡ number = omega (arith, sum) in
      (r.row, ap (slice_get constant_rows) (sym same) ∙ r.found, r.text)
