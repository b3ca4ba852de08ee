-- Tables by key: entries in byte order of their keys.
use Rattle.std.specs.Prelude.{ℕ, List, [], map, Option}
use Rattle.std.specs.BTreeMap.{insert_entry}
use Rattle.std.specs.Borrow.{Bor}
use Rattle.std.specs.Cmp.Lexicographic.{slice_cmp}
use Rattle.std.specs.List.{fold}
use Rattle.std.specs.List.Sorted.{IsStrictlySortedBy}
use Rattle.std.specs.Map.{lookup, keys_of}
use Rattle.std.specs.Ordering.{nat_cmp}
use Rattle.std.specs.Str.{bytes_eq}
use Rattle.std.specs.declared.cmp.Ordering.{Ordering}

-- texts byte by byte
abbrev pub text_cmp : List ℕ → List ℕ → Ordering
text_cmp = slice_cmp nat_cmp

-- the texts of keys that are borrowed
abbrev pub texts : List (Bor (List ℕ)) → List (List ℕ)
texts keys = map (λ key. key.now) keys

module _ {V : Type 0} where
  -- entries by the texts of their keys
  abbrev pub by_text : List (Bor (List ℕ) × V) → List (List ℕ × V)
  by_text entries = map (λ entry. (entry.0.now, entry.1)) entries

  -- the value at a key
  abbrev pub at : List (List ℕ × V) → List ℕ → Option V
  at table key = lookup (bytes_eq key) table

  -- the table with the value at the key, in place of an earlier one
  unfoldable pub with_entry : List (List ℕ × V) → List ℕ → V → List (List ℕ × V)
  with_entry table key value = insert_entry text_cmp table key value

  -- each key is below those after it
  abbrev pub IsAscending : List (List ℕ × V) → Type 0
  IsAscending table = IsStrictlySortedBy text_cmp (keys_of table)

  -- the table of entries that are put in one after the other
  abbrev pub of_entries : List (List ℕ × V) → List (List ℕ × V)
  of_entries entries = fold (λ table entry. with_entry table entry.0 entry.1) [] entries
