-- The order of values: element by element, each byte by byte. Two values are equal exactly if their lists are.
use Rattle.std.specs.Prelude.{◌≡◌, ℕ, List, Bool}
use Rattle.std.specs.declared.cmp.Ordering.{Ordering}
use Rattle.std.specs.Ordering.{nat_cmp, eq_by_cmp}
use Rattle.std.specs.Str.{bytes_eq}
use Rattle.std.specs.Cmp.Lexicographic.{slice_cmp, pointwise, texts_ties, lists_ties}

-- texts one after the other, each by its bytes
abbrev pub values_cmp : List (List ℕ) → List (List ℕ) → Ordering
values_cmp = slice_cmp (slice_cmp nat_cmp)

-- as many texts, with the same bytes at each place
abbrev pub values_eq : List (List ℕ) → List (List ℕ) → Bool
values_eq = pointwise bytes_eq

-- two values are equal where the order tells them not apart
pub values_ties : (xs ys : List (List ℕ)) → values_eq xs ys ≡ eq_by_cmp values_cmp xs ys
values_ties = lists_ties (slice_cmp nat_cmp) texts_ties
