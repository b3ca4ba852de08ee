-- Texts of the elements of a list, for the proofs of this crate.
use Rattle.std.proofs.Common.{◌≡◌, ℕ, ◌+◌, ◌<◌, List, ◌++◌, length, get_or, take, map}
use Rattle.std.specs.List.{flat_map}
use Rattle.tree_expressions.proofs.TextsInRow.{texts_next as next}

-- the texts of the elements up to a place, and of the one there
pub texts_next : {A B : Type 0} (view : A → B) (text : B → List ℕ) (xs : List A) (i : ℕ) (x : A) → i < length xs → x ≡ get_or xs i x
    → flat_map text (map view (take i xs)) ++ text (view x) ≡ flat_map text (map view (take (i + 1) xs))
texts_next = next
