-- The first row with a name, from a place on.
use Rattle.std.proofs.Common.{◌≡◌, ℕ, ◌+◌, ◌<◌, ◌≤◌, true, false, cond, List, ◌∷◌, length, get_or, drop, map, Some, None, refl, sym, ◌∙◌, add-one, drop-cons}
use Rattle.std.specs.Borrow.{Bor}
use Rattle.std.specs.Str.{bytes_eq}
use Rattle.std.proofs.lemmas.List.{drop_all}
use Rattle.evaluate_functions.specs.declared.function.Function.{Function}
use Rattle.evaluate_functions.specs.Names.{row_of, row_with}

-- from a place on it is the row that stands there, or one that follows
row_at : (name : List ℕ) (rows : List (Bor (List ℕ) × Function)) (i : ℕ) (row : Bor (List ℕ) × Function) → i < length rows → row ≡ get_or rows i row
    → row_with name (map row_of (drop i rows)) ≡ cond (bytes_eq row.0.now name) (Some row.1) (row_with name (map row_of (drop (i + 1) rows)))
row_at name rows i row lt is =
    let e : drop i rows ≡ row ∷ drop (i + 1) rows = rw (add-one, drop-cons rows i row lt, ← is) refl in
    rw e refl

pub row_there : (name : List ℕ) (rows : List (Bor (List ℕ) × Function)) (i : ℕ) (row : Bor (List ℕ) × Function) → i < length rows → row ≡ get_or rows i row
    → bytes_eq row.0.now name ≡ true → row_with name (map row_of (drop i rows)) ≡ Some row.1
row_there name rows i row lt is same = row_at name rows i row lt is ∙ rw same refl

pub row_later : (name : List ℕ) (rows : List (Bor (List ℕ) × Function)) (i : ℕ) (row : Bor (List ℕ) × Function) → i < length rows → row ≡ get_or rows i row
    → bytes_eq row.0.now name ≡ false → row_with name (map row_of (drop (i + 1) rows)) ≡ row_with name (map row_of (drop i rows))
row_later name rows i row lt is other = sym (row_at name rows i row lt is ∙ rw other refl)

pub row_never : (name : List ℕ) (rows : List (Bor (List ℕ) × Function)) (i : ℕ) → length rows ≤ i → row_with name (map row_of (drop i rows)) ≡ None
row_never name rows i le = rw (drop_all i rows le) refl
