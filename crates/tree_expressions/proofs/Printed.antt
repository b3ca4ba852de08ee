-- The texts of rows and interpolations from a place on.
use Rattle.std.proofs.Common.{◌≡◌, ℕ, ◌+◌, ◌<◌, ◌≤◌, List, [], ◌∷◌, ◌++◌, length, get_or, drop, codes, refl, ap, append_assoc, append-nil, add-one, drop-cons}
use Rattle.std.proofs.lemmas.List.{drop_all}
use Rattle.tree_expressions.specs.declared.string_literal.StringLiteral.{StringLiteral}
use Rattle.tree_expressions.specs.declared.expression.Expression.{Expression}
use Rattle.tree_expressions.specs.Shape.{shape_of, shapes_of, interpolations_of, written}
use Rattle.tree_expressions.specs.Printing.{text_of, text_of_all, text_of_others, text_of_interpolations}

-- what is written of a row goes on by one element
pub others_next : (xs : List Expression) (i : ℕ) (x : Expression) (done all : List ℕ) → i < length xs → x ≡ get_or xs i x
    → done ++ text_of_others (shapes_of (drop i xs)) ≡ all
    → (done ++ (codes ", " ++ (text_of (shape_of x) ++ []))) ++ text_of_others (shapes_of (drop (i + 1) xs)) ≡ all
unfolding text_of
others_next xs i x done all lt is more =
    let step : drop i xs ≡ x ∷ drop (i + 1) xs = rw (add-one, drop-cons xs i x lt, ← is) refl in
    let told = rw step at more in
    simp (append_assoc, append-nil) told

-- at its end the whole row is written
pub row_end : (all : List Expression) (first : Expression) (others : List Expression) (i : ℕ) (done : List ℕ) → all ≡ first ∷ others → length others ≤ i
    → done ++ text_of_others (shapes_of (drop i others)) ≡ text_of_others (shapes_of others) → text_of (shape_of first) ++ done ≡ text_of_all (shapes_of all)
unfolding text_of
row_end all first others i done whole le more =
    let told = rw (drop_all i others le) at more in
    rw whole (ap (λ text. text_of (shape_of first) ++ text) (rw append-nil at told))

-- what is written of interpolations goes on by one
pub interpolations_next : (xs : List (Expression × StringLiteral)) (i : ℕ) (x : Expression × StringLiteral) (part done all : List ℕ) → i < length xs → x ≡ get_or xs i x
    → part ≡ written x.1 → done ++ text_of_interpolations (interpolations_of (drop i xs)) ≡ all
    → (done ++ ([] ++ (text_of (shape_of x.0) ++ part))) ++ text_of_interpolations (interpolations_of (drop (i + 1) xs)) ≡ all
unfolding text_of
interpolations_next xs i x part done all lt is same more =
    let step : drop i xs ≡ x ∷ drop (i + 1) xs = rw (add-one, drop-cons xs i x lt, ← is) refl in
    let told = rw step at more in
    rw same (simp append_assoc (simp append_assoc at told))

-- at their end all are written
pub interpolations_end : (xs : List (Expression × StringLiteral)) (i : ℕ) (start done all : List ℕ) → length xs ≤ i
    → done ++ text_of_interpolations (interpolations_of (drop i xs)) ≡ all → start ++ done ≡ start ++ all
unfolding text_of
interpolations_end xs i start done all le more =
    let told = rw (drop_all i xs le) at more in
    ap (λ text. start ++ text) (rw append-nil at told)
