-- What dropping the last line does to the lines without the blank ones at their end, and how many these are.
use Rattle.std.proofs.Common.{◌≡◌, ℕ, zero, suc, ◌+◌, ◌-◌, ◌<◌, List, [], ◌∷◌, ◌++◌, map, length, take, Some, refl, sym, ap, ◌∙◌, arith, length-append}
use Rattle.std.proofs.lemmas.List.{length-map, length-take-le, map-append, take_at, take-take}
use Rattle.std.specs.Prelude.{slice_get}
use Rattle.tree_items.specs.declared.line.Line.{Line}
use Rattle.tree_items.specs.Lines.{Piece, pieces_of}
use Rattle.parse_recipes.specs.Bodies.{unless_blank, without_blank_end, if_blank, blank_end}

unless_more : (x y : List Piece) (ys : List (List Piece)) → unless_blank x (y ∷ ys) ≡ x ∷ y ∷ ys
unless_more [] y ys = refl
unless_more (c ∷ cs) y ys = refl

drops_blank : (xs : List (List Piece)) → without_blank_end (xs ++ [] ∷ []) ≡ without_blank_end xs
drops_blank [] = refl
drops_blank (x ∷ xs) = rw (drops_blank xs) refl

keeps_text : (xs : List (List Piece)) (c : Piece) (cs : List Piece) → without_blank_end (xs ++ (c ∷ cs) ∷ []) ≡ xs ++ (c ∷ cs) ∷ []
keeps_text [] c cs = refl
keeps_text (x ∷ []) c cs = unless_more x (c ∷ cs) []
keeps_text (x ∷ z ∷ xs) c cs = rw (keeps_text (z ∷ xs) c cs) (unless_more x z (xs ++ (c ∷ cs) ∷ []))

split : {X : Type 0} (xs : List X) (i : ℕ) (x : X) → slice_get xs i ≡ Some x → length xs ≡ suc i → (front : List X) × (xs ≡ front ++ x ∷ [])
split [] i x h e = absurd cc
split (y ∷ []) zero x h e = ([], let p : y ≡ x = cc in ap (λ z. z ∷ []) p)
split (y ∷ z ∷ ys) zero x h e = absurd (omega arith)
split (y ∷ ys) (suc i) x h e = let r = split ys i x h (omega arith) in (y ∷ r.0, ap (λ zs. y ∷ zs) r.1)

last_of : {X : Type 0} (xs : List X) (x : X) → slice_get xs (length xs - 1) ≡ Some x → (front : List X) × (xs ≡ front ++ x ∷ [])
last_of [] x h = absurd cc
last_of (y ∷ ys) x h = split (y ∷ ys) (length (y ∷ ys) - 1) x h (omega arith)

front_of : {X : Type 0} (front : List X) (x : X) → take (length (front ++ x ∷ []) - 1) (front ++ x ∷ []) ≡ front
front_of front x = take_at front (x ∷ []) (length (front ++ x ∷ []) - 1) (let l : length (front ++ x ∷ []) ≡ length front + 1 = length-append front (x ∷ []) in omega arith)

blank_last : (xs : List (List Piece)) (line : List Piece) → length line ≡ 0 → without_blank_end (xs ++ line ∷ []) ≡ without_blank_end xs
blank_last xs [] h = drops_blank xs
blank_last xs (c ∷ cs) h = absurd (omega arith)

text_last : (xs : List (List Piece)) (line : List Piece) → 0 < length line → without_blank_end (xs ++ line ∷ []) ≡ xs ++ line ∷ []
text_last xs [] h = absurd (omega arith)
text_last xs (c ∷ cs) h = keeps_text xs c cs

turn_at : (xs ys front : List Line) (x : Line) → xs ≡ front ++ x ∷ [] → length x.fragments.items ≡ 0 → ys ≡ take (length xs - 1) xs → without_blank_end (map pieces_of ys) ≡ without_blank_end (map pieces_of xs)
turn_at xs ys front x is blank kept =
    let ys-is : ys ≡ front = kept ∙ (rw is (front_of front x)) in
    let none : length (pieces_of x) ≡ 0 = simp length-map blank in
    rw (is, ys-is, map-append) (sym (blank_last (map pieces_of front) (pieces_of x) none))

-- a blank line at the end falls away
pub turn : (xs ys : List Line) (x : Line) → slice_get xs (length xs - 1) ≡ Some x → length x.fragments.items ≡ 0 → ys ≡ take (length xs - 1) xs → without_blank_end (map pieces_of ys) ≡ without_blank_end (map pieces_of xs)
turn xs ys x last blank kept = let f = last_of xs x last in turn_at xs ys f.0 x f.1 blank kept

end_at : (xs front : List Line) (x : Line) → xs ≡ front ++ x ∷ [] → 0 < length x.fragments.items → map pieces_of xs ≡ without_blank_end (map pieces_of xs)
end_at xs front x is text =
    let some : 0 < length (pieces_of x) = simp length-map text in
    rw (is, map-append) (sym (text_last (map pieces_of front) (pieces_of x) some))

-- lines whose last isn't blank are kept
pub end : (xs : List Line) (x : Line) → slice_get xs (length xs - 1) ≡ Some x → 0 < length x.fragments.items → map pieces_of xs ≡ without_blank_end (map pieces_of xs)
end xs x last text = let f = last_of xs x last in end_at xs f.0 x f.1 text

kept_and_dropped : (line : List Piece) (lines : List (List Piece)) (n all : ℕ) → length lines + n ≡ all → length (unless_blank line lines) + if_blank line lines n ≡ suc all
kept_and_dropped [] [] n all h = omega arith
kept_and_dropped [] (y ∷ ys) n all h = omega arith
kept_and_dropped (c ∷ cs) lines n all h = omega arith

-- each line is kept or one of the blank ones at the end
all_lines : (lines : List (List Piece)) → length (without_blank_end lines) + blank_end lines ≡ length lines
all_lines [] = omega arith
all_lines (line ∷ lines) = kept_and_dropped line (without_blank_end lines) (blank_end lines) (length lines) (all_lines lines)

-- as many are dropped as blank ones stand at the end
pub dropped : (xs ys : List Line) → map pieces_of ys ≡ without_blank_end (map pieces_of xs) → length ys + blank_end (map pieces_of xs) ≡ length xs
dropped xs ys kept =
    let l : length ys ≡ length (without_blank_end (map pieces_of xs)) = sym (length-map ys pieces_of) ∙ ap length kept in
    let m : length (map pieces_of xs) ≡ length xs = length-map xs pieces_of in
    omega (arith, all_lines (map pieces_of xs))

-- what is left without the last is a front still
pub one_shorter : (all xs ys : List Line) → ys ≡ take (length xs - 1) xs → xs ≡ take (length xs) all → ys ≡ take (length ys) all
one_shorter all xs ys kept front =
    let l : length ys ≡ length xs - 1 = ap length kept ∙ length-take-le (length xs - 1) xs (omega arith) in
    rw l (kept ∙ ap (take (length xs - 1)) front ∙ take-take (length xs - 1) (length xs) all (omega arith))
