-- Rows of places that grow.
use Rattle.std.proofs.Common.{◌≡◌, ◌⊎◌, inl, inr, ℕ, zero, suc, ◌+◌, ◌<◌, ◌≤◌, min, Bool, true, false, cond, nat_eq, nat_lt, List, [], ◌∷◌, ◌++◌, append_assoc, drop, get_or, length, replicate, set, Option, Some, None, refl, ap, sym, ◌∙◌, arith}
use Rattle.std.specs.Prelude.{slice_get, option_map}
use Rattle.std.specs.Global.{Vec}
use Rattle.std.proofs.Math.Dec.{eqb-suc-suc, eqb-suc-zero, eqb-zero-suc}
use Rattle.std.proofs.Math.ListN.{drop_of_length-le}
use Rattle.std.proofs.lemmas.Bool.{cases_lt, le-ltb, lt-ltb}
use Rattle.std.proofs.lemmas.List.{append-nil, get_or-replicate, length-replicate}
use Rattle.std.proofs.lemmas.Option.{slice_get_past, slice_get-get_or}
use Rattle.resolve_order.specs.Needs.{rows as rows_in}
use Rattle.resolve_analysis.specs.Opening.{AreRows, marked_reads, reads_if_marked}
use Rattle.resolve_analysis.specs.declared.recipes.ResolvedRecipe.{ResolvedRecipe}

-- nothing is put behind a row
pub same_row : (row : Option (List ℕ)) → row ≡ option_map (λ xs. xs ++ []) row
same_row None = refl
same_row (Some xs) = ap (λ ys. Some ys) (sym (append-nil xs))

nothing_put : (b : Bool) (more : List ℕ) (row : Option (List ℕ)) → b ≡ false → row ≡ option_map (λ xs. xs ++ cond b more []) row
nothing_put true more row e = absurd (cc e)
nothing_put false more row e = same_row row

-- the row at a place has more behind it, and the others are what they were
pub row_put : (rows : List (Vec ℕ)) (i : ℕ) (d new : Vec ℕ) (more : List ℕ) (home : ℕ) → i < length rows → new.items ≡ (get_or rows i d).items ++ more
    → slice_get (rows_in (set rows i new)) home ≡ option_map (λ row. row ++ cond (nat_eq i home) more []) (slice_get (rows_in rows) home)
row_put [] i d new more home lt e = absurd (omega (arith, lt))
row_put (r ∷ rs) zero d new more zero lt e = ap (λ xs. Some xs) e
row_put (r ∷ rs) zero d new more (suc home) lt e = nothing_put (nat_eq 0 (suc home)) more (slice_get (rows_in rs) home) (eqb-zero-suc home)
row_put (r ∷ rs) (suc i) d new more zero lt e = nothing_put (nat_eq (suc i) 0) more (Some r.items) (eqb-suc-zero i)
row_put (r ∷ rs) (suc i) d new more (suc home) lt e =
    row_put rs i d new more home (omega (arith, lt)) e ∙ ap (λ b. option_map (λ row. row ++ cond b more []) (slice_get (rows_in rs) home)) (sym (eqb-suc-suc i home))

-- a place past the rows has none
pub row_past : (rows : List (Vec ℕ)) (i : ℕ) (more : List ℕ) (home : ℕ) → length rows ≤ i → slice_get (rows_in rows) home ≡ option_map (λ row. row ++ cond (nat_eq i home) more []) (slice_get (rows_in rows) home)
row_past [] i more home le = refl
row_past (r ∷ rs) zero more home le = absurd (omega (arith, le))
row_past (r ∷ rs) (suc i) more zero le = nothing_put (nat_eq (suc i) 0) more (Some r.items) (eqb-suc-zero i)
row_past (r ∷ rs) (suc i) more (suc home) le =
    row_past rs i more home (omega (arith, le)) ∙ ap (λ b. option_map (λ row. row ++ cond b more []) (slice_get (rows_in rs) home)) (sym (eqb-suc-suc i home))

put_twice : (one two : List ℕ) (row : Option (List ℕ)) → option_map (λ xs. xs ++ two) (option_map (λ xs. xs ++ one) row) ≡ option_map (λ xs. xs ++ (one ++ two)) row
put_twice one two None = refl
put_twice one two (Some xs) = ap (λ ys. Some ys) (append_assoc xs one two)

-- one recipe more
pub reads_more : (home : ℕ) (recipes : List ResolvedRecipe) (marks : List (Option ℕ)) (i : ℕ) (recipe : ResolvedRecipe) (mark : Option ℕ) (old new : Option (List ℕ))
    → drop i recipes ≡ recipe ∷ drop (i + 1) recipes → drop i marks ≡ mark ∷ drop (i + 1) marks → new ≡ option_map (λ row. row ++ reads_if_marked home recipe mark) old
    → option_map (λ row. row ++ marked_reads home (drop (i + 1) recipes) (drop (i + 1) marks)) new ≡ option_map (λ row. row ++ marked_reads home (drop i recipes) (drop i marks)) old
reads_more home recipes marks i recipe mark old new one two is =
    let rest = marked_reads home (drop (i + 1) recipes) (drop (i + 1) marks) in
    ap (option_map (λ row. row ++ rest)) is
    ∙ put_twice (reads_if_marked home recipe mark) rest old
    ∙ ap (λ rs. option_map (λ row. row ++ marked_reads home rs (mark ∷ drop (i + 1) marks)) old) (sym one)
    ∙ ap (λ ms. option_map (λ row. row ++ marked_reads home (drop i recipes) ms) old) (sym two)

no_marks : (home : ℕ) (recipes : List ResolvedRecipe) → marked_reads home recipes [] ≡ []
no_marks home [] = refl
no_marks home (r ∷ rs) = refl

-- no recipe or no mark is left
pub reads_end : (home : ℕ) (recipes : List ResolvedRecipe) (marks : List (Option ℕ)) (i : ℕ) → min (length recipes) (length marks) ≤ i → marked_reads home (drop i recipes) (drop i marks) ≡ []
reads_end home recipes marks i past = elim (cases_lt i (length recipes)) [
  | inl lt ↦
      let none : drop i marks ≡ [] = drop_of_length-le marks (omega arith) in
      ap (marked_reads home (drop i recipes)) none ∙ no_marks home (drop i recipes)
  | inr le ↦ ap (λ rs. marked_reads home rs (drop i marks)) (drop_of_length-le recipes le)
]

abbrev none_read : List ℕ
none_read = []

empty_row : (count home : ℕ) → home < count → slice_get (replicate count none_read) home ≡ Some none_read
empty_row count home lt =
    let many : length (replicate count none_read) ≡ count = length-replicate count none_read in
    slice_get-get_or (replicate count none_read) home none_read (omega arith) ∙ ap (λ xs. Some xs) (get_or-replicate count home none_read none_read lt)

no_row : (count home : ℕ) → count ≤ home → slice_get (replicate count none_read) home ≡ None
no_row count home le =
    let many : length (replicate count none_read) ≡ count = length-replicate count none_read in
    slice_get_past (replicate count none_read) home (omega arith)

row_case : (count home : ℕ) (row : List ℕ) → (home < count) ⊎ (count ≤ home) → option_map (λ xs. xs ++ row) (slice_get (replicate count none_read) home) ≡ cond (nat_lt home count) (Some row) None
row_case count home row (inl lt) = ap (option_map (λ xs. xs ++ row)) (empty_row count home lt) ∙ ap (λ b. cond b (Some row) None) (sym (lt-ltb home count lt))
row_case count home row (inr le) = ap (option_map (λ xs. xs ++ row)) (no_row count home le) ∙ ap (λ b. cond b (Some row) None) (sym (le-ltb home count le))

-- rows that were empty
pub rows_of_empty : (count : ℕ) (more : ℕ → List ℕ) (empty rows : List (List ℕ)) → empty ≡ replicate count [] → ((home : ℕ) → slice_get rows home ≡ option_map (λ row. row ++ more home) (slice_get empty home)) → AreRows count more rows
rows_of_empty count more empty rows none so home = so home ∙ ap (λ rs. option_map (λ row. row ++ more home) (slice_get rs home)) none ∙ row_case count home (more home) (cases_lt home count)
