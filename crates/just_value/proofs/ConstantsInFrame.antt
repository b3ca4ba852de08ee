-- Constants that are bound one after the other.
use Rattle.std.proofs.Common.{◌≡◌, ℕ, zero, suc, ◌+◌, ◌<◌, Bool, true, false, cond, eqb, List, [], ◌∷◌, ◌++◌, length, get_or, map, take, Some, slice_get, refl, sym, ap, subst, ◌∙◌, arith, eqb-true, eq-eqb, ne_eqb, length-take}
use Rattle.std.proofs.lemmas.Bool.{eqb-false}
use Rattle.std.proofs.lemmas.List.{take_more, length-map}
use Rattle.std.specs.Borrow.{Bor}
use Rattle.just_value.specs.Constants.{row_of}
use Rattle.just_value.specs.Frames.{BoundRow, Rebinds, BindsRows, constant_binding}

by_test : {G : Type 0} (b : Bool) → (b ≡ true → G) → (b ≡ false → G) → G
by_test true holds fails = holds refl
by_test false holds fails = fails refl

eqb_more : (n m : ℕ) → eqb (suc n) (suc m) ≡ eqb n m
eqb_more n m =
    by_test (eqb n m)
    (λ e. eq-eqb (suc n) (suc m) (ap suc (eqb-true n m e)) ∙ sym e)
    (λ e. ne_eqb (suc n) (suc m) (λ same. eqb-false n m e (let back : n ≡ m = omega (arith, same) in back)) ∙ sym e)

-- one more element at the end
slice_get_push : {X : Type 0} (xs : List X) (x : X) (n : ℕ) → slice_get (xs ++ x ∷ []) n ≡ cond (eqb n (length xs)) (Some x) (slice_get xs n)
slice_get_push [] x zero = refl
slice_get_push [] x (suc n) = rw (ne_eqb (suc n) 0 (λ z. omega (arith, z))) refl
slice_get_push (y ∷ ys) x zero = rw (ne_eqb 0 (length (y ∷ ys)) (λ z. omega (arith, z))) refl
slice_get_push (y ∷ ys) x (suc n) = slice_get_push ys x n ∙ ap (λ t. cond t (Some x) (slice_get ys n)) (sym (eqb_more n (length ys)))

pub get_or_mapped : {X Y : Type 0} (f : X → Y) (xs : List X) (i : ℕ) (d : X) → get_or (map f xs) i (f d) ≡ f (get_or xs i d)
get_or_mapped f [] i d = refl
get_or_mapped f (x ∷ xs) zero d = refl
get_or_mapped f (x ∷ xs) (suc i) d = get_or_mapped f xs i d

-- one more row
row_more : (rows : List (List ℕ × List ℕ)) (i : ℕ) (row : List ℕ × List ℕ) (old new : List BoundRow) → length rows ≡ i → BindsRows rows old → Rebinds old (constant_binding i row) new → BindsRows (rows ++ row ∷ []) new
row_more rows i row old new long so_far rebound = λ n.
    let more : slice_get (rows ++ row ∷ []) n ≡ cond (eqb n i) (Some row) (slice_get rows n) = slice_get_push rows row n ∙ ap (λ k. cond (eqb n k) (Some row) (slice_get rows n)) long in
    by_test (eqb n i)
    (λ e.
    let same : n ≡ i = eqb-true n i e in
    rebound n ∙ rw (e, more) (rw e (ap (λ k. Some (constant_binding k row)) (sym same))))
    (λ e. rebound n ∙ rw (e, more) (rw e (so_far n)))

-- what stands for a row where there is none
abbrev pub no_row : Bor (List ℕ) × Bor (List ℕ)
no_row = (record { ref_ptr = (0, 0); now = [] }, record { ref_ptr = (0, 0); now = [] })

pub one_row_more : (raw : List (Bor (List ℕ) × Bor (List ℕ))) (rows : List (List ℕ × List ℕ)) (i : ℕ) (d : Bor (List ℕ) × Bor (List ℕ)) (b : BoundRow) (old new : List BoundRow) → map row_of raw ≡ rows → i < length raw
    → b ≡ constant_binding i (row_of (get_or raw i d)) → BindsRows (take i rows) old → Rebinds old b new → BindsRows (take (i + 1) rows) new
one_row_more raw rows i d b old new is lt row so_far rebound =
    let within : i < length rows = omega (arith, lt, ap length is, length-map raw row_of) in
    let here : get_or rows i (row_of d) ≡ row_of (get_or raw i d) = ap (λ l. get_or l i (row_of d)) (sym is) ∙ get_or_mapped row_of raw i d in
    let more : take (i + 1) rows ≡ take i rows ++ row_of (get_or raw i d) ∷ [] = take_more rows i (row_of d) within ∙ ap (λ r. take i rows ++ r ∷ []) here in
    let long : length (take i rows) ≡ i = omega (arith, length-take i rows, within) in
    subst (λ l. BindsRows l new) (sym more) (row_more (take i rows) i (row_of (get_or raw i d)) old new long so_far (subst (λ x. Rebinds old x new) row rebound))
