-- Rows that grow, and an entry that is put into one.
use Rattle.std.proofs.Common.{◌≡◌, ℕ, zero, suc, ◌+◌, ◌<◌, Bool, true, false, ◌&&◌, cond, eqb, eqb-true, nat_eq, List, [], ◌∷◌, ◌++◌, drop, map, set, length, get_or, Option, Some, None, slice_get, refl, sym, ap, ◌∙◌, arith}
use Rattle.std.proofs.Math.Dec.{eqb-suc-suc, eqb-suc-zero, eqb-zero-suc}
use Rattle.std.specs.Global.{Vec}
use Rattle.std.specs.Option.{option_or}
use Rattle.modules_compilation.specs.declared.place.Place.{Place}
use Rattle.resolve_recipes.specs.Standing.{entry_in, is_place, last_place, read, row_in, row_of}

pub entry_past : (row : List (Option ℕ)) (i : ℕ) → entry_in (row ++ None ∷ []) i ≡ entry_in row i
entry_past [] zero = refl
entry_past [] (suc i) = refl
entry_past (x ∷ row) zero = refl
entry_past (x ∷ row) (suc i) = entry_past row i

pub entry_put : (row : List (Option ℕ)) (i j place : ℕ) → i < length row → entry_in (set row i (Some place)) j ≡ cond (nat_eq i j) (Some place) (entry_in row j)
entry_put [] i j place lt = absurd (omega (arith, lt))
entry_put (x ∷ row) zero zero place lt = refl
entry_put (x ∷ row) zero (suc j) place lt = rw (eqb-zero-suc j) refl
entry_put (x ∷ row) (suc i) zero place lt = rw (eqb-suc-zero i) refl
entry_put (x ∷ row) (suc i) (suc j) place lt = rw (eqb-suc-suc i j) (entry_put row i j place (omega (arith, lt)))

pub row_past : (files : List (Vec (Option ℕ))) (row : Vec (Option ℕ)) (i : ℕ) → row.items ≡ [] → row_in (files ++ row ∷ []) i ≡ row_in files i
row_past [] row zero e = e
row_past [] row (suc i) e = refl
row_past (x ∷ files) row zero e = refl
row_past (x ∷ files) row (suc i) e = row_past files row i e

pub row_put : (files : List (Vec (Option ℕ))) (row : Vec (Option ℕ)) (i j : ℕ) → i < length files → row_in (set files i row) j ≡ cond (nat_eq i j) row.items (row_in files j)
row_put [] row i j lt = absurd (omega (arith, lt))
row_put (x ∷ files) row zero zero lt = refl
row_put (x ∷ files) row zero (suc j) lt = rw (eqb-zero-suc j) refl
row_put (x ∷ files) row (suc i) zero lt = rw (eqb-suc-zero i) refl
row_put (x ∷ files) row (suc i) (suc j) lt = rw (eqb-suc-suc i j) (row_put files row i j (omega (arith, lt)))

pub row_there : (files : List (Vec (Option ℕ))) (i : ℕ) (d : Vec (Option ℕ)) → i < length files → row_in files i ≡ (get_or files i d).items
row_there [] i d lt = absurd (omega (arith, lt))
row_there (x ∷ files) zero d lt = refl
row_there (x ∷ files) (suc i) d lt = row_there files i d (omega (arith, lt))

-- an item in the row of its file
pub item_put : (files rows : List (Vec (Option ℕ))) (old row : Vec (Option ℕ)) (item other : Place) (place : ℕ) → item.file < length files → old ≡ get_or files item.file old → rows ≡ set files item.file row
    → ((i : ℕ) → entry_in row.items i ≡ cond (nat_eq item.item i) (Some place) (entry_in old.items i))
    → entry_in (row_in rows other.file) other.item ≡ cond (is_place item other) (Some place) (entry_in (row_in files other.file) other.item)
item_put files rows old row item other place lt is grown put =
    ap (λ fs. entry_in (row_in fs other.file) other.item) grown ∙ ap (λ r. entry_in r other.item) (row_put files row item.file other.file lt) ∙ cases (nat_eq item.file other.file) refl
  where
    cases : (b : Bool) → nat_eq item.file other.file ≡ b → entry_in (cond b row.items (row_in files other.file)) other.item ≡ cond (b && nat_eq item.item other.item) (Some place) (entry_in (row_in files other.file) other.item)
    cases true e = put other.item ∙ ap (λ r. cond (nat_eq item.item other.item) (Some place) (entry_in r other.item)) (ap (λ v. v.items) is ∙ sym (row_there files item.file old lt) ∙ ap (row_in files) (eqb-true item.file other.file e))
    cases false e = refl

-- one place more
pub one_placed : (rest : Option ℕ) (is : Bool) (place : ℕ) (old : Option ℕ) → option_or rest (cond is (Some place) old) ≡ option_or (option_or rest (cond is (Some place) None)) old
one_placed None true place old = refl
one_placed None false place old = refl
one_placed (Some x) is place old = refl
